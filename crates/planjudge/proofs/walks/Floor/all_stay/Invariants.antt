-- `Floor::all_stay` decides whether each spare cart walks from its own cell. Invariant: those before the index do. Assumes nothing.
use Rattle.std.proofs.Common.{ℕ, ◌<◌, get_or}
use Rattle.planjudge.specs.PlanTests.{ride_at, walk_at, Walks}
use Rattle.planjudge.proofs.walks.Floor.all_stay.Given as goal

abbrev pub invariant-loop-spare : goal.invariant-loop-spare
invariant-loop-spare l = (k : ℕ) → k < l.spare-index → Walks l.self (get_or l.carts (ride_at l.spares k).cart 0) (walk_at l.spares k)
