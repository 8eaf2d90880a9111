-- `Floor::all_lead` decides whether each path leads from its cart to its call. Invariant: those before the index do. Assumes nothing.
use Rattle.std.proofs.Common.{ℕ, ◌<◌, get_or}
use Rattle.planjudge.specs.PlanTests.{ride_at, walk_at, call_at, Led}
use Rattle.planjudge.proofs.walks.Floor.all_lead.Given as goal

abbrev pub invariant-loop-path : goal.invariant-loop-path
invariant-loop-path l = (k : ℕ) → k < l.path-index → Led l.self (get_or l.carts (ride_at l.paths k).cart 0) (call_at l.calls (ride_at l.paths k)).cell (walk_at l.paths k)
