-- `Floor::walks` decides whether a ride is a walk. Invariant: its steps below t are allowed. Assumes nothing.
use Rattle.std.proofs.Common.{ℕ, ◌+◌, ◌<◌, get_or}
use Rattle.planjudge.specs.PlanTests.{Allowed}
use Rattle.planjudge.proofs.walks.Floor.walks.Given as goal

abbrev pub invariant-loop-t : goal.invariant-loop-t
invariant-loop-t l = (s : ℕ) → s < l.t → Allowed l.self s (get_or l.ride.cells s 0) (get_or l.ride.cells (s + 1) 0)
