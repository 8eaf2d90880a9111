-- `all_clear` decides whether the carts are in nobody's way at each step up to h. Invariant: they are not below t, and nobody stands in the table. Assumes nothing.
use Rattle.std.proofs.Common.{ℕ, ◌<◌, ◌≡◌, None, get_or}
use Rattle.planjudge.specs.PlanTests.{Clear}
use Rattle.planjudge.proofs.clear.all_clear.Given as goal

abbrev pub invariant-loop-t : goal.invariant-loop-t
invariant-loop-t l = ((s : ℕ) → s < l.t → Clear l.rides s) × ((c : ℕ) → get_or l.on c None ≡ None)
