-- `untraded` decides whether no cart trades places from a step to the next. Invariant: none of the first k rides' does. Assumes nothing.
use Rattle.std.proofs.Common.{ℕ, ◌<◌}
use Rattle.planjudge.specs.PlanTests.{Trades}
use Rattle.planjudge.proofs.clear.untraded.Given as goal

abbrev pub invariant-loop-k : goal.invariant-loop-k
invariant-loop-k l = (m : ℕ) → m < l.k → Trades l.rides l.t m → ⊥
