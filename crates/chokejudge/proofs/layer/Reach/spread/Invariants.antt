-- `spread` adds each cell of a row. Invariant: the cells before the one at the index were added. Assumes nothing.
use mathlib.Core.Path.{◌≡◌}
use Rattle.chokejudge.specs.Grown.{Grown}
use Rattle.chokejudge.proofs.GrownLaws.{Each}
use Rattle.chokejudge.proofs.layer.Reach.spread.Given as goal

abbrev pub invariant-loop-v : goal.invariant-loop-v
invariant-loop-v l = Grown l.shut l.t (Each l.row (λ u v. v ≡ u) l.v-index) l.initial.self l.self × (l.self.head ≡ l.initial.self.head)
