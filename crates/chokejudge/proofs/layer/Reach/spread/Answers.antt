-- `spread` adds each cell of a row. Invariant: the cells before the one at the index were added. Assumes nothing.
use mathlib.Core.Path.{◌≡◌, ◌∙◌}
use Rattle.chokejudge.proofs.GrownLaws.{grown_roomy, each_more}
use Rattle.chokejudge.proofs.layer.Reach.spread.Goals as goal

pub add-requires : goal.add-requires
add-requires c = grown_roomy c.loop-v.invariant.0 c.requires

pub loop-v-preserved : goal.loop-v-preserved
loop-v-preserved c = (each_more c.args.row.now (λ u v. v ≡ u) c.loop-v.v-index c.loop-v-test.true c.loop-v.invariant.0 c.add.ensures.0, c.add.ensures.1 ∙ c.loop-v.invariant.1)
