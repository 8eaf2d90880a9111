-- `all_clear` decides whether the carts are in nobody's way at each step up to h. Assumes nothing.
use Rattle.std.proofs.Common.{arith, below_more}
use Rattle.model.specs.Limits.{max_cells}
use Rattle.job.proofs.Tested.{denied, told}
use Rattle.planjudge.proofs.PlanSteps.{nobody}
use Rattle.planjudge.proofs.clear.all_clear.Goals as goal

pub loop-t-init : goal.loop-t-init
loop-t-init c = (λ s l. absurd (omega arith), nobody max_cells)

pub returns-then-not-clear : goal.returns-then-not-clear
returns-then-not-clear c = denied (λ f. c.clear.ensures.0.1 c.if-not-clear.true (f c.loop-t.t (omega arith)))

pub loop-t-preserved : goal.loop-t-preserved
loop-t-preserved c = (below_more _ _ c.loop-t.invariant.0 (c.clear.ensures.0.0 c.if-not-clear.false), c.clear.ensures.1 c.if-not-clear.false)

pub returns-else-not-clear : goal.returns-else-not-clear
returns-else-not-clear c = told (λ s h. below_more _ _ c.loop-t.invariant.0 (c.clear.ensures.0.0 c.if-not-clear.false) s (omega arith))
