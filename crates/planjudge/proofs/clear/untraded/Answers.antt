-- `untraded` decides whether no cart trades places from a step to the next. Assumes nothing.
use Rattle.std.proofs.Common.{arith, below_more}
use Rattle.job.proofs.Tested.{told, denied}
use Rattle.planjudge.proofs.PlanSteps.{no_move}
use Rattle.planjudge.proofs.clear.untraded.Goals as goal
use Rattle.planjudge.proofs.clear.untraded.Goals.{else-t-from-via-then-t-from+else-trades, else-t-from-via-else-t-from}

pub returns-then-trades : goal.returns-then-trades
returns-then-trades c = denied (λ u. u c.loop-k.k c.loop-k-test.true (c.trades.ensures.0 c.if-trades.true))

pub loop-k-preserved : goal.loop-k-preserved
loop-k-preserved c =
    below_more _ _ c.loop-k.invariant (elim c.else-t-from.branch [
      | else-t-from-via-then-t-from+else-trades w ↦ w.trades.ensures.1 w.if-trades.false
      | else-t-from-via-else-t-from w ↦ no_move c.args.rides.now c.args.t c.loop-k.k (omega arith)
    ])

pub returns : goal.returns
returns c = told (λ k h. c.loop-k.invariant k (omega arith))
