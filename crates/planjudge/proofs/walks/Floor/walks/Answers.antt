-- `Floor::walks` decides whether a ride is a walk from a cell. Assumes nothing.
use Rattle.std.proofs.Common.{arith, sym, ◌∙◌}
use Rattle.job.proofs.Tested.{by_equal, denied}
use Rattle.planjudge.proofs.PlanSteps.{cell_at, walks_of, walks_at}
use Rattle.planjudge.proofs.walks.Floor.walks.Goals as goal

pub returns-then-not-allowed : goal.returns-then-not-allowed
returns-then-not-allowed c =
    let a = c.args in
    denied (λ w. c.allowed.ensures.1 c.if-not-allowed.true (walks_at a.ride.now (omega arith) a.self.now a.a w c.loop-t.t (omega arith)))

pub returns : goal.returns
returns c =
    let a = c.args in
    by_equal _ _ (λ e. walks_of a.ride.now (omega arith) a.self.now a.a e (λ t h. c.loop-t.invariant t (omega arith))) (λ w. sym (cell_at a.ride.now 0 (omega arith)) ∙ w.starts.1)
