-- `Floor::leads` decides whether a ride is a walk from a cell to a cell. Assumes nothing.
use Rattle.std.proofs.Common.{arith, sym, ◌∙◌}
use Rattle.job.proofs.Tested.{by_equal, same_answer}
use Rattle.planjudge.proofs.PlanSteps.{cell_at, long, ends_of}
use Rattle.planjudge.proofs.walks.Floor.leads.Goals as goal

pub returns-then-ride-from : goal.returns-then-ride-from
returns-then-ride-from c =
    let a = c.args in
    same_answer (λ w. record { walks = w; ends = ends_of a.ride.now (omega arith) a.b (rw c.from.ensures at c.if-ride-from.true) }) (λ l. l.walks) c.walks.ensures

pub returns-else-ride-from : goal.returns-else-ride-from
returns-else-ride-from c =
    let r = c.args.ride.now in
    by_equal _ _ (λ e. absurd (c.if-ride-from.false e)) (λ l. rw c.from.ensures (sym (cell_at r r.last (omega arith)) ∙ l.ends r.last (long r (omega arith))))
