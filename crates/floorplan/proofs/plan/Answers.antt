-- `plan` meets its contract, which says nothing: what it calls gets what it asks for. A refusal's line is that of a job, and so below 1,000. Assumes nothing.
use native.Mathlib.Omega.{arith}
use Rattle.model.proofs.RefusedLine.{planned_line}
use Rattle.floorplan.proofs.plan.Goals as goal

pub refused-requires : goal.refused-requires
refused-requires g c =
    let r = c.cartfloor_plan-r in
    (omega arith, omega (arith, planned_line r.ensures (omega (arith, c.if-from-r.true, c.from.ensures.0))))
