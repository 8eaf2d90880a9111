-- `plan::plan_job` meets its contract: what is solved can be written, and what is written is the answer. Its text is short, so the packed number fits.
-- Assumes nothing.
use native.Mathlib.Omega.{arith}
use borrow.Author.Rules.{rules}
use Rattle.model.specs.Promises.{RightChokes}
use Rattle.model.proofs.Floor.{path_known, spare_known}
use Rattle.job.specs.Lists.{job_of}
use Rattle.job.specs.Held.{as_chokes}
use Rattle.planner.specs.Solved.{PlanHeld}
use Rattle.planner.proofs.Sheets.{plan_short, chokes_short, plan_written, chokes_written}
use Rattle.planner.proofs.plan.plan_job.Goals as goal
use Rattle.planner.proofs.plan.plan_job.Goals.{In-Plan, In-Cannot}

-- What is solved: a plan, or choke points.
planned : (c : In-Plan) → PlanHeld (job_of c.args.job.now) c.solve.new.rides
planned c = c.in-Plan.ensures.1

choked : (c : In-Cannot) → RightChokes (job_of c.args.job.now) (as_chokes c.in-Cannot.chokes.items)
choked c = c.in-Cannot.ensures.1

pub put_plan-requires : goal.put_plan-requires
put_plan-requires c =
    let right = planned (goal.at.put_plan-requires c).In-Plan in (
      c.requires.0,
      search rules,
      (λ p m. path_known (job_of c.args.job.now) c.requires.0.fit p (right.0.served.leads p m)),
      (λ r m. spare_known (job_of c.args.job.now) c.requires.0.fit r (right.0.stay r m)),
      c.requires.2,
    )

pub packed-requires : goal.packed-requires
packed-requires c =
    let right = planned (goal.at.packed-requires c).In-Plan in
    omega (arith, c.put_plan.ensures.next, plan_short (job_of c.args.job.now) c.requires.0.fit _ _ right.0)

pub returns-in-Plan : goal.returns-in-Plan
returns-in-Plan c =
    let right = planned (goal.at.returns-in-Plan c).In-Plan in
    (c.in-Plan.ensures.0, plan_written (job_of c.args.job.now) c.args.sheet.now _ _ _ c.packed.ensures _ _ right c.put_plan.ensures)

pub packed-requires-in-Cannot : goal.packed-requires-in-Cannot
packed-requires-in-Cannot c =
    let right = choked (goal.at.packed-requires-in-Cannot c).In-Cannot in
    let written = rw c.as_slice.ensures.value at c.put_cannot.ensures in
    omega (arith, written.next, chokes_short (job_of c.args.job.now) c.requires.0.fit (as_chokes c.in-Cannot.chokes.items) right.0)

pub returns-in-Cannot : goal.returns-in-Cannot
returns-in-Cannot c =
    let right = choked (goal.at.returns-in-Cannot c).In-Cannot in (
      c.in-Cannot.ensures.0,
      chokes_written (job_of c.args.job.now) c.args.sheet.now _ _ _ c.packed-in-Cannot.ensures (as_chokes c.in-Cannot.chokes.items) right (rw c.as_slice.ensures.value at c.put_cannot.ensures),
    )
