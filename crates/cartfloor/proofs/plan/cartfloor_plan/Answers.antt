-- `plan::cartfloor_plan` plans a job that is let through, so that it is ready, and both buffers are long enough. Assumes nothing.
use mathlib.Core.Path.{◌≡◌}
use native.Mathlib.Omega.{arith}
use lib.ListN.{length}
use Rattle.model.specs.ReadJob.{accepted}
use Rattle.model.specs.Promises.{check_verdict}
use Rattle.job.specs.Lists.{job_of}
use Rattle.cartfloor.proofs.Verdicts.{ready, stored}
use Rattle.cartfloor.proofs.plan.cartfloor_plan.Goals as goal

pub plan_job-r-requires : goal.plan_job-r-requires
plan_job-r-requires c =
    let text = c.args.text.now in
    let n = length c.args.store.now in
    let j = job_of c.in-Ok.job in
    let e : accepted j ≡ check_verdict text n = rw c.in-Ok.is at c.admit.ensures.says in
    (ready text n j e, stored text n j e, omega (arith, c.if-sheet-sheet_least.false, c.sheet_least.ensures))
