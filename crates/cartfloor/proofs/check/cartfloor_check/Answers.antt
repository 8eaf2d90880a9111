-- `check::cartfloor_check` judges the sheet of a job that is let through, so that it is ready. Assumes nothing.
use lib.ListN.{length}
use Rattle.job.specs.Lists.{job_of}
use Rattle.cartfloor.proofs.Verdicts.{ready}
use Rattle.cartfloor.proofs.check.cartfloor_check.Goals as goal

pub judge_sheet-requires : goal.judge_sheet-requires
judge_sheet-requires c = ready c.args.text.now (length c.args.store.now) (job_of c.in-Ok.job) (rw c.in-Ok.is at c.admit.ensures.says)
