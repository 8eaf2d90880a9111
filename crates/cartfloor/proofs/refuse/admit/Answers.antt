-- `admit` tests the store of a job that was read, and so has no more cells than a job may have. Assumes nothing.
use mathlib.Core.Path.{sym, ap, ◌∙◌}
use Rattle.job.specs.Lists.{job_of}
use Rattle.model.proofs.Ready.{read_ready}
use Rattle.reader.specs.Reading.{verdict_of}
use Rattle.cartfloor.proofs.refuse.admit.Goals as goal

pub store_least-requires : goal.store_least-requires
store_least-requires c = (read_ready c.args.text.now (job_of c.in_ok-job.job) (sym c.read.ensures.says ∙ ap verdict_of c.in_ok-job.was)).fit.few_cells
