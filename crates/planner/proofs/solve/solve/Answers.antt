-- `solve` meets its contract: the wiped store is a flow that uses no node; serving all calls on it gives a flow that serves them all, or the marks of a search that failed,
-- from which the answer is read. Assumes nothing.
use borrow.Author.Rules.{rules}
use Rattle.job.specs.Lists.{job_of}
use Rattle.floor.proofs.JobTables.{calls_apart}
use Rattle.planner.proofs.SolveParts.{stuck}
use Rattle.planner.proofs.solve.solve.Goals as goal

pub by_deadline-order-requires : goal.by_deadline-order-requires
by_deadline-order-requires c = (c.as_slice.ensures.fits, rw c.as_slice.ensures.value (calls_apart c.args.job.now c.requires.0))

pub returns-in-Err : goal.returns-in-Err
returns-in-Err c =
    let a = c.args.job.now in
    let (_, holds, one) = c.in-Err.ensures in
    (search rules, c.list_chokes.ensures (job_of a) (rw (c.as_slice-in-Err.ensures.value, c.serve_all.ensures.0.grid) (stuck a holds one)))
