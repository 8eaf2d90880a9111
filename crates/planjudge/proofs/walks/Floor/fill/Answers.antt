-- `Floor::fill` makes the tables of the job. Assumes nothing.
use Rattle.floor.proofs.JobTables.{calls_apart, shut_of}
use Rattle.planjudge.proofs.walks.Floor.fill.Goals as goal

pub bays-self-requires : goal.bays-self-requires
bays-self-requires c = rw c.as_slice-2.ensures.value (calls_apart c.args.job.now c.requires.0)

pub returns : goal.returns
returns c = record { marks = rw c.as_slice.ensures.value at c.join.ensures; shuts = shut_of c.args.job.now (rw c.as_slice-2.ensures.value at c.bays-self.ensures) }
