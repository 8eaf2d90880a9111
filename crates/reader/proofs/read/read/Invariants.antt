-- What is left of the text, read on from the job so far, says what the whole text says, and no more lines than bytes were read. The measure is what is left.
use lib.ListN.{length}
use Rattle.job.specs.Lists.{job_of}
use Rattle.text.specs.Rest.{rest_of}
use Rattle.reader.proofs.Turns.{ReadSoFar}
use Rattle.reader.proofs.read.read.Given as goal

abbrev pub invariant-loop-lines : goal.invariant-loop-lines
invariant-loop-lines l = ReadSoFar l.text (job_of l.draft.job) (rest_of l.lines) l.line

abbrev pub decreases-loop-lines : goal.decreases-loop-lines
decreases-loop-lines l = length (rest_of l.lines)
