-- `Draft::take` takes in what the line says: the word that opens it decides, and what follows the word and its tab are the fields. Assumes nothing.
use mathlib.Core.Path.{◌∙◌}
use Rattle.job.specs.Lists.{job_of}
use Rattle.reader.proofs.Words.{part_says}
use Rattle.reader.proofs.draft.Draft.take.Goals as goal

pub returns-clause-says : goal.returns-clause-says
returns-clause-says c = c.take_fields.ensures.says ∙ part_says (job_of c.args.self.now.job) c.args.line.now _ _ (rw c.in-Some.is at c.word_of.ensures)
