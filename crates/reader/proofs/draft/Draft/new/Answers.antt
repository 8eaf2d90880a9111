-- `Draft::new` has a table of zeros, which is that of no job. Assumes nothing.
use mathlib.Core.Path.{refl}
use Rattle.reader.proofs.Noted.{noted_zeros}
use Rattle.reader.proofs.draft.Draft.new.Goals as goal

pub invariant_of-result-clause-noted : goal.invariant_of-result-clause-noted
invariant_of-result-clause-noted c = rw (c.new.ensures, c.new-2.ensures, c.new-3.ensures, c.new-4.ensures) (noted_zeros 4176 refl)
