-- `field_ends` says whether nothing of the field is left: past the text's end it has ended, and else a tab ends it. Assumes nothing.
use mathlib.Core.Path.{◌∙◌}
use native.Mathlib.Omega.{arith}
use borrow.Author.Tests.{le-leb}
use Rattle.text.proofs.FieldDigits.{ends_past, ends_tab}
use Rattle.text.proofs.scan.field_ends.Goals as goal

pub returns-then-s-at : goal.returns-then-s-at
returns-then-s-at c = le-leb _ _ c.if-s-at.true ∙ ends_past c.args.s.now c.args.at c.if-s-at.true

pub returns-else-s-at : goal.returns-else-s-at
returns-else-s-at c = ends_tab c.args.s.now c.args.at (omega arith)
