-- `only_number` reads the only field behind a word: one number, and the line ends after it. Assumes nothing.
use mathlib.Core.Path.{◌∙◌, ap, sym}
use Rattle.sheet.specs.Parts.{as_read, only_of}
use Rattle.sheet.proofs.Fields.{only_last, only_more, past_none, past_some}
use Rattle.sheet.proofs.numbers.only_number.Goals as goal

pub returns-in_err-number : goal.returns-in_err-number
returns-in_err-number c =
    ap as_read c.from_residual.ensures ∙ sym (ap only_of (past_none c.args.word.now c.args.line.now (sym c.first_number.ensures.number ∙ c.in_err-number.was)))

pub returns-then-number-line : goal.returns-then-number-line
returns-then-number-line c =
    sym (ap only_of (past_some c.args.word.now c.args.line.now (sym c.first_number.ensures.number ∙ c.in_ok-number.was)) ∙ only_more _ _ _ c.if-number-line.true)

pub returns : goal.returns
returns c =
    sym (ap only_of (past_some c.args.word.now c.args.line.now (sym c.first_number.ensures.number ∙ c.in_ok-number.was)) ∙ only_last _ _ _ c.if-number-line.false)
