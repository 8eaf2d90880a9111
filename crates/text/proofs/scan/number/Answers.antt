-- `number` reads the number that is the field at `at`: the digits there, if the field ends behind them. No loop. Assumes nothing.
use mathlib.Core.Path.{◌≡◌, sym, ◌∙◌}
use Rattle.text.specs.Scan.{found, digits_at}
use Rattle.text.proofs.FieldDigits.{number_ends, number_goes_on, number_without}
use Rattle.text.proofs.scan.number.Goals as goal
use Rattle.text.proofs.scan.number.Goals.{After-field_ends}

pub returns-in_err-number : goal.returns-in_err-number
returns-in_err-number c = let a = c.args in c.from_residual.ensures ∙ number_without a.s.now a.at (sym c.in_err-number.ensures)

-- Past the `?` the digits are a number.
read : (c : After-field_ends) → let n = c.in_ok-number.number in digits_at c.args.s.now c.args.at ≡ found n.value n.next
read c = sym c.in_ok-number.ensures

pub returns-then-not-field_ends : goal.returns-then-not-field_ends
returns-then-not-field_ends c =
    let a = c.args in
    let n = c.in_ok-number.number in
    number_goes_on a.s.now a.at n.value n.next (read (goal.at.returns-then-not-field_ends c).After-field_ends) (sym c.field_ends.ensures ∙ c.if-not-field_ends.true)

pub returns : goal.returns
returns c =
    let a = c.args in
    let n = c.in_ok-number.number in
    number_ends a.s.now a.at n.value n.next (read (goal.at.returns c).After-field_ends) (sym c.field_ends.ensures ∙ c.if-not-field_ends.false)
