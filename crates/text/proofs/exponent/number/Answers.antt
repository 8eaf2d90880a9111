-- `number` reads the number that is the field at `at`, with an exponent or without: the digits there, and then the rest of the field. No loop. Assumes nothing.
use mathlib.Core.Path.{◌≡◌, sym, ◌∙◌}
use Rattle.text.specs.Scan.{found, digits_at}
use Rattle.text.proofs.FieldDigits.{digits_small, scaled_rest, scaled_without}
use Rattle.text.proofs.exponent.number.Goals as goal
use Rattle.text.proofs.exponent.number.Goals.{In_ok-number}

pub returns-in_err-number : goal.returns-in_err-number
returns-in_err-number c = let a = c.args in c.from_residual.ensures ∙ scaled_without a.s.now a.at (sym c.in_err-number.ensures)

-- Past the `?` the digits are a number.
read : (c : In_ok-number) → let n = c.in_ok-number.number in digits_at c.args.s.now c.args.at ≡ found n.value n.next
read c = sym c.in_ok-number.ensures

pub with_power-requires : goal.with_power-requires
with_power-requires c =
    let a = c.args in
    let n = c.in_ok-number.number in
    digits_small a.s.now a.at n.value n.next (read (goal.at.with_power-requires c).In_ok-number)

pub returns : goal.returns
returns c =
    let a = c.args in
    let n = c.in_ok-number.number in
    c.with_power.ensures ∙ scaled_rest a.s.now a.at n.value n.next (read (goal.at.returns c).In_ok-number)
