-- `with_power` reads what stands behind the digits of a field: nothing, or the mark of an exponent, perhaps a plus, and one digit, which is read as a number that ends the field. Each test
-- that fails leaves no exponent: the laws of `Powers`. No loop. Assumes nothing.
use Prim.Native.Nat.{◌+◌, ◌<◌}
use mathlib.Core.Path.{◌≡◌, sym, ap, ◌∙◌}
use mathlib.Core.Bool.{true, false}
use native.Mathlib.Omega.{arith}
use lib.ListN.{length, get_or, drop}
use Rattle.model.specs.Text.{is_mark}
use Rattle.model.specs.ReadJob.{is_empty}
use Rattle.text.specs.Scan.{found, field_of, number_at}
use Rattle.text.proofs.FieldDigits.{goes_on}
use Rattle.text.proofs.Powers.{plus_small, power_bad, power_fault, power_long, power_none, power_one, power_small}
use Rattle.text.proofs.exponent.with_power.Goals as goal
use Rattle.text.proofs.exponent.with_power.Goals.{Else-field_ends, Else-not-mark, In_ok-power}

pub returns-then-field_ends : goal.returns-then-field_ends
returns-then-field_ends c = let a = c.args in power_none a.s.now a.at a.value (sym c.field_ends.ensures ∙ c.if-field_ends.true)

-- The field goes on.
on : (c : Else-field_ends) → is_empty (field_of (drop c.args.at c.args.s.now)) ≡ false
on c = sym c.field_ends.ensures ∙ c.if-field_ends.false

inside : (c : Else-field_ends) → c.args.at < length c.args.s.now
inside c = (goes_on c.args.s.now c.args.at (on c)).0

pub bounds-s-at : goal.bounds-s-at
bounds-s-at c = inside (goal.at.bounds-s-at c).Else-field_ends

pub returns-then-not-mark : goal.returns-then-not-mark
returns-then-not-mark c =
    let a = c.args in
    power_bad a.s.now a.at a.value (on (goal.at.returns-then-not-mark c).Else-field_ends) (sym c.mark.ensures ∙ c.if-not-mark.true)

pub overflow_add-at : goal.overflow_add-at
overflow_add-at c = omega (arith, inside (goal.at.overflow_add-at c).Else-field_ends)

-- It goes on with a mark; the digit is due at `from`.
marked : (c : Else-not-mark) → is_mark (get_or c.args.s.now c.args.at 0) ≡ true
marked c = sym c.mark.ensures ∙ c.if-not-mark.false

pub returns-in_err-power : goal.returns-in_err-power
returns-in_err-power c =
    let a = c.args in
    c.from_residual.ensures
    ∙ power_fault a.s.now a.at a.value (on (goal.at.returns-in_err-power c).Else-field_ends) (marked
    (goal.at.returns-in_err-power c).Else-not-mark) c.past_plus-from.result c.past_plus-from.ensures
    (sym c.in_err-power.ensures)

pub overflow_add-from : goal.overflow_add-from
overflow_add-from c =
    let a = c.args in
    let f = c.past_plus-from.ensures in
    omega (arith, inside (goal.at.overflow_add-from c).Else-field_ends, f, plus_small (drop (a.at + 1) a.s.now))

-- A number stands there.
digit : (c : In_ok-power) → let p = c.in_ok-power.power in number_at c.args.s.now c.past_plus-from.result ≡ found p.value p.next
digit c = sym c.in_ok-power.ensures

pub returns-then-power-from : goal.returns-then-power-from
returns-then-power-from c =
    let a = c.args in
    power_long a.s.now a.at a.value (on (goal.at.returns-then-power-from c).Else-field_ends) (marked
    (goal.at.returns-then-power-from c).Else-not-mark) c.past_plus-from.result c.past_plus-from.ensures c.in_ok-power.power.value c.in_ok-power.power.next
    (digit (goal.at.returns-then-power-from c).In_ok-power)
    c.if-power-from.true

pub raised-requires : goal.raised-requires
raised-requires c =
    let a = c.args in (
      c.requires,
      power_small a.s.now a.at a.value (on (goal.at.raised-requires c).Else-field_ends) (marked
          (goal.at.raised-requires c).Else-not-mark) c.past_plus-from.result c.past_plus-from.ensures c.in_ok-power.power.value c.in_ok-power.power.next
          (digit (goal.at.raised-requires c).In_ok-power)
          c.if-power-from.false,
    )

pub returns : goal.returns
returns c =
    let a = c.args in
    ap (λ x. found x c.in_ok-power.power.next) c.raised.ensures
    ∙ power_one a.s.now a.at a.value (on (goal.at.returns c).Else-field_ends) (marked (goal.at.returns c).Else-not-mark) c.past_plus-from.result
    c.past_plus-from.ensures c.in_ok-power.power.value c.in_ok-power.power.next
    (digit (goal.at.returns c).In_ok-power)
    c.if-power-from.false
