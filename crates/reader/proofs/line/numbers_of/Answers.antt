-- `numbers_of` gives the numbers of the fields, or the first test that they fail. Where a scan finds no number, either there is another count of fields or one is none, and where all
-- found one, either fields are left or these are all: the laws of `Scans`. Assumes nothing.
use Prim.Native.Nat.{◌≤◌, ◌<◌}
use mathlib.Core.Path.{◌≡◌, refl, sym, ap, ◌∙◌}
use mathlib.Core.Logic.{⊎_elim}
use native.Mathlib.Omega.{arith}
use lib.ListN.{length}
use Rattle.std.specs.Prelude.{Err}
use Rattle.model.specs.Text.{scaled_of}
use Rattle.text.specs.Scan.{found, scaled_at}
use Rattle.text.proofs.Numbers.{fields-from, next_inside}
use Rattle.reader.proofs.Scans.{nothing, number_inside, got_fault, got_more, got_one, got_over, got_two}
use Rattle.reader.proofs.line.numbers_of.Goals as goal
use Rattle.reader.proofs.line.numbers_of.Goals.{In-Some}

pub loop-init : goal.loop-init
loop-init c = nothing refl (sym (fields-from c.args.fields.now 0 (omega arith)))

pub returns-in_default : goal.returns-in_default
returns-in_default c =
    let s = c.args.fields.now in
    ap Err c.first_fault.ensures ∙ got_fault s _ _ _ _ c.args.count c.loop.invariant (omega arith) (sym c.number.ensures ∙ c.in_default.is)

-- A number stands at `at`.
value : (c : In-Some) → scaled_at c.args.fields.now c.loop.at ≡ found c.in-Some.field-0.value c.in-Some.field-0.next
value c = sym c.number.ensures ∙ c.in-Some.is

pub overflow_add-at : goal.overflow_add-at
overflow_add-at c =
    let s = c.args.fields.now in
    let v = value (goal.at.overflow_add-at c).In-Some in
    let inside : c.loop.at < length s = number_inside s c.loop.at c.in-Some.field-0.value c.in-Some.field-0.next v in
    omega (arith, next_inside scaled_of s c.loop.at c.in-Some.field-0.value c.in-Some.field-0.next v (omega arith))

pub loop-preserved : goal.loop-preserved
loop-preserved c =
    let few : c.args.count ≤ 2 = ⊎_elim (λ e. omega arith) (λ e. omega arith) c.requires in
    got_more c.args.fields.now _ _ _ _ c.loop.invariant (omega arith) c.in-Some.field-0.value c.in-Some.field-0.next (value (goal.at.loop-preserved c).In-Some)

pub returns-then-at-fields : goal.returns-then-at-fields
returns-then-at-fields c = got_over c.args.fields.now _ _ _ _ c.args.count c.loop.invariant (omega arith) c.if-at-fields.true

pub returns-then-count-eq1 : goal.returns-then-count-eq1
returns-then-count-eq1 c = got_one c.args.fields.now _ _ _ _ c.args.count c.loop.invariant (omega arith) (omega arith) c.if-count-eq1.true

pub returns : goal.returns
returns c =
    got_two c.args.fields.now _ _ _ _ c.args.count c.loop.invariant (omega arith) (omega arith) (⊎_elim (λ e. absurd (c.if-count-eq1.false e)) (λ e. e) c.requires)
