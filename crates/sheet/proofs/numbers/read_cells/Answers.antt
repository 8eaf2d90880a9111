-- `read_cells` reads as many numbers as fit at most. Invariant: those before `next` are the first i of `out`, all below `limit`; with those behind
-- `next` they are all the numbers, and where there are such, more stand behind `next`. Assumes nothing.
use Prim.Native.Nat.{ℕ, ◌+◌, ◌<◌, ◌≤◌}
use mathlib.Core.Path.{◌≡◌, sym, ap, ◌∙◌}
use mathlib.Core.List.{List, [], ◌∷◌, ◌++◌}
use mathlib.Core.Option.{some}
use native.Mathlib.Omega.{arith}
use native.Mathlib.Numerals.{add-one}
use lib.ListN.{length, length-set, set, take}
use lib.Seq.{length-take-le, take-suc-set}
use Rattle.model.specs.ReadSheet.{all_below}
use Rattle.sheet.specs.Parts.{behind}
use Rattle.sheet.proofs.Fields.{below_snoc, cells_known, cells_more, cells_none, cells_over, cells_end, number_inside, prefixed}
use Rattle.sheet.proofs.numbers.read_cells.Goals as goal

-- what holds where cells were read
where_read : {P : Type 0} (i : ℕ) (out : List ℕ) → i ≤ length out → (0 < i → P) → 0 < length (take i out) → P
where_read i out short more h = more (omega (arith, length-take-le i out short))

pub returns-in_err-number : goal.returns-in_err-number
returns-in_err-number c =
    let l = c.loop-i in
    rw c.from_residual.ensures
    (sym (cells_none _ _ _ _ (take l.i l.out) l.next l.invariant.3 (where_read l.i l.out (omega arith) l.invariant.1) (sym c.number.ensures ∙ c.in_err-number.was)), tt)

pub returns-then-limit-number : goal.returns-then-limit-number
returns-then-limit-number c =
    let l = c.loop-i in
    (sym (cells_known _ _ _ _ (take l.i l.out) l.next l.invariant.3 _ _ (sym c.number.ensures ∙ c.in_ok-number.was) c.if-limit-number.true), tt)

taken : (out : List ℕ) (i v : ℕ) → i < length out → take (i + 1) (set out i v) ≡ take i out ++ (v ∷ [])
taken out i v h = rw add-one (take-suc-set out i v h)

pub returns-then-line-number : goal.returns-then-line-number
returns-then-line-number c =
    let l = c.loop-i in
    let v = c.in_ok-number.number.value in
    let few : length (take l.i l.out) < length (set l.out l.i v) = omega (arith, length-take-le l.i l.out (omega arith), length-set {A = ℕ}) in (
      ap some (taken l.out l.i v (omega arith))
          ∙ sym (cells_end _ _ _ _ (take l.i l.out) l.next l.invariant.3 v _ (sym c.number.ensures ∙ c.in_ok-number.was) l.invariant.2 c.if-limit-number.false c.if-line-number.true few),
      (omega arith, omega (arith, length-set {A = ℕ})),
    )

pub loop-i-preserved : goal.loop-i-preserved
loop-i-preserved c =
    let l = c.loop-i in
    let v = c.in_ok-number.number.value in
    let e = sym c.number.ensures ∙ c.in_ok-number.was in
    let t = taken l.out l.i v (omega arith) in (
      number_inside _ _ _ _ e,
      λ h. c.if-line-number.false,
      ap (all_below c.args.limit) t ∙ below_snoc c.args.limit v (take l.i l.out) l.invariant.2 c.if-limit-number.false,
      cells_more 0 0 _ _ (take l.i l.out) l.next l.invariant.3 v _ e ∙ ap (λ x. prefixed x (behind c.args.line.now c.in_ok-number.number.next)) (sym t),
    )

pub returns : goal.returns
returns c =
    let l = c.loop-i in
    let n : l.i ≡ length l.out = omega arith in
    (sym (cells_over _ _ _ _ (take l.i l.out) l.next l.invariant.3 (where_read l.i l.out (omega arith) l.invariant.1) (length-take-le l.i l.out (omega arith) ∙ n)), tt)
