-- What a function returns where it stops at a line, by the contracts of `ok_or` and `?`. Assumes nothing.
use mathlib.Core.Path.{◌≡◌, ap, ◌∙◌}
use Rattle.std.specs.Prelude.{Option, None, Result, Err, IsErrAnd, ok_or}
use Rattle.std.proofs.lemmas.Result.{err_from_is_err_and}
use Rattle.model.specs.ReadSheet.{Sheet, bad}
use Rattle.sheet.specs.declared.BadLine.{BadLine}
use Rattle.sheet.specs.Parts.{unless_bad}

same_bad : {X : Type 0} {d e : BadLine} → ◌≡◌ {A = Result X BadLine} (Err d) (Err e) → d ≡ e
same_bad h = cc

pub passed_on : {T : Type 0} (r : Result T BadLine) {d : BadLine} → IsErrAnd r (λ x. x ≡ d) → r ≡ Err d
passed_on r h = let (x, p, q) = err_from_is_err_and r h in p ∙ ap Err q

pub stopped_at : {X T : Type 0} (r : Result T BadLine) {d e : BadLine} {o : Option X} → IsErrAnd r (λ x. x ≡ d) → Err d ≡ ok_or o e → o ≡ None → r ≡ Err e
stopped_at r {d} {e} {o} h f g = passed_on r h ∙ ap Err (same_bad (f ∙ ap (λ y. ok_or y e) g))

pub bad_at : {T : Type 0} {r : Result T BadLine} {e : BadLine} → r ≡ Err e → (x : Sheet) → unless_bad r x ≡ bad e.line
bad_at h x = ap (λ y. unless_bad y x) h
