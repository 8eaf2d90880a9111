-- What the test finds at every entry of a table holds at each of them, by induction on the entry's index. The digits of an entry, taken out of it four bits at a
-- time, are those of its index; a numeral is these without leading zeros. Assumes nothing.
use Prim.Native.Nat.{ℕ, zero, suc, ◌+◌, ◌*◌, ◌/◌, ◌%◌, ◌^◌, ◌<◌}
use mathlib.Core.Path.{◌≡◌, refl, sym, ap, ◌∙◌}
use mathlib.Core.List.{List, [], ◌∷◌, ◌++◌}
use mathlib.Core.Bool.{Bool, true, false, cond}
use native.Mathlib.Omega.{arith}
use native.Mathlib.Nat.{add-zero, zero-add}
use lib.Dec.{eqb, ltb}
use lib.ListN.{length, get_or}
use borrow.Author.Tests.{eqb-true, le-ltb, lt-ltb, ltb-false, ltb-true}
use Rattle.model.specs.Text.{digit, numeral}
use Rattle.model.proofs.Basics.{and_left, and_right}
use Rattle.text.specs.DigitTable.{packed, keeps}

from : (rule : ℕ → ℕ) (i : ℕ) (es : List ℕ) → keeps rule i es ≡ true → (k : ℕ) → k < length es → get_or es k 0 ≡ rule (i + k)
from rule i [] t k h = absurd (omega arith)
from rule i (e ∷ es) t zero h = eqb-true e (rule i) (and_left _ _ t) ∙ ap rule (sym (add-zero i))
from rule i (e ∷ es) t (suc k) h = from rule (suc i) es (and_right (eqb e (rule i)) (keeps rule (suc i) es) t) k (omega arith) ∙ ap rule (omega arith)

pub at_each : (rule : ℕ → ℕ) (es : List ℕ) → keeps rule 0 es ≡ true → (k : ℕ) → k < length es → get_or es k 0 ≡ rule k
at_each rule es t k h = from rule 0 es t k h ∙ ap rule (zero-add k)

-- A digit d that was taken out of the entry e of n.
module _ (n : ℕ) {e d : ℕ} (entry : e ≡ packed n) where
  pub ones : d ≡ 48 + e / 2 ^ 0 % 16 → d ≡ digit n
  ones taken = taken ∙ ap (λ x. 48 + x / 1 % 16) entry ∙ omega arith

  pub tens : d ≡ 48 + e / 2 ^ 4 % 16 → d ≡ digit (n / 10)
  tens taken =
      let above : packed n / 16 ≡ n / 100 % 10 * 16 + n / 10 % 10 = omega arith in
      taken ∙ ap (λ x. 48 + x / 16 % 16) entry ∙ ap (λ x. 48 + x % 16) above ∙ omega arith

  pub hundreds : d ≡ 48 + e / 2 ^ 8 % 16 → d ≡ digit (n / 100)
  hundreds taken =
      let above : packed n / 256 ≡ n / 100 % 10 = omega arith in
      taken ∙ ap (λ x. 48 + x / 256 % 16) entry ∙ ap (λ x. 48 + x % 16) above ∙ omega arith

-- A numeral of its three digits, without those that would be leading zeros.
abbrev pub pieces : ℕ → List ℕ
pieces n = cond (ltb 99 n) (digit (n / 100) ∷ []) [] ++ (cond (ltb 9 n) (digit (n / 10) ∷ []) [] ++ (digit n ∷ []))

pub numeral_pieces : (n : ℕ) → pieces n ≡ numeral n
numeral_pieces n = go (ltb n 10) refl (ltb n 100) refl
  where
    go : (t : Bool) → ltb n 10 ≡ t → (u : Bool) → ltb n 100 ≡ u → pieces n ≡ numeral n
    go true p u q =
        let h = ltb-true n 10 p in
        simp (le-ltb 99 n (omega arith), le-ltb 9 n (omega arith), p)
    go false p true q =
        let l = ltb-false n 10 p in
        let h = ltb-true n 100 q in
        simp (le-ltb 99 n (omega arith), lt-ltb 9 n (omega arith), p, q)
    go false p false q =
        let l = ltb-false n 100 q in
        simp (lt-ltb 99 n (omega arith), lt-ltb 9 n (omega arith), p, q)

-- its length, whichever bytes stand in front
pub pieces_long : (n a b : ℕ) → length (cond (ltb 99 n) (a ∷ []) []) + (length (cond (ltb 9 n) (b ∷ []) []) + 1) ≡ length (numeral n)
pieces_long n a b = go (ltb 99 n) (ltb 9 n) ∙ ap length (numeral_pieces n)
  where
    go : (t u : Bool) → length (cond t (a ∷ []) []) + (length (cond u (b ∷ []) []) + 1) ≡ length (cond t (digit (n / 100) ∷ []) [] ++ (cond u (digit (n / 10) ∷ []) [] ++ (digit n ∷ [])))
    go true true = refl
    go true false = refl
    go false true = refl
    go false false = refl
