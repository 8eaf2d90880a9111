-- What stands behind the digits of a number: nothing, or the mark of an exponent, perhaps a plus, and one digit, which is a plain number of one byte that ends the field (`marked`). Each test that
-- fails leaves none. The value has 12 digits at most. Assumes nothing.
use Prim.Native.Nat.{ℕ, suc, ◌+◌, ◌-◌, ◌*◌, ◌^◌, ◌≤◌, ◌<◌}
use mathlib.Core.Path.{◌≡◌, refl, sym, ap, ◌∙◌}
use mathlib.Core.List.{List, [], ◌∷◌}
use mathlib.Core.Option.{none, some}
use mathlib.Core.Bool.{Bool, true, false, cond}
use native.Mathlib.Omega.{arith}
use native.Mathlib.Nat.{mul_assoc, mul-le-mul, pow-le-pow_right, pow-suc}
use lib.Dec.{eqb}
use lib.ListN.{length, get_or, drop, drop_of_length-le}
use lib.Seq.{drop-cons, drop-drop}
use borrow.Author.Tests.{eqb-true, eq-eqb, ne_eqb}
use Rattle.model.specs.Text.{is_digit, is_mark, number_of, without_plus, one_digit, power_of, scaled}
use Rattle.model.specs.ReadJob.{is_empty}
use Rattle.model.proofs.Basics.{nope, either_way}
use Rattle.std.specs.Prelude.{None}
use Rattle.text.specs.Scan.{found, field_of, scanned, field_at, number_at, with_power, plus_size}
use Rattle.text.proofs.FieldDigits.{goes_on}
use Rattle.text.proofs.Numbers.{digit_low, scanned_behind, scanned_fault, parts}

-- A plus.
pub plus_past : (s : List ℕ) (at : ℕ) → length s ≤ at → at ≡ at + plus_size (drop at s)
plus_past s at h = rw (drop_of_length-le s h) (omega arith)

module _ (s : List ℕ) (at : ℕ) (h : at < length s) where
  pub plus_there : get_or s at 0 ≡ 43 → at + 1 ≡ at + plus_size (drop at s)
  plus_there e = rw (drop-cons s at 0) (simp (eq-eqb _ _ e))

  pub plus_missing : (get_or s at 0 ≡ 43 → ⊥) → at ≡ at + plus_size (drop at s)
  plus_missing e = rw (drop-cons s at 0) (simp (ne_eqb _ _ e) (omega arith))

pub plus_small : (l : List ℕ) → plus_size l ≤ 1
plus_small [] = omega arith
plus_small (b ∷ l) = go (eqb b 43)
  where
    go : (t : Bool) → cond {A = ℕ} t 1 0 ≤ 1
    go true = omega arith
    go false = omega arith

plus_field : (l : List ℕ) → let r = field_of (drop (plus_size l) l) in (without_plus (field_of l) ≡ r) × (length (field_of l) ≡ plus_size l + length r)
plus_field [] = (refl, refl)
plus_field (b ∷ l) = go (eqb b 43) refl (eqb b 9) refl
  where
    go : (p : Bool) → eqb b 43 ≡ p → (t : Bool) → eqb b 9 ≡ t → let k = cond {A = ℕ} p 1 0 in
        (without_plus (cond t [] (b ∷ field_of l)) ≡ field_of (drop k (b ∷ l))) × (length (cond t [] (b ∷ field_of l)) ≡ k + length (field_of (drop k (b ∷ l))))
    go true q true r = absurd (omega (arith, eqb-true b 43 q, eqb-true b 9 r))
    go true q false r = (simp q, omega arith)
    go false q true r = (simp r, simp r)
    go false q false r = (simp (q, r), simp r (omega arith))

-- One digit.
digit_small : (f : List ℕ) (p : ℕ) → number_of f ≡ some p → length f ≡ 1 → p < 10
digit_small [] p e h = absurd (omega arith)
digit_small (b ∷ c ∷ f) p e h = absurd (omega arith)
digit_small (b ∷ []) p e h = go (is_digit b) refl e
  where
    go : (d : Bool) → is_digit b ≡ d → cond d (some (b - 48)) none ≡ some p → p < 10
    go false q e = nope (cc)
    go true q e = let k : b - 48 ≡ p = cc in omega (arith, digit_low b q)

-- An exponent, or none.
module _ (s : List ℕ) (at v : ℕ) where
  pub power_none : is_empty (field_of (drop at s)) ≡ true → found v at ≡ with_power s at v
  unfolding field_at
  power_none h = go (field_of (drop at s)) h
    where
      go : (r : List ℕ) → is_empty r ≡ true → found v at ≡ scanned at (length r) (scaled (some v) (power_of r))
      go [] h = let e : v ≡ v * 10 ^ 0 = omega arith in let f : at ≡ at + 0 = omega arith in ap (λ x. found x at) e ∙ ap (found (v * 10 ^ 0)) f
      go (b ∷ r) h = nope (cc)

  module _ (on : is_empty (field_of (drop at s)) ≡ false) where
    pub power_bad : is_mark (get_or s at 0) ≡ false → None ≡ with_power s at v
    unfolding field_at
    power_bad m = rw (goes_on s at on).1 (simp m)

    module _ (m : is_mark (get_or s at 0) ≡ true) (from : ℕ) (f : from ≡ at + 1 + plus_size (drop (at + 1) s)) where
      marked : let r = field_of (drop from s) in with_power s at v ≡ scanned from (length r) (scaled (some v) (one_digit r))
      unfolding field_at
      marked =
          let l = drop (at + 1) s in
          let r = field_of (drop from s) in
          let (w, n) = plus_field l in
          let same : drop (plus_size l) l ≡ drop from s = drop-drop (plus_size l) (at + 1) s ∙ ap (λ x. drop x s) (sym f) in
          let k : suc (length (field_of l)) ≡ suc (plus_size l) + length r = omega (arith, n, ap (λ x. length (field_of x)) same) in
          rw (goes_on s at on).1 (simp m
          (ap (λ x. scanned at (suc (length (field_of l))) (scaled (some v) (one_digit x))) (w ∙ ap field_of same)
          ∙ ap (λ x. scanned at x (scaled (some v) (one_digit r))) k
          ∙ scanned_behind at (suc (plus_size l)) (length r) (scaled (some v) (one_digit r))
          ∙ ap (λ x. scanned x (length r) (scaled (some v) (one_digit r))) (omega arith)))

      not_one : one_digit (field_of (drop from s)) ≡ none → None ≡ with_power s at v
      not_one h = let r = field_of (drop from s) in sym (marked ∙ ap (λ o. scanned from (length r) (scaled (some v) o)) h)

      pub power_fault : number_at s from ≡ None → None ≡ with_power s at v
      unfolding field_at
      power_fault e =
          let r = field_of (drop from s) in
          not_one (ap (λ o. cond (eqb (length r) 1) o none) (scanned_fault from (length r) (number_of r) e) ∙ either_way (eqb (length r) 1) none)

      module _ (p next : ℕ) (e : number_at s from ≡ found p next) where
        pub power_long : (next ≡ from + 1 → ⊥) → None ≡ with_power s at v
        power_long h = let n = (parts number_of s from p next e).1 in not_one (simp (ne_eqb (length (field_of (drop from s))) 1 (λ k. h (omega arith))))

        module _ (h : next ≡ from + 1) where
          single : length (field_of (drop from s)) ≡ 1
          single = let n = (parts number_of s from p next e).1 in omega arith

          pub power_small : p < 10
          power_small = digit_small (field_of (drop from s)) p (parts number_of s from p next e).0 single

          pub power_one : found (v * 10 ^ p) next ≡ with_power s at v
          power_one =
              let r = field_of (drop from s) in
              let o : one_digit r ≡ some p = simp (eq-eqb (length r) 1 single) (parts number_of s from p next e).0 in
              sym (marked ∙ ap (λ x. scanned from (length r) (scaled (some v) x)) o ∙ ap (found (v * 10 ^ p)) (sym (parts number_of s from p next e).1))

-- Ten to a power of one digit, times a number of three.
pub power_fits : (v p : ℕ) → v < 1000 → p < 10 → v * 10 ^ p ≤ 999000000000
power_fits v p h k =
    let few : v ≤ 999 = omega arith in
    let one-digit : p ≤ 9 = omega arith in
    let low : 10 ^ p ≤ 10 ^ 9 = pow-le-pow_right (omega arith) one-digit in
    mul-le-mul few low

pub power_more : (v p k n : ℕ) → v < 1000 → p < 10 → k < p → n ≡ v * 10 ^ k → (n * 10 ≡ v * 10 ^ (k + 1)) × (n * 10 ≤ 999000000000)
power_more v p k n h q l e =
    let f : n * 10 ≡ v * 10 ^ (k + 1) = ap (λ x. x * 10) e ∙ mul_assoc v (10 ^ k) 10 ∙ ap (λ x. v * x) (sym (pow-suc 10 k)) ∙ ap (λ x. v * 10 ^ x) (omega arith) in
    (f, rw f (power_fits v (k + 1) h (omega arith)))
