-- A field is the digits that it starts with and what stands behind them, which is the field that starts there (`digits_field`, `behind_field`). So the field at `at` is read by its digits, and
-- then by its rest: behind a plain number nothing is left (`number_rest`), and of a number with an exponent the rest says the power (`scaled_rest`). Assumes nothing.
use Prim.Native.Nat.{ℕ, suc, ◌+◌, ◌≤◌, ◌<◌}
use mathlib.Core.Path.{◌≡◌, refl, sym, ap, ◌∙◌}
use mathlib.Core.List.{List, [], ◌∷◌}
use mathlib.Core.Option.{Option, none, some}
use mathlib.Core.Bool.{Bool, true, false, cond}
use native.Mathlib.Omega.{arith}
use native.Mathlib.Numerals.{add-one}
use lib.Dec.{eqb, ltb}
use lib.ListN.{length, get_or, drop, drop_of_length-le}
use lib.Seq.{drop-cons, drop-drop}
use borrow.Author.Tests.{eqb-true, ltb-true, ltb-false}
use Rattle.model.specs.Text.{is_digit, number_of, digits_of, behind_digits, power_of, scaled}
use Rattle.model.specs.ReadJob.{is_empty}
use Rattle.model.proofs.Basics.{nope, either_way}
use Rattle.model.proofs.Digits.{both_long, plain_digits}
use Rattle.std.specs.Prelude.{None}
use Rattle.text.specs.Scan.{found, field_of, scanned, field_at, number_at, scaled_at, digits_at, with_power}
use Rattle.text.proofs.Numbers.{of_small, scanned_behind, scanned_fault, scanned_value}

-- A tab is no digit.
no_digit : (b : ℕ) → eqb b 9 ≡ true → is_digit b ≡ false
no_digit b q = rw (eqb-true b 9 q)

digits_field : (l : List ℕ) → digits_of (field_of l) ≡ digits_of l
digits_field [] = refl
digits_field (b ∷ l) = go (eqb b 9) refl (digits_field l)
  where
    go : (t : Bool) → eqb b 9 ≡ t → digits_of (field_of l) ≡ digits_of l → digits_of (cond t [] (b ∷ field_of l)) ≡ digits_of (b ∷ l)
    go true q h = simp (no_digit b q)
    go false q h = ap (λ x. cond (is_digit b) (b ∷ x) []) h

behind_field : (l : List ℕ) → behind_digits (field_of l) ≡ field_of (drop (length (digits_of l)) l)
behind_field [] = refl
behind_field (b ∷ l) = go (eqb b 9) refl (is_digit b) refl (behind_field l)
  where
    go : (t : Bool) → eqb b 9 ≡ t → (d : Bool) → is_digit b ≡ d → behind_digits (field_of l) ≡ field_of (drop (length (digits_of l)) l)
        → behind_digits (field_of (b ∷ l)) ≡ field_of (drop (length (digits_of (b ∷ l))) (b ∷ l))
    go true q d r h = simp (q, no_digit b q)
    go false q true r h = simp (q, r) h
    go false q false r h = simp (q, r)

-- The field at `at`, by its digits.
module _ (s : List ℕ) (at : ℕ) where
  abbrev front : List ℕ
  front = digits_of (drop at s)

  by_parts : (read : List ℕ → List ℕ → Option ℕ) → let f = field_of (drop at s) in let r = field_of (drop (at + length front) s) in
      scanned at (length f) (read (digits_of f) (behind_digits f)) ≡ scanned (at + length front) (length r) (read front r)
  by_parts read =
      let f = field_of (drop at s) in
      let r = field_of (drop (at + length front) s) in
      ap (λ n. scanned at n (read (digits_of f) (behind_digits f))) (both_long f)
      ∙ ap (λ d. scanned at (length d + length (behind_digits f)) (read d (behind_digits f))) (digits_field (drop at s))
      ∙ ap (λ x. scanned at (length front + length x) (read front x)) (behind_field (drop at s) ∙ ap field_of (drop-drop (length front) at s))
      ∙ scanned_behind at (length front) (length r) (read front r)

  number_by : let r = field_of (drop (at + length front) s) in number_at s at ≡ scanned (at + length front) (length r) (cond (is_empty r) (number_of front) none)
  unfolding field_at
  number_by = ap (scanned at (length (field_of (drop at s)))) (plain_digits (field_of (drop at s))) ∙ by_parts (λ d r. cond (is_empty r) (number_of d) none)

  scaled_by : let r = field_of (drop (at + length front) s) in scaled_at s at ≡ scanned (at + length front) (length r) (scaled (number_of front) (power_of r))
  unfolding field_at
  scaled_by = by_parts (λ d r. scaled (number_of d) (power_of r))

  module _ (e : digits_at s at ≡ None) where
    no_digits : number_of front ≡ none
    unfolding digits_at
    no_digits = scanned_fault at (length front) (number_of front) e

    pub number_without : None ≡ number_at s at
    number_without =
        let r = field_of (drop (at + length front) s) in
        sym (number_by ∙ ap (λ o. scanned (at + length front) (length r) (cond (is_empty r) o none)) no_digits ∙ ap (scanned (at + length front) (length r)) (either_way (is_empty r) none))

    pub scaled_without : None ≡ scaled_at s at
    scaled_without = let r = field_of (drop (at + length front) s) in sym (scaled_by ∙ ap (λ o. scanned (at + length front) (length r) (scaled o (power_of r))) no_digits)

  module _ (v next : ℕ) (e : digits_at s at ≡ found v next) where
    digits_parts : (number_of front ≡ some v) × (next ≡ at + length front)
    unfolding digits_at
    digits_parts = scanned_value at (length front) v next (number_of front) e

    pub digits_small : v < 1000
    digits_small = (of_small v front digits_parts.0).1

    number_rest : let r = field_of (drop next s) in number_at s at ≡ scanned next (length r) (cond (is_empty r) (some v) none)
    number_rest = let (o, n) = digits_parts in rw (n, ← o) number_by

    pub number_ends : is_empty (field_of (drop next s)) ≡ true → found v next ≡ number_at s at
    number_ends h = sym (number_rest ∙ go (field_of (drop next s)) h)
      where
        go : (r : List ℕ) → is_empty r ≡ true → scanned next (length r) (cond (is_empty r) (some v) none) ≡ found v next
        go [] h = ap (found v) (omega arith)
        go (b ∷ r) h = nope (cc)

    pub number_goes_on : is_empty (field_of (drop next s)) ≡ false → None ≡ number_at s at
    number_goes_on h = let r = field_of (drop next s) in sym (number_rest ∙ ap (λ t. scanned next (length r) (cond t (some v) none)) h)

    pub scaled_rest : with_power s next v ≡ scaled_at s at
    unfolding field_at
    scaled_rest = let (o, n) = digits_parts in rw (n, ← o) (sym scaled_by)

-- The end of a field.
pub ends_past : (s : List ℕ) (at : ℕ) → length s ≤ at → true ≡ is_empty (field_of (drop at s))
ends_past s at h = rw (drop_of_length-le s h)

pub ends_tab : (s : List ℕ) (at : ℕ) → at < length s → eqb (get_or s at 0) 9 ≡ is_empty (field_of (drop at s))
ends_tab s at h = rw (drop-cons s at 0) (go (eqb (get_or s at 0) 9))
  where
    go : (t : Bool) → t ≡ is_empty (cond t [] (get_or s at 0 ∷ field_of (drop (suc at) s)))
    go true = refl
    go false = refl

pub goes_on : (s : List ℕ) (at : ℕ) → is_empty (field_of (drop at s)) ≡ false → (at < length s) × (field_of (drop at s) ≡ get_or s at 0 ∷ field_of (drop (at + 1) s))
goes_on s at e = go (ltb at (length s)) refl
  where
    go : (t : Bool) → ltb at (length s) ≡ t → (at < length s) × (field_of (drop at s) ≡ get_or s at 0 ∷ field_of (drop (at + 1) s))
    go false q = let h = ends_past s at (ltb-false _ _ q) in nope (cc)
    go true q = let h = ltb-true _ _ q in (h, rw (drop-cons s at 0, add-one) (simp (ends_tab s at h ∙ e)))
