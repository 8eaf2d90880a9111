-- The definitions of reading at an index: what a turn of a loop cites. The loop of `digits` unfolds `scan_from`, which reads the bytes in
-- order; by induction over them it is what the digits that they start with say (`scan_digits`). Assumes nothing.
use Prim.Native.Nat.{ℕ, zero, suc, ◌+◌, ◌-◌, ◌*◌, ◌≤◌, ◌<◌}
use mathlib.Core.Path.{◌≡◌, refl, sym, ap, ◌∙◌}
use mathlib.Core.List.{List, [], ◌∷◌}
use mathlib.Core.Option.{Option, none}
use mathlib.Core.Logic.{◌⊎◌, inl, inr}
use mathlib.Core.Bool.{Bool, true, false, cond, ◌&&◌}
use native.Mathlib.Omega.{arith}
use native.Mathlib.Numerals.{add-one}
use lib.Dec.{ltb, eqb}
use lib.ListN.{length, get_or, drop, drop_of_length-le}
use lib.Seq.{drop-cons}
use borrow.Author.Tests.{ltb-true, eq-eqb, ne_eqb}
use Rattle.model.specs.Text.{is_digit, starts_with, on_field, fields_of, number_from, number_of, digits_of}
use Rattle.model.proofs.Basics.{and_right}
use Rattle.std.proofs.lemmas.List.Sums.{sum_by-cons}
use Rattle.std.specs.Prelude as std
use Rattle.std.specs.Bool.{MatchBool}
use Rattle.std.specs.List.{AllWithin, HoldsAt, zip}
use Rattle.std.specs.Prelude.{◌==◌, count_by, None, Some, unwrap_or}
use Rattle.text.specs.declared.Number.{Number}
use Rattle.text.specs.Scan.{found, scanned, may_go_on, ended}
use Rattle.text.proofs.Numbers.{fields_some, fields_tab, scanned_behind}

-- A word: its bytes beside those of the text, one by one.
abbrev pub Alike : ℕ × ℕ → Type 0
Alike p = p.0 ≡ p.1

pub starts_by : (w s : List ℕ) (r : Bool) → length w ≤ length s
    → MatchBool r (AllWithin Alike (zip w s) 0 (length (zip w s))) ((k : ℕ) × (k < length (zip w s)) × HoldsAt (λ p. Alike p → ⊥) (zip w s) k) → r ≡ starts_with w s
starts_by [] s true h m = refl
starts_by [] s false h m = absurd (omega (arith, m.1))
starts_by (a ∷ w) [] r h m = absurd (omega arith)
starts_by (a ∷ w) (b ∷ s) true h m = simp (eq-eqb b a (sym (m 0 (a, b) (omega arith) (omega arith)))) (starts_by w s true (omega arith) (λ k d l u. m (suc k) d (omega arith) (omega arith)))
starts_by (a ∷ w) (b ∷ s) false h (zero, l, d) = simp (ne_eqb b a (λ e. d (a, b) (sym e))) refl
starts_by (a ∷ w) (b ∷ s) false h (suc k, l, d) = go (eqb b a) (starts_by w s false (omega arith) (k, (omega arith), d))
  where
    go : (t : Bool) → false ≡ starts_with w s → false ≡ cond t (starts_with w s) false
    go true e = e
    go false e = refl

pub starts_short : (w s : List ℕ) → length s < length w → false ≡ starts_with w s
starts_short [] s h = absurd (omega arith)
starts_short (a ∷ w) [] h = refl
starts_short (a ∷ w) (b ∷ s) h = go (eqb b a) (starts_short w s (omega arith))
  where
    go : (t : Bool) → false ≡ starts_with w s → false ≡ cond t (starts_with w s) false
    go true e = e
    go false e = refl

-- Fields.
count_same : (b : ℕ) (l : List ℕ) → eqb b 9 ≡ false → length (fields_of (b ∷ l)) ≡ length (fields_of l)
count_same b l e = go (fields_of l) (fields_some l)
  where
    go : (fs : List (List ℕ)) → 0 < length fs → length (on_field b fs) ≡ length fs
    go [] h = absurd (omega arith)
    go (f ∷ fs) h = simp e

pub fields_counted : (s : List ℕ) → count_by (λ b. b == 9) s + 1 ≡ length (fields_of s)
fields_counted [] = refl
fields_counted (b ∷ s) = ap (λ n. n + 1) (sum_by-cons (λ x. cond (x == 9) 1 0) b s) ∙ go (eqb b 9) refl (fields_counted s)
  where
    go : (t : Bool) → eqb b 9 ≡ t → count_by (λ b. b == 9) s + 1 ≡ length (fields_of s) → cond t 1 0 + count_by (λ b. b == 9) s + 1 ≡ length (fields_of (b ∷ s))
    go true q h = rw (fields_tab b s q) (omega arith)
    go false q h = rw (count_same b s q) (omega arith)

-- Digits.
pub may_small : (o : std.Option ℕ) → may_go_on o ≡ true → unwrap_or o 0 < 100
may_small None e = omega arith
may_small (Some v) e = ltb-true _ _ (and_right (ltb 0 v) (ltb v 100) e)

-- What the digits that go on at `at` make, after some with the value o.
unfoldable pub scan_from : ℕ → std.Option ℕ → List ℕ → std.Option Number
scan_from at o [] = ended at o
scan_from at o (b ∷ l) = cond (is_digit b) (cond (may_go_on o) (scan_from (at + 1) (Some (unwrap_or o 0 * 10 + (b - 48))) l) None) (ended at o)

module _ (s : List ℕ) (i : ℕ) (o : std.Option ℕ) where
  -- the text ends; past its end no digit was read
  pub scan_end : length s ≤ i → (i ≤ length s) ⊎ (o ≡ None) → scan_from i o (drop i s) ≡ ended (length s) o
  unfolding scan_from
  scan_end h (inl k) = let e : i ≡ length s = omega arith in rw (drop_of_length-le s h) (ap (λ x. ended x o) e)
  scan_end h (inr e) = rw (drop_of_length-le s h, e)

  module _ (h : i < length s) where
    pub scan_stop : is_digit (get_or s i 0) ≡ false → scan_from i o (drop i s) ≡ ended i o
    unfolding scan_from
    scan_stop d = rw (drop-cons s i 0) (simp d)

    pub scan_long : is_digit (get_or s i 0) ≡ true → may_go_on o ≡ false → scan_from i o (drop i s) ≡ None
    unfolding scan_from
    scan_long d e = rw (drop-cons s i 0) (simp (d, e))

    pub scan_step : is_digit (get_or s i 0) ≡ true → may_go_on o ≡ true → scan_from i o (drop i s) ≡ scan_from (i + 1) (Some (unwrap_or o 0 * 10 + (get_or s i 0 - 48))) (drop (i + 1) s)
    unfolding scan_from
    scan_step d e = rw (drop-cons s i 0, add-one) (simp (d, e))

scanned_next : (at k : ℕ) (o : Option ℕ) → scanned (at + 1) k o ≡ scanned at (suc k) o
scanned_next at k o = sym (scanned_behind at 1 k o) ∙ ap (λ n. scanned at n o) (omega arith)

scan_after : (at v : ℕ) (l : List ℕ) → scan_from at (Some v) l ≡ scanned at (length (digits_of l)) (number_from v (digits_of l))
unfolding scan_from
scan_after at v [] = ap (found v) (omega arith)
scan_after at v (b ∷ l) =
    let w = v * 10 + (b - 48) in
    go (is_digit b) refl (scan_after (at + 1) w l ∙ scanned_next at (length (digits_of l)) (number_from w (digits_of l)))
  where
    by : (x y : Bool) (r : std.Option Number) (k : ℕ) (o : Option ℕ) → r ≡ scanned at k o → cond (x && y) r None ≡ scanned at k (cond (x && y) o none)
    by false y r k o h = refl
    by true false r k o h = refl
    by true true r k o h = h

    go : (d : Bool) → is_digit b ≡ d → scan_from (at + 1) (Some (v * 10 + (b - 48))) l ≡ scanned at (suc (length (digits_of l))) (number_from (v * 10 + (b - 48)) (digits_of l))
        → scan_from at (Some v) (b ∷ l) ≡ scanned at (length (digits_of (b ∷ l))) (number_from v (digits_of (b ∷ l)))
    go false q h = simp q (ap (found v) (omega arith))
    go true q h = simp q (by (ltb 0 v) (ltb v 100) _ _ _ h)

pub scan_digits : (at : ℕ) (l : List ℕ) → scan_from at None l ≡ scanned at (length (digits_of l)) (number_of (digits_of l))
unfolding scan_from
scan_digits at [] = refl
scan_digits at (b ∷ l) =
    go
    (is_digit b)
    refl
    (ap (λ v. scan_from (at + 1) (Some v) l) (omega arith) ∙ scan_after (at + 1) (b - 48) l ∙ scanned_next at (length (digits_of l)) (number_from (b - 48) (digits_of l)))
  where
    go : (d : Bool) → is_digit b ≡ d → scan_from (at + 1) (Some (0 * 10 + (b - 48))) l ≡ scanned at (suc (length (digits_of l))) (number_from (b - 48) (digits_of l))
        → scan_from at None (b ∷ l) ≡ scanned at (length (digits_of (b ∷ l))) (number_of (digits_of (b ∷ l)))
    go false q h = simp q
    go true q h = simp q h
