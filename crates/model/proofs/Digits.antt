-- A plain number is the digits that its field starts with, and nothing stands behind them (`plain_digits`), by induction over the digits. So read with exponents it is the same number, with
-- the power 0 (`number_scaled`). Assumes nothing.
use Prim.Native.Nat.{ℕ, suc, ◌+◌, ◌-◌, ◌*◌}
use mathlib.Core.Path.{◌≡◌, refl, sym, ap, ◌∙◌}
use mathlib.Core.List.{List, [], ◌∷◌}
use mathlib.Core.Option.{none, some}
use mathlib.Core.Bool.{Bool, true, false, cond, ◌&&◌}
use native.Mathlib.Omega.{arith}
use lib.Dec.{ltb}
use lib.ListN.{length}
use Rattle.model.specs.Text.{is_digit, number_from, number_of, digits_of, behind_digits, power_of, scaled, scaled_of}
use Rattle.model.specs.ReadJob.{is_empty}
use Rattle.model.proofs.Basics.{nope, either_way}

pub both_long : (f : List ℕ) → length f ≡ length (digits_of f) + length (behind_digits f)
both_long [] = refl
both_long (b ∷ f) = go (is_digit b) (both_long f)
  where
    go : (d : Bool) → length f ≡ length (digits_of f) + length (behind_digits f)
        → suc (length f) ≡ length (cond d (b ∷ digits_of f) []) + length (cond d (behind_digits f) (b ∷ f))
    go true h = omega arith
    go false h = omega arith

plain_from : (v : ℕ) (f : List ℕ) → number_from v f ≡ cond (is_empty (behind_digits f)) (number_from v (digits_of f)) none
plain_from v [] = refl
plain_from v (b ∷ f) = go (is_digit b) refl (plain_from (v * 10 + (b - 48)) f)
  where
    go : (d : Bool) → is_digit b ≡ d → number_from (v * 10 + (b - 48)) f ≡ cond (is_empty (behind_digits f)) (number_from (v * 10 + (b - 48)) (digits_of f)) none
        → number_from v (b ∷ f) ≡ cond (is_empty (behind_digits (b ∷ f))) (number_from v (digits_of (b ∷ f))) none
    go false q h = simp q
    go true q h = simp q (by (ltb 0 v && ltb v 100))
      where
        by : (t : Bool) → cond t (number_from (v * 10 + (b - 48)) f) none ≡ cond (is_empty (behind_digits f)) (cond t (number_from (v * 10 + (b - 48)) (digits_of f)) none) none
        by true = h
        by false = sym (either_way (is_empty (behind_digits f)) none)

pub plain_digits : (f : List ℕ) → number_of f ≡ cond (is_empty (behind_digits f)) (number_of (digits_of f)) none
plain_digits [] = refl
plain_digits (b ∷ f) = go (is_digit b) refl
  where
    go : (d : Bool) → is_digit b ≡ d → number_of (b ∷ f) ≡ cond (is_empty (behind_digits (b ∷ f))) (number_of (digits_of (b ∷ f))) none
    go false q = simp q
    go true q = simp q (plain_from (b - 48) f)

pub number_scaled : (n : ℕ) (f : List ℕ) → number_of f ≡ some n → scaled_of f ≡ some n
number_scaled n f e = go (behind_digits f) (sym (plain_digits f) ∙ e)
  where
    go : (r : List ℕ) → cond (is_empty r) (number_of (digits_of f)) none ≡ some n → scaled (number_of (digits_of f)) (power_of r) ≡ some n
    go [] h = rw h (ap some (omega arith))
    go (b ∷ r) h = nope (cc)
