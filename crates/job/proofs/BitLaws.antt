-- What setting a bit of a table does: it is set afterwards, and any other bit is as it was. In a byte, the digits of a bitwise or are those
-- of its two numbers, one by one, and a power of two has one digit only; a bit of another byte is not touched. Assumes nothing.
use Prim.Native.Nat.{ℕ, zero, suc, ◌*◌, ◌/◌, ◌%◌, ◌^◌, ◌<◌, max}
use mathlib.Core.Path.{◌≡◌, refl, sym, ap, ◌∙◌}
use mathlib.Core.List.{List}
use mathlib.Core.Bool.{Bool, true, false, ◌||◌, or-true, or-false}
use native.Mathlib.Nat.{pow-suc, mul_comm, div-one, div-div-eq-div-mul, mul-mod_left, mul-div_cancel, zero-div}
use native.Mathlib.Omega.{arith}
use lib.Arith.{digits_div, digits_mod}
use lib.Bits.{bit_or, or_step}
use lib.Dec.{eqb, eqb-suc-suc}
use lib.ListN.{length, get_or, replicate, length-set}
use lib.Seq.{get_or-set_same, get_or-set_other}
use borrow.Author.Tests.{eq-eqb, ne_eqb}
use Rattle.model.proofs.Decide.{dec_eq}
use Rattle.job.specs.Bits.{bit_at, with_bit}

-- digit k of a number, from the lowest on
abbrev bit_of : ℕ → ℕ → Bool
bit_of zero x = eqb (x % 2) 1
bit_of (suc k) x = bit_of k (x / 2)

digit_is : (k x : ℕ) → eqb (x / 2 ^ k % 2) 1 ≡ bit_of k x
digit_is zero x = rw (div-one x)
digit_is (suc k) x = rw (pow-suc 2 k, mul_comm (2 ^ k) 2, ← div-div-eq-div-mul x 2 (2 ^ k)) (digit_is k (x / 2))

or_small : (x y : ℕ) → x < 2 → y < 2 → max x y < 2
or_small x y h k = omega arith

or_digit : (x y : ℕ) → x < 2 → y < 2 → eqb (max x y) 1 ≡ (eqb x 1 || eqb y 1)
or_digit zero zero h k = refl
or_digit zero (suc zero) h k = refl
or_digit (suc zero) zero h k = refl
or_digit (suc zero) (suc zero) h k = refl
or_digit zero (suc (suc y)) h k = absurd (omega arith)
or_digit (suc zero) (suc (suc y)) h k = absurd (omega arith)
or_digit (suc (suc x)) y h k = absurd (omega arith)

digit_or : (k a b : ℕ) → bit_of k (bit_or a b) ≡ (bit_of k a || bit_of k b)
digit_or zero a b =
    let small = or_small (a % 2) (b % 2) (omega arith) (omega arith) in
    ap (λ x. eqb (x % 2) 1) (or_step a b) ∙ ap (λ x. eqb x 1) (digits_mod (bit_or (a / 2) (b / 2)) small) ∙ or_digit (a % 2) (b % 2) (omega arith) (omega arith)
digit_or (suc k) a b =
    let small = or_small (a % 2) (b % 2) (omega arith) (omega arith) in
    ap (λ x. bit_of k (x / 2)) (or_step a b) ∙ ap (bit_of k) (digits_div (bit_or (a / 2) (b / 2)) small) ∙ digit_or k (a / 2) (b / 2)

digit_none : (k : ℕ) → bit_of k 0 ≡ false
digit_none zero = refl
digit_none (suc k) = digit_none k

digit_power : (m k : ℕ) → bit_of m (2 ^ k) ≡ eqb m k
digit_power zero zero = refl
digit_power zero (suc k) = rw (pow-suc 2 k, mul-mod_left (2 ^ k) 2) (sym (ne_eqb 0 (suc k) (λ e. omega arith)))
digit_power (suc m) zero = digit_none m ∙ sym (ne_eqb (suc m) 0 (λ e. omega arith))
digit_power (suc m) (suc k) =
    ap (λ x. bit_of m (x / 2)) (pow-suc 2 k) ∙ ap (bit_of m) (mul-div_cancel (2 ^ k) (omega arith)) ∙ digit_power m k ∙ sym (eqb-suc-suc m k)

-- Digit m of a number with the digit k set.
or_power : (x k m : ℕ) → eqb (bit_or x (2 ^ k) / 2 ^ m % 2) 1 ≡ (eqb (x / 2 ^ m % 2) 1 || eqb m k)
or_power x k m =
    digit_is m (bit_or x (2 ^ k)) ∙ digit_or m x (2 ^ k) ∙ rw (digit_is m x, digit_power m k)

module _ (l : List ℕ) (p : ℕ) (h : p < 8 * length l) where
  -- The byte of bit p.
  in_byte : (i : ℕ) → i / 8 ≡ p / 8 → bit_at (with_bit l p) i ≡ (bit_at l i || eqb (i % 8) (p % 8))
  unfolding bit_at with_bit
  in_byte i e =
      rw (e, get_or-set_same l (p / 8) (bit_or (get_or l (p / 8) 0) (2 ^ (p % 8))) 0 (omega arith)) (or_power (get_or l (p / 8) 0) (p % 8) (i % 8))

  pub bit_set : bit_at (with_bit l p) p ≡ true
  bit_set = in_byte p refl ∙ ap (λ t. bit_at l p || t) (eq-eqb (p % 8) (p % 8) refl) ∙ or-true (bit_at l p)

  other_byte : (i : ℕ) → (i / 8 ≡ p / 8 → ⊥) → bit_at (with_bit l p) i ≡ bit_at l i
  unfolding bit_at with_bit
  other_byte i d = rw (get_or-set_other l (p / 8) (i / 8) (bit_or (get_or l (p / 8) 0) (2 ^ (p % 8))) 0 d)

  pub bit_other : (i : ℕ) → (i ≡ p → ⊥) → bit_at (with_bit l p) i ≡ bit_at l i
  bit_other i n = go (dec_eq (i / 8) (p / 8))
    where
      go : Dec (i / 8 ≡ p / 8) → bit_at (with_bit l p) i ≡ bit_at l i
      go (yes e) = in_byte i e ∙ ap (λ t. bit_at l i || t) (ne_eqb (i % 8) (p % 8) (λ f. n (omega arith))) ∙ or-false (bit_at l i)
      go (no d) = other_byte i d

pub bits_length : (l : List ℕ) (p : ℕ) → length (with_bit l p) ≡ length l
unfolding with_bit
bits_length l p = length-set l (p / 8) (bit_or (get_or l (p / 8) 0) (2 ^ (p % 8)))

zeros : (n i : ℕ) → ◌≡◌ {A = ℕ} (get_or (replicate n 0) i 0) 0
zeros zero i = refl
zeros (suc n) zero = refl
zeros (suc n) (suc i) = zeros n i

-- A table of zeros has no bit set.
pub no_bits : (n i : ℕ) → bit_at (replicate n 0) i ≡ false
unfolding bit_at
no_bits n i = rw (zeros n (i / 8), zero-div (2 ^ (i % 8)))
