-- A number is 0 or above it, below another or not. Assumes nothing.
use Prim.Native.Nat.{ℕ, ◌≤◌, ◌<◌}
use mathlib.Core.Path.{◌≡◌, refl, sym}
use mathlib.Core.Bool.{Bool, true, false}
use mathlib.Core.Logic.{⊎_elim, ◌⊎◌, inl, inr}
use native.Mathlib.Omega.{arith}
use native.Mathlib.Nat.{eq-or-lt_of_le}
use lib.Dec.{ltb}
use borrow.Author.Tests.{ltb-true, ltb-false}

pub zero_or : (x : ℕ) → (x ≡ 0) ⊎ (0 < x)
zero_or x = ⊎_elim (λ e. inl (sym e)) (λ l. inr l) (eq-or-lt_of_le {n = 0} {m = x} (omega arith))

pub below_or : (a b : ℕ) → (a < b) ⊎ (b ≤ a)
below_or a b = go (ltb a b) refl
  where
    go : (v : Bool) → ltb a b ≡ v → (a < b) ⊎ (b ≤ a)
    go true e = inl (ltb-true a b e)
    go false e = inr (ltb-false a b e)

pub none : {x : ℕ} → (0 < x → ⊥) → x ≡ 0
none {x} n = ⊎_elim (λ e. e) (λ p. absurd (n p)) (zero_or x)
