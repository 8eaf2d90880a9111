-- The nodes that a search has not marked: each new mark lowers their number by one, so that the search ends. Assumes nothing.
use Prim.Native.Nat.{ℕ, zero, suc, ◌+◌, ◌<◌, ◌≤◌}
use mathlib.Core.Path.{◌≡◌, refl, sym, ap}
use mathlib.Core.Bool.{Bool, true, false, cond}
use native.Mathlib.Omega.{arith}
use native.Mathlib.Decide.{ℕ_discrete}
use lib.Dec.{eqb}
use borrow.Author.Tests.{eq-eqb, ne_eqb}

abbrev one : Bool → ℕ
one b = cond b 0 1

-- How many of the first m have not the stamp.
abbrev pub unmarked : (ℕ → ℕ) → ℕ → ℕ → ℕ
unmarked f stamp zero = 0
unmarked f stamp (suc m) = one (eqb (f m) stamp) + unmarked f stamp m

one_small : (b : Bool) → one b ≤ 1
one_small true = omega arith
one_small false = omega arith

module _ (stamp : ℕ) where
  one_set : (a : ℕ) → a ≡ stamp → one (eqb a stamp) ≡ 0
  one_set a e = ap one (eq-eqb a stamp e)

  one_free : (a : ℕ) → (a ≡ stamp → ⊥) → one (eqb a stamp) ≡ 1
  one_free a e = ap one (ne_eqb a stamp e)

  unmarked_le : (f : ℕ → ℕ) (m : ℕ) → unmarked f stamp m ≤ m
  unmarked_le f zero = omega arith
  unmarked_le f (suc m) = omega (arith, unmarked_le f m, one_small (eqb (f m) stamp))

  pub unmarked_less : (f : ℕ → ℕ) (m v : ℕ) → v < m → f v ≡ stamp → unmarked f stamp m < m
  unmarked_less f zero v h e = absurd (omega arith)
  unmarked_less f (suc m) v h e = go (ℕ_discrete v m) (λ h'. unmarked_less f m v h' e)
    where
      go : Dec (v ≡ m) → (v < m → unmarked f stamp m < m) → unmarked f stamp (suc m) < suc m
      go (yes z) ih = let e' : f m ≡ stamp = rw z at e in omega (arith, one_set (f m) e', unmarked_le f m)
      go (no z) ih = omega (arith, ih (omega arith), one_small (eqb (f m) stamp))

  pub unmarked_some : (f : ℕ → ℕ) (m v : ℕ) → v < m → (f v ≡ stamp → ⊥) → 0 < unmarked f stamp m
  unmarked_some f zero v h ne = absurd (omega arith)
  unmarked_some f (suc m) v h ne = go (ℕ_discrete v m) (λ h'. unmarked_some f m v h' ne)
    where
      go : Dec (v ≡ m) → (v < m → 0 < unmarked f stamp m) → 0 < unmarked f stamp (suc m)
      go (yes z) ih = let ne' : f m ≡ stamp → ⊥ = rw z at ne in omega (arith, one_free (f m) ne')
      go (no z) ih = omega (arith, ih (omega arith))

  unmarked_same : (f g : ℕ → ℕ) (m : ℕ) → ((v : ℕ) → v < m → g v ≡ f v) → unmarked g stamp m ≡ unmarked f stamp m
  unmarked_same f g zero e = refl
  unmarked_same f g (suc m) e = rw (e m (omega arith), unmarked_same f g m (λ v h. e v (omega arith)))

  -- One mark more.
  pub unmarked_falls : (f g : ℕ → ℕ) (m q : ℕ) → q < m → (f q ≡ stamp → ⊥) → g q ≡ stamp → ((v : ℕ) → v < m → (v ≡ q → ⊥) → g v ≡ f v)
      → unmarked f stamp m ≡ suc (unmarked g stamp m)
  unmarked_falls f g zero q h fr e same = absurd (omega arith)
  unmarked_falls f g (suc m) q h fr e same = go (ℕ_discrete q m) (λ h'. unmarked_falls f g m q h' fr e (λ v l. same v (omega arith)))
    where
      go : Dec (q ≡ m) → (q < m → unmarked f stamp m ≡ suc (unmarked g stamp m)) → unmarked f stamp (suc m) ≡ suc (unmarked g stamp (suc m))
      go (yes z) ih =
          let fr' : f m ≡ stamp → ⊥ = rw z at fr in
          let e' : g m ≡ stamp = rw z at e in
          omega (arith, one_free (f m) fr', one_set (g m) e', unmarked_same f g m (λ v l. same v (omega arith) (λ y. omega arith)))
      go (no z) ih = rw (same m (omega arith) (λ y. z (sym y))) (omega (arith, ih (omega arith)))
