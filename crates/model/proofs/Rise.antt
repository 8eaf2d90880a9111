-- Lists that rise, put together and taken apart: two that rise and stand so to each other rise as one, and so do the lists that are given below a number; where the relation goes on
-- from one to the next, what stands in front of a place stands so to all behind it. Assumes nothing.
use Prim.Native.Nat.{ℕ, zero, suc, ◌<◌}
use mathlib.Core.Path.{refl}
use mathlib.Core.List.{List, [], ◌∷◌, ◌++◌}
use mathlib.Core.Logic.{inl, inr}
use Rattle.model.specs.Lists.{In, Rising, each_below}
use Rattle.model.proofs.Lists.{in_right, rising_first}
use Rattle.model.proofs.Numbering.{each_in}

module _ {A : Type 0} (R : A → A → Type 0) where
  pub rising_append : (l k : List A) → Rising R l → Rising R k → ((a b : A) → In a l → In b k → R a b) → Rising R (l ++ k)
  rising_append [] k r s f = s
  rising_append (a ∷ []) [] r s f = tt
  rising_append (a ∷ []) (b ∷ k) r s f = (f a b (inl refl) (inl refl), s)
  rising_append (a ∷ b ∷ l) k r s f = (r.0, rising_append (b ∷ l) k r.1 s (λ x y i. f x y (inr i)))

  pub each_rising : (n : ℕ) (f : ℕ → List A) → ((i : ℕ) → Rising R (f i)) → ((i k : ℕ) (a b : A) → i < k → In a (f i) → In b (f k) → R a b) → Rising R (each_below n f)
  each_rising zero f r g = tt
  each_rising (suc n) f r g =
      rising_append (each_below n f) (f n) (each_rising n f r g) (r n) (λ a b i k. let (j, l, h) = each_in a n f i in g j n a b l h k)

  rising_rest : (a : A) (l : List A) → Rising R (a ∷ l) → Rising R l
  rising_rest a [] r = tt
  rising_rest a (b ∷ l) r = r.1

  pub rising_across : ((x y z : A) → R x y → R y z → R x z) → (l k : List A) → Rising R (l ++ k) → (a b : A) → In a l → In b k → R a b
  rising_across on [] k r a b i h = absurd i
  rising_across on (x ∷ l) k r a b (inl e) h = rw e (rising_first R on x (l ++ k) r b (in_right b l k h))
  rising_across on (x ∷ l) k r a b (inr i) h = rising_across on l k (rising_rest x (l ++ k) r) a b i h
