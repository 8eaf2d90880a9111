-- What a function gives below n: as a list, with its length, members and places; as a sum, which falls where one value falls; and changed at one number. One of the numbers below n is of the one
-- sort, or all are of the other. Assumes nothing.
use Prim.Native.Nat.{ℕ, zero, suc, ◌+◌, ◌<◌}
use mathlib.Core.Path.{◌≡◌, refl, ap}
use mathlib.Core.List.{List, [], ◌∷◌, ◌++◌, map}
use mathlib.Core.Logic.{◌⊎◌, inl, inr}
use mathlib.Core.Bool.{cond}
use native.Mathlib.Omega.{arith}
use native.Mathlib.Numerals.{unary_clauses}
use lib.Dec.{eqb}
use lib.ListN.{length, get_or}
use borrow.Author.Tests.{eq-eqb, ne_eqb}
use Rattle.model.specs.Lists.{In, NoDup}
use Rattle.model.proofs.Decide.{dec_eq, one_below}

abbrev pub table : {A : Type 0} → ℕ → (ℕ → A) → List A
table zero f = []
table (suc n) f = f 0 ∷ table n (λ k. f (suc k))

module _ {A : Type 0} where
  pub length_table : (n : ℕ) (f : ℕ → A) → length (table n f) ≡ n
  length_table zero f = refl
  length_table (suc n) f = ap suc (length_table n (λ k. f (suc k)))

  pub get_or_table : (n : ℕ) (f : ℕ → A) (i : ℕ) (d : A) → i < n → get_or (table n f) i d ≡ f i
  get_or_table zero f i d h = absurd (omega arith)
  get_or_table (suc n) f zero d h = refl
  get_or_table (suc n) f (suc i) d h = get_or_table n (λ k. f (suc k)) i d (omega arith)

  pub in_table : (n : ℕ) (f : ℕ → A) (a : A) → In a (table n f) → (k : ℕ) × (k < n) × (a ≡ f k)
  in_table zero f a m = absurd m
  in_table (suc n) f a (inl e) = (0, omega arith, e)
  in_table (suc n) f a (inr m) = let (k, h, e) = in_table n (λ i. f (suc i)) a m in (suc k, omega arith, e)

  pub nodup_table : (n : ℕ) (f : ℕ → A) → ((i k : ℕ) → i < n → k < n → f i ≡ f k → i ≡ k) → NoDup (table n f)
  nodup_table zero f own = tt
  nodup_table (suc n) f own = (
    λ m. let (k, h, e) = in_table n (λ i. f (suc i)) (f 0) m in omega (arith, own 0 (suc k) (omega arith) (omega arith) e),
    nodup_table n (λ i. f (suc i)) (λ i k h l e. omega (arith, own (suc i) (suc k) (omega arith) (omega arith) e)),
  )

  pub table_append : (m d : ℕ) (f : ℕ → A) → table m f ++ table d (λ k. f (k + m)) ≡ table (d + m) f
  table_append zero d f = simp unary_clauses
  table_append (suc m) d f = simp unary_clauses (ap (λ l. f 0 ∷ l) (table_append m d (λ k. f (suc k))))

pub map_table : {A B : Type 0} (g : A → B) (n : ℕ) (f : ℕ → A) → map g (table n f) ≡ table n (λ k. g (f k))
map_table g zero f = refl
map_table g (suc n) f = ap (λ l. g (f 0) ∷ l) (map_table g n (λ k. f (suc k)))

-- the sum of what f gives below n
abbrev pub total : (ℕ → ℕ) → ℕ → ℕ
total f zero = 0
total f (suc n) = f n + total f n

total_same : (f g : ℕ → ℕ) (n : ℕ) → ((k : ℕ) → k < n → f k ≡ g k) → total f n ≡ total g n
total_same f g zero e = refl
total_same f g (suc n) e = omega (arith, e n (omega arith), total_same f g n (λ k h. e k (omega arith)))

pub total_falls : (f g : ℕ → ℕ) (i n : ℕ) → i < n → f i < g i → ((k : ℕ) → k < n → (k ≡ i → ⊥) → f k ≡ g k) → total f n < total g n
total_falls f g i zero h l e = absurd (omega arith)
total_falls f g i (suc n) h l e = go (dec_eq n i) (λ k. total_falls f g i n k l (λ a b. e a (omega arith)))
  where
    go : Dec (n ≡ i) → (i < n → total f n < total g n) → total f (suc n) < total g (suc n)
    go (yes q) ih = let k : f n < g n = rw q l in omega (arith, total_same f g n (λ a b. e a (omega arith) (λ r. omega arith)))
    go (no q) ih = omega (arith, e n (omega arith) q, ih (omega arith))

-- f, but a at i
abbrev pub put : {A : Type 0} → (ℕ → A) → ℕ → A → ℕ → A
put f i a k = cond (eqb k i) a (f k)

pub put_at : {A : Type 0} (f : ℕ → A) (i : ℕ) (a : A) (k : ℕ) → k ≡ i → put f i a k ≡ a
put_at f i a k e = rw (eq-eqb k i e)

pub put_off : {A : Type 0} (f : ℕ → A) (i : ℕ) (a : A) (k : ℕ) → (k ≡ i → ⊥) → put f i a k ≡ f k
put_off f i a k e = rw (ne_eqb k i e)

pub some_or_all : {P Q : ℕ → Type 0} → ((i : ℕ) → P i ⊎ Q i) → (n : ℕ) → ((i : ℕ) × (i < n) × P i) ⊎ ((i : ℕ) → i < n → Q i)
some_or_all d zero = inr (λ i h. absurd (omega arith))
some_or_all {P} {Q} d (suc n) = go (d n) (some_or_all d n)
  where
    go : P n ⊎ Q n → ((i : ℕ) × (i < n) × P i) ⊎ ((i : ℕ) → i < n → Q i) → ((i : ℕ) × (i < suc n) × P i) ⊎ ((i : ℕ) → i < suc n → Q i)
    go (inl p) h = inl (n, omega arith, p)
    go (inr q) (inl (i, h, p)) = inl (i, omega arith, p)
    go (inr q) (inr h) = inr (λ i l. one_below {P = Q} n (q, h) i l)
