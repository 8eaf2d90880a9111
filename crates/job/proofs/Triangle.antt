-- Each two cells have a place of their own in the table, the same either way round. The pairs whose greater cell is n fill the places from
-- `pairs_below n` up to those of the next cell, so that the place tells the greater cell, and then the lesser one. Assumes nothing.
use Prim.Native.Nat.{ℕ, zero, suc, ◌+◌, ◌-◌, ◌<◌, ◌≤◌}
use mathlib.Core.Path.{◌≡◌, refl, sym, ap, ◌∙◌}
use mathlib.Core.Bool.{Bool, true, false}
use mathlib.Core.Logic.{◌⊎◌, inl, inr}
use native.Mathlib.Omega.{arith}
use lib.Dec.{ltb}
use borrow.Author.Tests.{ltb-true, ltb-false}
use Rattle.model.specs.Limits.{max_cells}
use Rattle.job.specs.Bits.{pairs_below, pair_at}

next_row : (n : ℕ) → pairs_below (suc n) ≡ pairs_below n + suc n
next_row n = omega arith

rows_grow : (n k : ℕ) → pairs_below n ≤ pairs_below (n + k)
rows_grow n zero = omega arith
rows_grow n (suc k) = omega (arith, rows_grow n k, next_row (n + k))

-- A row ends before any later one begins.
pub row_ends : (lo hi n : ℕ) → lo ≤ hi → hi < n → pairs_below hi + lo < pairs_below n
row_ends lo hi n l h =
    let d : suc hi + (n - suc hi) ≡ n = omega arith in
    let g : pairs_below (suc hi) ≤ pairs_below n = rw d at (rows_grow (suc hi) (n - suc hi)) in
    omega (arith, next_row hi, g)

same_row : (lo hi u n : ℕ) → lo ≤ hi → u ≤ n → pairs_below hi + lo ≡ pairs_below n + u → hi ≡ n
same_row lo hi u n l k e = go (ltb hi n) (ltb n hi) refl refl
  where
    go : (t s : Bool) → ltb hi n ≡ t → ltb n hi ≡ s → hi ≡ n
    go true s p q = absurd (omega (arith, row_ends lo hi n l (ltb-true hi n p)))
    go false true p q = absurd (omega (arith, row_ends u n hi k (ltb-true n hi q)))
    go false false p q = omega (arith, ltb-false hi n p, ltb-false n hi q)

same_corner : (lo hi u n : ℕ) → lo ≤ hi → u ≤ n → pairs_below hi + lo ≡ pairs_below n + u → (lo ≡ u) × (hi ≡ n)
same_corner lo hi u n l k e = let r = same_row lo hi u n l k e in (omega (arith, ap pairs_below r), r)

-- A pair by its greater cell.
data Corner (a b : ℕ) : Type 0 where
  rising : a ≤ b → pair_at a b ≡ pairs_below b + a → Corner a b
  falling : b ≤ a → pair_at a b ≡ pairs_below a + b → Corner a b

corner : (a b : ℕ) → Corner a b
corner a b = go (ltb a b) refl
  where
    go : (t : Bool) → ltb a b ≡ t → Corner a b
    go true e = let h = ltb-true a b e in rising (omega arith) (simp e)
    go false e = falling (ltb-false a b e) (simp e)

pub pair_small : (a b : ℕ) → a < max_cells → b < max_cells → pair_at a b < pairs_below max_cells
pair_small a b h k = go (corner a b)
  where
    go : Corner a b → pair_at a b < pairs_below max_cells
    go (rising l e) = rw e (row_ends a b max_cells l k)
    go (falling l e) = rw e (row_ends b a max_cells l h)

pub pair_back : (a b : ℕ) → pair_at a b ≡ pair_at b a
pair_back a b = go (corner a b) (corner b a)
  where
    go : Corner a b → Corner b a → pair_at a b ≡ pair_at b a
    go (rising l e) (rising k f) = let d : a ≡ b = omega arith in rw d
    go (rising l e) (falling k f) = e ∙ sym f
    go (falling l e) (rising k f) = e ∙ sym f
    go (falling l e) (falling k f) = let d : a ≡ b = omega arith in rw d

-- Two pairs at one place are the same pair, maybe the other way round.
pub pair_same : (a b u v : ℕ) → pair_at a b ≡ pair_at u v → ((a ≡ u) × (b ≡ v)) ⊎ ((b ≡ u) × (a ≡ v))
pair_same a b u v q = go (corner a b) (corner u v)
  where
    go : Corner a b → Corner u v → ((a ≡ u) × (b ≡ v)) ⊎ ((b ≡ u) × (a ≡ v))
    go (rising l e) (rising k f) = let (r, s) = same_corner a b u v l k (sym e ∙ q ∙ f) in inl (r, s)
    go (rising l e) (falling k f) = let (r, s) = same_corner a b v u l k (sym e ∙ q ∙ f) in inr (s, r)
    go (falling l e) (rising k f) = let (r, s) = same_corner b a u v l k (sym e ∙ q ∙ f) in inr (r, s)
    go (falling l e) (falling k f) = let (r, s) = same_corner b a v u l k (sym e ∙ q ∙ f) in inl (s, r)
