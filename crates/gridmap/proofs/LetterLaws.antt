-- The letters of a row from a place on: what one letter more means. A row has no more cells than letters. By induction over the row.
-- Assumes nothing.
use Prim.Native.Nat.{ℕ, suc, ◌+◌, ◌≤◌, ◌<◌}
use mathlib.Core.Path.{◌≡◌}
use mathlib.Core.List.{List, [], ◌∷◌}
use mathlib.Core.Bool.{Bool, true, false, cond}
use native.Mathlib.Omega.{arith}
use native.Mathlib.Numerals.{add-one}
use lib.ListN.{length, get_or, drop, drop_of_length-le}
use lib.Seq.{drop-cons}
use Rattle.model.specs.GridMap.{is_cell, is_letter, all_letters, row_cells}

module _ (l : List ℕ) (i : ℕ) where
  pub letters_none : length l ≤ i → all_letters (drop i l) ≡ true
  letters_none h = rw (drop_of_length-le l h)

  pub letters_bad : i < length l → is_letter (get_or l i 0) ≡ false → all_letters (drop i l) ≡ false
  letters_bad h e = rw (drop-cons l i 0, e)

  pub letters_step : i < length l → is_letter (get_or l i 0) ≡ true → all_letters (drop i l) ≡ all_letters (drop (i + 1) l)
  letters_step h e = rw (drop-cons l i 0, e, add-one)

pub count_most : (l : List ℕ) → row_cells l ≤ length l
count_most [] = omega arith
count_most (b ∷ l) = go (is_cell b) (count_most l)
  where
    go : (t : Bool) → row_cells l ≤ length l → cond t (suc (row_cells l)) (row_cells l) ≤ suc (length l)
    go true h = omega arith
    go false h = omega arith
