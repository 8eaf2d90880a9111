-- A row, letter by letter: after c letters the number of the next cell is known, and the cells among them are noted under their numbers (`Walked`). A cell is noted under a number
-- that none before it had, since numbers rise from cell to cell; a wall changes nothing; another letter shows that the row is none. Assumes nothing.
use Prim.Native.Nat.{ℕ, suc, ◌+◌, ◌≤◌, ◌<◌}
use mathlib.Core.Path.{◌≡◌, refl, sym, ◌∙◌}
use mathlib.Core.List.{List, [], ◌∷◌}
use mathlib.Core.Logic.{inr}
use mathlib.Core.Bool.{true, false}
use native.Mathlib.Omega.{arith}
use native.Mathlib.Numerals.{add-one}
use lib.ListN.{length, get_or, take, drop, set}
use lib.Seq.{get_or-set_same, get_or-set_other, take_all}
use Rattle.model.specs.Limits.{max_cells}
use Rattle.model.specs.GridMap.{is_cell, is_wall, all_letters, row_cells}
use Rattle.model.proofs.Basics.{nope}
use Rattle.model.proofs.Decide.{dec-lt}
use Rattle.model.proofs.Numbering.{row_next, number_rises}
use Rattle.model.proofs.Neighbours.{column_inside}
use Rattle.gridmap.specs.Drawing.{GoodRow}
use Rattle.gridmap.proofs.LetterLaws.{letters_none, letters_bad, letters_step}

pub record Walked (l : List ℕ) (first n₀ : ℕ) (places₀ places : List ℕ) (n c : ℕ) : Type 0 where
  pub counts : n ≡ n₀ + row_cells (take c l)
  pub noted : (i : ℕ) → i < c → is_cell (get_or l i 0) ≡ true → n₀ + row_cells (take i l) < max_cells → get_or places (n₀ + row_cells (take i l)) 0 ≡ first + i
  pub kept : (k : ℕ) → k < n₀ → get_or places k 0 ≡ get_or places₀ k 0
  pub letters : all_letters (drop c l) ≡ all_letters l

-- the cells of a row before one of them are fewer than those before a later place
fewer : (l : List ℕ) (i c : ℕ) → is_cell (get_or l i 0) ≡ true → i < c → row_cells (take i l) < row_cells (take c l)
fewer l i c e h = omega (arith, number_rises (l ∷ []) 0 i 0 c e (inr (refl, h)))

module _ (l : List ℕ) (first n₀ : ℕ) (places₀ : List ℕ) where
  pub walked_none : Walked l first n₀ places₀ places₀ n₀ 0
  walked_none = record { counts = omega arith; noted = λ i h. absurd (omega arith); kept = λ k h. refl; letters = refl }

  module _ {places : List ℕ} {n c : ℕ} (w : Walked l first n₀ places₀ places n c) where
    module _ (h : c < length l) (e : is_cell (get_or l c 0) ≡ true) where
      pub walked_cell : length places ≡ max_cells → {places' : List ℕ} {n' : ℕ} → places' ≡ set places n (first + c) → n' ≡ n + 1 → Walked l first n₀ places₀ places' n' (c + 1)
      walked_cell f p q = rw (p, q) record {
        counts = let k : row_cells (take (c + 1) l) ≡ suc (row_cells (take c l)) = rw (add-one, row_next l c, e) in omega (arith, w.counts);
        noted = noted_more;
        kept = λ k g. get_or-set_other places n k (first + c) 0 (λ q. omega (arith, w.counts)) ∙ w.kept k g;
        letters = sym (letters_step l c h (rw e)) ∙ w.letters;
      }
        where
          noted_more : (i : ℕ) → i < c + 1 → is_cell (get_or l i 0) ≡ true → n₀ + row_cells (take i l) < max_cells
              → get_or (set places n (first + c)) (n₀ + row_cells (take i l)) 0 ≡ first + i
          noted_more i k g b = go (dec-lt i c)
            where
              go : Dec (i < c) → get_or (set places n (first + c)) (n₀ + row_cells (take i l)) 0 ≡ first + i
              go (yes j) = get_or-set_other places n (n₀ + row_cells (take i l)) (first + c) 0 (λ q. omega (arith, w.counts, fewer l i c g j)) ∙ w.noted i j g b
              go (no j) =
                  let q : i ≡ c = omega arith in
                  let m : n₀ + row_cells (take i l) ≡ n = rw q (sym w.counts) in
                  rw (m, q) (get_or-set_same places n (first + c) 0 (omega arith))

    module _ (h : c < length l) (e : is_cell (get_or l c 0) ≡ false) where
      pub walked_wall : is_wall (get_or l c 0) ≡ true → {places' : List ℕ} {n' : ℕ} → places' ≡ places → n' ≡ n → Walked l first n₀ places₀ places' n' (c + 1)
      walked_wall f p q = rw (p, q) record {
        counts = rw (add-one, row_next l c, e) w.counts;
        noted = λ i k g b. go i k g b (dec-lt i c);
        kept = w.kept;
        letters = sym (letters_step l c h (rw (e, f))) ∙ w.letters;
      }
        where
          go : (i : ℕ) → i < c + 1 → is_cell (get_or l i 0) ≡ true → n₀ + row_cells (take i l) < max_cells → Dec (i < c) → get_or places (n₀ + row_cells (take i l)) 0 ≡ first + i
          go i k g b (yes j) = w.noted i j g b
          go i k g b (no j) = let q : i ≡ c = omega arith in let z : true ≡ false = sym (rw q at g) ∙ e in nope (cc)

      pub walked_bad : is_wall (get_or l c 0) ≡ false → all_letters l ≡ false
      walked_bad f = sym w.letters ∙ letters_bad l c h (rw (e, f))

    pub walked_all : length l ≤ c → GoodRow l first n₀ places₀ places n
    walked_all h = record {
      letters = sym w.letters ∙ letters_none l c h;
      counts = rw (take_all c l h) at w.counts;
      noted = λ i g b. w.noted i (omega (arith, column_inside l i g)) g b;
      kept = w.kept;
    }
