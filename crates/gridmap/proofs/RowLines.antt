-- The rows of a map, line by line: so many letters and a line feed behind them are a row, and nothing else is. What the rows from a place on say, after those before it, is
-- what all of them say (`RowsLeft`); the loop goes on where the row is good, and stops at one that is not. Assumes nothing.
use Prim.Native.Nat.{ℕ, suc, ◌+◌, ◌-◌, ◌*◌, ◌≤◌, ◌<◌}
use mathlib.Core.Path.{◌≡◌, refl, sym, ap, ◌∙◌}
use mathlib.Core.List.{List, [], ◌∷◌, ◌++◌}
use mathlib.Core.Option.{some}
use mathlib.Core.Bool.{Bool, true, false, ◌&&◌}
use native.Mathlib.Omega.{arith}
use native.Mathlib.Nat.{add-mul, one-mul, mul-le-mul}
use lib.Dec.{eqb}
use lib.ListN.{length, get_or, take, drop, length-append, length-drop, get_or-append, get_or-eq_default}
use lib.Seq.{length-take-le, take-append-le, take-append_seam, get_or-append_seam}
use borrow.Author.Tests.{eqb-true, eq-eqb}
use Rattle.model.specs.Limits.{max_cells, max_side}
use Rattle.model.specs.Text.{lines_of}
use Rattle.model.specs.FirstBad.{rest_says}
use Rattle.model.specs.GridMap.{Drawn, bad, drawn, is_cell, is_letter, all_letters, row_line, cell_at, row_cells, map_cells, cell_number}
use Rattle.model.proofs.Basics.{nope, and_left, and_right}
use Rattle.model.proofs.Read.{cond_some}
use Rattle.model.proofs.Written.{free}
use Rattle.model.proofs.Decide.{dec-lt, dec_eq}
use Rattle.model.proofs.Numbering.{rows_append, number_below, number_some}
use Rattle.model.proofs.Neighbours.{column_inside, row_inside}
use Rattle.gridmap.specs.Lines.{SaidAt, UnsaidAt}
use Rattle.gridmap.specs.CellPlaces.{max_places, CellsPlaced}
use Rattle.gridmap.specs.Drawing.{GoodRow, RowsOf}
use Rattle.gridmap.proofs.Lines.{Ended, said, unsaid, rest_said, rest_unsaid, rest_over, rest_none}

letters_free : (l : List ℕ) → all_letters l ≡ true → free 10 l ≡ true
letters_free [] e = refl
letters_free (b ∷ l) e = go (eqb b 10) refl (letters_free l (and_right (is_letter b) (all_letters l) e))
  where
    go : (t : Bool) → eqb b 10 ≡ t → free 10 l ≡ true → free 10 (b ∷ l) ≡ true
    go true q f = let k : b ≡ 10 = eqb-true b 10 q in let z : is_letter 10 ≡ true = rw k at (and_left (is_letter b) (all_letters l) e) in nope (cc)
    go false q f = rw (q, f)

module _ (s : List ℕ) (p w : ℕ) where
  pub row_said : p + w < length s → all_letters (take w (drop p s)) ≡ true → get_or s (p + w) 0 ≡ 10 → SaidAt (row_line w) s p (take w (drop p s)) (p + w + 1)
  row_said i e f =
      let l = take w (drop p s) in
      let k : length l ≡ w = length-take-le w (drop p s) (omega (arith, length-drop p s)) in
      let h : Ended s p l = record { inside = rw k i; part = ap (λ x. take x (drop p s)) k; feed = rw k f } in
      rw k at (said (row_line w) s p l l h (letters_free l e) (rw (eq-eqb (length l) w k, e)))

  pub row_unsaid : (p + w < length s → all_letters (take w (drop p s)) ≡ true → get_or s (p + w) 0 ≡ 10 → ⊥) → UnsaidAt (row_line w) s p
  row_unsaid never = unsaid (row_line w) s p λ l a h e.
      let f = (cond_some (eqb (length l) w && all_letters l) (some l) a e).0 in
      let k : length l ≡ w = eqb-true (length l) w (and_left _ _ f) in
      let g : take w (drop p s) ≡ l = sym (ap (λ x. take x (drop p s)) k) ∙ h.part in
      never (rw k at h.inside) (rw g (and_right (eqb (length l) w) (all_letters l) f)) (rw k at h.feed)

-- A row more: its cells have their places, and those of the rows above keep theirs.
module _ (l : List (List ℕ)) (x : List ℕ) (w : ℕ) {places places' : List ℕ} {n : ℕ} (long : length x ≡ w) (old : CellsPlaced l w places)
    (new : GoodRow x (length l * suc w) (map_cells l) places places' n) where
  above : (r c : ℕ) → r < length l → cell_at (l ++ (x ∷ [])) r c ≡ true → cell_number (l ++ (x ∷ [])) r c < max_cells
      → (c < w) × (get_or places' (cell_number (l ++ (x ∷ [])) r c) 0 ≡ r * suc w + c)
  above r c k e h =
      let g : get_or (l ++ (x ∷ [])) r [] ≡ get_or l r [] = get_or-append l (x ∷ []) [] r k in
      let t : take r (l ++ (x ∷ [])) ≡ take r l = take-append-le r l (x ∷ []) (omega arith) in
      let e' : cell_at l r c ≡ true = rw g at e in
      let i : cell_number (l ++ (x ∷ [])) r c ≡ cell_number l r c = rw (g, t) refl in
      let (inside, place) = old r c e' (rw i at h) in
      (inside, rw i (new.kept (cell_number l r c) (number_below l r c e') ∙ place))

  last : (c : ℕ) → cell_at (l ++ (x ∷ [])) (length l) c ≡ true → cell_number (l ++ (x ∷ [])) (length l) c < max_cells
      → (c < w) × (get_or places' (cell_number (l ++ (x ∷ [])) (length l) c) 0 ≡ length l * suc w + c)
  last c e h =
      let g : get_or (l ++ (x ∷ [])) (length l) [] ≡ x = get_or-append_seam l x [] [] in
      let t : take (length l) (l ++ (x ∷ [])) ≡ l = take-append_seam l (x ∷ []) in
      let e' : is_cell (get_or x c 0) ≡ true = rw g at e in
      let i : cell_number (l ++ (x ∷ [])) (length l) c ≡ map_cells l + row_cells (take c x) = rw (g, t) refl in
      (rw long at (column_inside x c e'), rw i (new.noted c e' (rw i at h)))

  pub placed_more : CellsPlaced (l ++ (x ∷ [])) w places'
  placed_more r c e h = go (dec-lt r (length l)) (dec_eq r (length l))
    where
      go : Dec (r < length l) → Dec (r ≡ length l) → (c < w) × (get_or places' (cell_number (l ++ (x ∷ [])) r c) 0 ≡ r * suc w + c)
      go (yes k) d = above r c k e h
      go (no k) (yes q) = rw q (last c (rw q at e) (rw q at h))
      go (no k) (no q) =
          let o : length (l ++ (x ∷ [])) ≤ r = omega (arith, length-append l (x ∷ [])) in
          let z : get_or (l ++ (x ∷ [])) r [] ≡ [] = get_or-eq_default (l ++ (x ∷ [])) [] o in
          let f : false ≡ true = rw z at e in
          nope (cc)

module _ (s : List ℕ) (start h w : ℕ) where
  abbrev pub AllRows : Drawn
  AllRows = rest_says bad (row_line w) drawn [] h 5 (lines_of (drop start s))

  -- The rows from p on, after those in `rows`.
  pub record RowsLeft (p r cells : ℕ) (places : List ℕ) : Type 0 where
    pub rows : List (List ℕ)
    pub size : length rows ≡ r
    pub says : rest_says bad (row_line w) drawn rows (h - r) (r + 5) (lines_of (drop p s)) ≡ AllRows
    pub place : p ≡ start + r * suc w
    pub counts : cells ≡ map_cells rows
    pub placed : CellsPlaced rows w places

  pub left_all : (places : List ℕ) → RowsLeft start 0 0 places
  left_all places =
      let e : h - 0 ≡ h = omega arith in
      record {
        rows = [];
        size = refl;
        says = ap (λ k. rest_says bad (row_line w) drawn [] k 5 (lines_of (drop start s))) e;
        place = omega arith;
        counts = refl;
        placed = λ r c f. nope (cc);
      }

  module _ {p r cells : ℕ} {places : List ℕ} (left : RowsLeft p r cells places) where
    by_count : (k : ℕ) → h - r ≡ k → rest_says bad (row_line w) drawn left.rows k (r + 5) (lines_of (drop p s)) ≡ AllRows
    by_count k e = ap (λ x. rest_says bad (row_line w) drawn left.rows x (r + 5) (lines_of (drop p s))) (sym e) ∙ left.says

    pub row_bad : r < h → UnsaidAt (row_line w) s p → AllRows ≡ bad (r + 5)
    row_bad k u = sym (by_count (suc (h - (r + 1))) (omega arith)) ∙ rest_unsaid bad (row_line w) s p (r + 5) drawn left.rows (h - (r + 1)) u

    pub row_good : {n : ℕ} {places' : List ℕ} → r < h → p + w < length s → GoodRow (take w (drop p s)) (p - start) cells places places' n
        → SaidAt (row_line w) s p (take w (drop p s)) (p + w + 1) → RowsLeft (p + w + 1) (r + 1) n places'
    row_good {n} {places'} k i new d = record {
      rows = left.rows ++ (x ∷ []);
      size = omega (arith, length-append left.rows (x ∷ []), left.size);
      says = rw e (sym (rest_said bad (row_line w) s p (r + 5) drawn left.rows (h - (r + 1)) d)) ∙ by_count (suc (h - (r + 1))) (omega arith);
      place = omega (arith, left.place, further);
      counts = new.counts ∙ rw (rows_append left.rows (x ∷ [])) (omega (arith, left.counts));
      placed = placed_more left.rows x w long left.placed (rw (first, left.counts) at new);
    }
      where
        x : List ℕ
        x = take w (drop p s)

        e : r + 1 + 5 ≡ r + 5 + 1
        e = omega arith

        further : (r + 1) * suc w ≡ r * suc w + suc w
        further = rw (add-mul, one-mul) refl

        long : length (take w (drop p s)) ≡ w
        long = length-take-le w (drop p s) (omega (arith, length-drop p s))

        first : p - start ≡ length left.rows * suc w
        first = rw left.size (omega (arith, left.place))

    pub rows_over : h ≤ r → p < length s → AllRows ≡ bad (r + 5)
    rows_over k i = sym (by_count 0 (omega arith)) ∙ rest_over bad (row_line w) s p (r + 5) drawn left.rows i

    pub rows_read : h ≤ r → r ≤ h → length s ≤ p → h ≤ max_side → w ≤ max_side → RowsOf AllRows places w cells
    rows_read a b i few_rows few_letters = record {
      rows = left.rows;
      says = sym (by_count 0 (omega arith)) ∙ rest_none bad (row_line w) s p (r + 5) drawn left.rows i;
      counts = left.counts;
      placed = left.placed;
      few_rows = omega (arith, left.size);
      few_letters = few_letters;
    }

-- A place that is noted is within the rows.
pub near : {d : Drawn} {places : List ℕ} {w cells : ℕ} → RowsOf d places w cells → (k : ℕ) → k < cells → k < max_cells → get_or places k 0 ≤ max_places
near {d} {places} {w} {cells} h k i j =
    let (r, c, e, f) = number_some h.rows k (omega (arith, h.counts)) in
    let (inside, place) = h.placed r c e (omega arith) in
    let low : r ≤ 63 = omega (arith, row_inside h.rows r c e, h.few_rows) in
    let long : suc w ≤ 65 = omega (arith, h.few_letters) in
    omega (arith, rw f at place, mul-le-mul low long, h.few_letters)
