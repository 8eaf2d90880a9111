-- The numbers of a map's cells: a cell's number is one below that of the place to its right, a wall's is the same, a row goes on where the one above it ended, and the last number is
-- the count of the cells. So the numbers rise from cell to cell in the order of rows and columns, each below the count is one cell's, and a cell, with two tracks at most, stands for
-- two in the count of the tracks. Rows need not be of one length: past the edges there is no cell, and no number moves. Assumes nothing.
use Prim.Native.Nat.{ℕ, zero, suc, ◌+◌, ◌*◌, ◌-◌, ◌≤◌, ◌<◌}
use mathlib.Core.Path.{◌≡◌, refl, sym, ap, subst}
use mathlib.Core.List.{List, [], ◌∷◌, ◌++◌}
use mathlib.Core.Logic.{inl, inr, ⊎_elim}
use mathlib.Core.Bool.{Bool, true, false, cond}
use native.Mathlib.Omega.{arith}
use lib.ListN.{length, get_or, take, drop, length-append, take-append-drop}
use lib.Seq.{take-nil, take-take, take-length}
use Rattle.model.specs.Lists.{In, Lex, each_below}
use Rattle.model.specs.Job.{track}
use Rattle.model.specs.GridMap.{is_cell, cell_at, row_cells, map_cells, cell_number, track_to, tracks_at, tracks_of}
use Rattle.model.proofs.Lists.{in_left, in_right, in_part}
use Rattle.model.proofs.Decide.{dec-lt}
use Rattle.model.proofs.Lex.{dec_lex, lex_else}

-- Cells of two parts.
pub cells_append : (l k : List ℕ) → row_cells (l ++ k) ≡ row_cells l + row_cells k
cells_append [] k = omega arith
cells_append (b ∷ l) k = go (is_cell b) (cells_append l k)
  where
    go : (t : Bool) → row_cells (l ++ k) ≡ row_cells l + row_cells k → cond t (suc (row_cells (l ++ k))) (row_cells (l ++ k)) ≡ cond t (suc (row_cells l)) (row_cells l) + row_cells k
    go true e = omega arith
    go false e = e

pub rows_append : (l k : List (List ℕ)) → map_cells (l ++ k) ≡ map_cells l + map_cells k
rows_append [] k = omega arith
rows_append (b ∷ l) k = omega (arith, rows_append l k)

row_part : (l : List ℕ) (c : ℕ) → row_cells (take c l) ≤ row_cells l
row_part l c = omega (arith, cells_append (take c l) (drop c l), ap row_cells (take-append-drop c l))

map_part : (m : List (List ℕ)) (r : ℕ) → map_cells (take r m) ≤ map_cells m
map_part m r = omega (arith, rows_append (take r m) (drop r m), ap map_cells (take-append-drop r m))

-- One place further, one row further.
pub row_next : (l : List ℕ) (c : ℕ) → row_cells (take (suc c) l) ≡ cond (is_cell (get_or l c 0)) (suc (row_cells (take c l))) (row_cells (take c l))
row_next [] c = rw (take-nil {A = ℕ} c)
row_next (b ∷ l) zero = refl
row_next (b ∷ l) (suc c) = go (is_cell b) (is_cell (get_or l c 0)) (row_next l c)
  where
    go : (t u : Bool) → row_cells (take (suc c) l) ≡ cond u (suc (row_cells (take c l))) (row_cells (take c l))
        → cond t (suc (row_cells (take (suc c) l))) (row_cells (take (suc c) l))
        ≡ cond u (suc (cond t (suc (row_cells (take c l))) (row_cells (take c l)))) (cond t (suc (row_cells (take c l))) (row_cells (take c l)))
    go true true e = ap suc e
    go true false e = ap suc e
    go false true e = e
    go false false e = e

map_next : (m : List (List ℕ)) (r : ℕ) → map_cells (take (suc r) m) ≡ map_cells (take r m) + row_cells (get_or m r [])
map_next [] r = rw (take-nil {A = List ℕ} r)
map_next (l ∷ m) zero = omega arith
map_next (l ∷ m) (suc r) = omega (arith, map_next m r)

pub number_cell : (m : List (List ℕ)) (r c : ℕ) → cell_at m r c ≡ true → cell_number m r (suc c) ≡ suc (cell_number m r c)
number_cell m r c e = rw (row_next (get_or m r []) c, e) (omega arith)

pub number_wall : (m : List (List ℕ)) (r c : ℕ) → cell_at m r c ≡ false → cell_number m r (suc c) ≡ cell_number m r c
number_wall m r c e = rw (row_next (get_or m r []) c, e)

pub number_row : (m : List (List ℕ)) (r w : ℕ) → length (get_or m r []) ≡ w → cell_number m (suc r) 0 ≡ cell_number m r w
number_row m r w e = rw (sym e, take-length) (omega (arith, map_next m r))

pub number_end : (m : List (List ℕ)) → cell_number m (length m) 0 ≡ map_cells m
number_end m = rw take-length (omega arith)

-- The numbers rise, so that no two cells have one.
row_done : (m : List (List ℕ)) (r c : ℕ) → cell_number m r c ≤ map_cells (take (suc r) m)
row_done m r c = omega (arith, map_next m r, row_part (get_or m r []) c)

pub number_below : (m : List (List ℕ)) (r c : ℕ) → cell_at m r c ≡ true → cell_number m r c < map_cells m
number_below m r c e = omega (arith, number_cell m r c e, row_done m r (suc c), map_part m (suc r))

pub number_rises : (m : List (List ℕ)) (r c r' c' : ℕ) → cell_at m r c ≡ true → Lex r c r' c' → cell_number m r c < cell_number m r' c'
number_rises m r c r' c' e (inl h) =
    omega (arith, number_cell m r c e, row_done m r (suc c), rw (take-take (suc r) r' m h) at (map_part (take r' m) (suc r)))
number_rises m r c r' c' e (inr (f, h)) =
    let l = get_or m r [] in
    rw (sym f) (omega (arith, number_cell m r c e, rw (take-take (suc c) c' l h) at (row_part (take c' l) (suc c))))

pub number_once : (m : List (List ℕ)) (r c r' c' : ℕ) → cell_at m r c ≡ true → cell_at m r' c' ≡ true → cell_number m r c ≡ cell_number m r' c' → (r ≡ r') × (c ≡ c')
number_once m r c r' c' e f h = go (dec_lex r c r' c')
  where
    go : Dec (Lex r c r' c') → (r ≡ r') × (c ≡ c')
    go (yes l) = absurd (omega (arith, number_rises m r c r' c' e l))
    go (no n) = ⊎_elim (λ l. absurd (omega (arith, number_rises m r' c' r c f l))) (λ p. p) (lex_else r c r' c' n)

-- Each number below the count is a cell's.
row_some : (l : List ℕ) (n : ℕ) → n < row_cells l → (c : ℕ) × (is_cell (get_or l c 0) ≡ true) × (row_cells (take c l) ≡ n)
row_some [] n h = absurd (omega arith)
row_some (b ∷ l) n h = go (is_cell b) refl n h (row_some l)
  where
    later : (t : Bool) → is_cell b ≡ t → (k : ℕ) → (c : ℕ) × (is_cell (get_or l c 0) ≡ true) × (row_cells (take c l) ≡ k)
        → (c : ℕ) × (is_cell (get_or (b ∷ l) c 0) ≡ true) × (row_cells (take c (b ∷ l)) ≡ cond t (suc k) k)
    later t e k (c, f, g) = (suc c, f, rw (e, g))

    go : (t : Bool) → is_cell b ≡ t → (n : ℕ) → n < cond t (suc (row_cells l)) (row_cells l)
        → ((k : ℕ) → k < row_cells l → (c : ℕ) × (is_cell (get_or l c 0) ≡ true) × (row_cells (take c l) ≡ k))
        → (c : ℕ) × (is_cell (get_or (b ∷ l) c 0) ≡ true) × (row_cells (take c (b ∷ l)) ≡ n)
    go true e zero h _ = (0, e, refl)
    go true e (suc k) h ih = later true e k (ih k (omega arith))
    go false e n h ih = later false e n (ih n h)

pub number_some : (m : List (List ℕ)) (n : ℕ) → n < map_cells m → (r : ℕ) × (c : ℕ) × (cell_at m r c ≡ true) × (cell_number m r c ≡ n)
number_some [] n h = absurd (omega arith)
number_some (l ∷ m) n h = go (dec-lt n (row_cells l)) (number_some m (n - row_cells l))
  where
    go : Dec (n < row_cells l) → (n - row_cells l < map_cells m → (r : ℕ) × (c : ℕ) × (cell_at m r c ≡ true) × (cell_number m r c ≡ n - row_cells l))
        → (r : ℕ) × (c : ℕ) × (cell_at (l ∷ m) r c ≡ true) × (cell_number (l ∷ m) r c ≡ n)
    go (yes k) _ = let (c, e, f) = row_some l n k in (0, c, e, omega arith)
    go (no k) ih = let (r, c, e, f) = ih (omega arith) in (suc r, c, e, omega arith)

-- Members of what f gives below n.
module _ {A : Type 0} (a : A) where
  pub each_in : (n : ℕ) (f : ℕ → List A) → In a (each_below n f) → (k : ℕ) × (k < n) × In a (f k)
  each_in zero f h = absurd h
  each_in (suc n) f h = ⊎_elim (λ i. let (k, l, j) = each_in n f i in (k, omega arith, j)) (λ i. (n, omega arith, i)) (in_part a (each_below n f) (f n) h)

  pub in_each : (n : ℕ) (f : ℕ → List A) (k : ℕ) → k < n → In a (f k) → In a (each_below n f)
  in_each zero f k l h = absurd (omega arith)
  in_each (suc n) f k l h = go (dec-lt k n) (in_each n f k)
    where
      go : Dec (k < n) → (k < n → In a (f k) → In a (each_below n f)) → In a (each_below n f ++ f n)
      go (yes i) ih = in_left a (each_below n f) (f n) (ih i h)
      go (no i) _ = let e : k ≡ n = omega arith in in_right a (each_below n f) (f n) (subst (λ x. In a (f x)) e h)

-- A cell has two tracks at most.
track_to_few : (m : List (List ℕ)) (r c r' c' : ℕ) → length (track_to m r c r' c') ≤ 1
track_to_few m r c r' c' = go (cell_at m r' c')
  where
    go : (t : Bool) → length (cond t (track (cell_number m r c) (cell_number m r' c') ∷ []) []) ≤ 1
    go true = omega arith
    go false = omega arith

pub tracks_at_few : (m : List (List ℕ)) (r c : ℕ) → length (tracks_at m r c) ≤ 2
tracks_at_few m r c = go (cell_at m r c)
  where
    go : (t : Bool) → length (cond t (track_to m r c r (suc c) ++ track_to m r c (suc r) c) []) ≤ 2
    go true = omega (arith, length-append (track_to m r c r (suc c)) (track_to m r c (suc r) c), track_to_few m r c r (suc c), track_to_few m r c (suc r) c)
    go false = omega arith

pub tracks_at_none : (m : List (List ℕ)) (r c : ℕ) → cell_at m r c ≡ false → length (tracks_at m r c) ≡ 0
tracks_at_none m r c e = rw e

pub row_tracks_few : (m : List (List ℕ)) (r c : ℕ) → length (each_below c (tracks_at m r)) + 2 * cell_number m r 0 ≤ 2 * cell_number m r c
row_tracks_few m r zero = omega arith
row_tracks_few m r (suc c) = go (cell_at m r c) refl (row_tracks_few m r c)
  where
    go : (t : Bool) → cell_at m r c ≡ t → length (each_below c (tracks_at m r)) + 2 * cell_number m r 0 ≤ 2 * cell_number m r c
        → length (each_below c (tracks_at m r) ++ tracks_at m r c) + 2 * cell_number m r 0 ≤ 2 * cell_number m r (suc c)
    go true e h = omega (arith, length-append (each_below c (tracks_at m r)) (tracks_at m r c), tracks_at_few m r c, number_cell m r c e)
    go false e h = omega (arith, length-append (each_below c (tracks_at m r)) (tracks_at m r c), tracks_at_none m r c e, number_wall m r c e)

pub map_tracks_few : (m : List (List ℕ)) (r : ℕ) → length (each_below r (λ r. each_below (length (get_or m r [])) (λ c. tracks_at m r c))) ≤ 2 * cell_number m r 0
map_tracks_few m zero = omega arith
map_tracks_few m (suc r) =
    let w = length (get_or m r []) in
    omega (
      arith,
      length-append (each_below r (λ r. each_below (length (get_or m r [])) (λ c. tracks_at m r c))) (each_below w (λ c. tracks_at m r c)),
      row_tracks_few m r w,
      number_row m r w refl,
      map_tracks_few m r,
    )

pub tracks_few : (m : List (List ℕ)) → length (tracks_of m) ≤ 2 * map_cells m
tracks_few m = omega (arith, map_tracks_few m (length m), number_end m)
