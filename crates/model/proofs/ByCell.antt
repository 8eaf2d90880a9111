-- The tracks of a map are those of its cells in the order of their numbers. The places are gone through row by row: a cell has the next number, and a wall has no tracks and takes no
-- number, so that the tracks up to any place are those of the numbers before it; at the end these are all. Assumes nothing.
use Prim.Native.Nat.{ℕ, zero, suc, ◌<◌}
use mathlib.Core.Path.{◌≡◌, refl, sym, ap, ◌∙◌}
use mathlib.Core.List.{List, [], ◌++◌, append_assoc, append-nil}
use mathlib.Core.Bool.{Bool, true, false}
use lib.ListN.{length, get_or}
use Rattle.model.specs.Lists.{each_below}
use Rattle.model.specs.Job.{Track}
use Rattle.model.specs.GridMap.{cell_at, map_cells, cell_number, tracks_at, tracks_of}
use Rattle.model.proofs.Decide.{dec-lt}
use Rattle.model.proofs.Numbering.{number_cell, number_wall, number_row, number_end, number_below, number_once, number_some}

-- The tracks of the cell with a number, if there is one.
abbrev pub tracks_by : (m : List (List ℕ)) (n : ℕ) → Dec (n < map_cells m) → List Track
tracks_by m n (yes h) = let s = number_some m n h in tracks_at m s.0 s.1
tracks_by m n (no _) = []

abbrev pub cell_tracks : List (List ℕ) → ℕ → List Track
cell_tracks m n = tracks_by m n (dec-lt n (map_cells m))

module _ (m : List (List ℕ)) where
  pub cell-tracks : (r c : ℕ) → cell_at m r c ≡ true → cell_tracks m (cell_number m r c) ≡ tracks_at m r c
  cell-tracks r c e = go (dec-lt (cell_number m r c) (map_cells m))
    where
      go : (d : Dec (cell_number m r c < map_cells m)) → tracks_by m (cell_number m r c) d ≡ tracks_at m r c
      go (yes h) =
          let s = number_some m (cell_number m r c) h in
          let o = number_once m s.0 s.1 r c s.2 e s.3 in
          ap (λ x. tracks_at m x s.1) o.0 ∙ ap (tracks_at m r) o.1
      go (no h) = absurd (h (number_below m r c e))

  -- the tracks of a row
  abbrev row_tracks : ℕ → List Track
  row_tracks r = each_below (length (get_or m r [])) (λ c. tracks_at m r c)

  along : (r c : ℕ) → each_below (cell_number m r 0) (cell_tracks m) ++ each_below c (tracks_at m r) ≡ each_below (cell_number m r c) (cell_tracks m)
  along r zero = append-nil _
  along r (suc c) = go (cell_at m r c) refl (along r c)
    where
      go : (t : Bool) → cell_at m r c ≡ t → each_below (cell_number m r 0) (cell_tracks m) ++ each_below c (tracks_at m r) ≡ each_below (cell_number m r c) (cell_tracks m)
          → each_below (cell_number m r 0) (cell_tracks m) ++ (each_below c (tracks_at m r) ++ tracks_at m r c) ≡ each_below (cell_number m r (suc c)) (cell_tracks m)
      go true e h =
          sym (append_assoc (each_below (cell_number m r 0) (cell_tracks m)) (each_below c (tracks_at m r)) (tracks_at m r c))
          ∙ ap (λ l. l ++ tracks_at m r c) h
          ∙ ap (λ l. each_below (cell_number m r c) (cell_tracks m) ++ l) (sym (cell-tracks r c e))
          ∙ ap (λ n. each_below n (cell_tracks m)) (sym (number_cell m r c e))
      go false e h = rw (e, append-nil) (h ∙ ap (λ n. each_below n (cell_tracks m)) (sym (number_wall m r c e)))

  down : (r : ℕ) → each_below r row_tracks ≡ each_below (cell_number m r 0) (cell_tracks m)
  down zero = refl
  down (suc r) =
      let w = length (get_or m r []) in
      ap (λ l. l ++ row_tracks r) (down r) ∙ along r w ∙ ap (λ n. each_below n (cell_tracks m)) (sym (number_row m r w refl))

  pub by_cell : tracks_of m ≡ each_below (map_cells m) (cell_tracks m)
  by_cell = down (length m) ∙ ap (λ n. each_below n (cell_tracks m)) (number_end m)
