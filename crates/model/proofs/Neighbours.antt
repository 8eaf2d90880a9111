-- Two cells of a map are joined exactly if they are next to each other in a row or a column: each track leads from a cell to the one right of it or to the one below it, each two cells
-- that stand so have their track, and a cell is known by its number. Assumes nothing.
use Prim.Native.Nat.{ℕ, zero, suc, ◌<◌}
use mathlib.Core.Path.{◌≡◌, refl, sym, ap}
use mathlib.Core.List.{List, [], ◌++◌, ◌∷◌}
use mathlib.Core.Logic.{◌⊎◌, inl, inr, ⊎_elim}
use mathlib.Core.Bool.{Bool, true, false, cond}
use native.Mathlib.Omega.{arith}
use lib.ListN.{length, get_or}
use Rattle.model.specs.Lists.{In, each_below}
use Rattle.model.specs.Job.{Track, track}
use Rattle.model.specs.Walk.{Arc}
use Rattle.model.specs.GridMap.{is_cell, cell_at, cell_number, track_to, tracks_at, tracks_of, floor_job, NextTo}
use Rattle.model.proofs.Basics.{nope}
use Rattle.model.proofs.Lists.{in_left, in_right, in_part}
use Rattle.model.proofs.Numbering.{number_once, each_in, in_each}

-- The second place is right of the first, or below it.
abbrev pub RightOrBelow : ℕ → ℕ → ℕ → ℕ → Type 0
RightOrBelow r c r' c' = ((r' ≡ r) × (c' ≡ suc c)) ⊎ ((r' ≡ suc r) × (c' ≡ c))

onward : {r c r' c' : ℕ} → NextTo r c r' c' → RightOrBelow r c r' c' ⊎ RightOrBelow r' c' r c
onward (inl (e, inl f)) = inl (inl (sym e, f))
onward (inl (e, inr f)) = inr (inl (e, f))
onward (inr (e, inl f)) = inl (inr (f, sym e))
onward (inr (e, inr f)) = inr (inr (f, e))

next_on : {r c r' c' : ℕ} → RightOrBelow r c r' c' → NextTo r c r' c'
next_on (inl (e, f)) = inl (sym e, inl f)
next_on (inr (e, f)) = inr (sym f, inl e)

next_back : {r c r' c' : ℕ} → RightOrBelow r' c' r c → NextTo r c r' c'
next_back (inl (e, f)) = inl (e, inr f)
next_back (inr (e, f)) = inr (f, inr e)

-- A cell stands inside the edges.
pub column_inside : (l : List ℕ) (c : ℕ) → is_cell (get_or l c 0) ≡ true → c < length l
column_inside [] c e = nope (cc)
column_inside (b ∷ l) zero e = omega arith
column_inside (b ∷ l) (suc c) e = omega (arith, column_inside l c e)

pub row_inside : (m : List (List ℕ)) (r c : ℕ) → cell_at m r c ≡ true → r < length m
row_inside [] r c e = nope (cc)
row_inside (l ∷ m) zero c e = omega arith
row_inside (l ∷ m) (suc r) c e = omega (arith, row_inside m r c e)

module _ (m : List (List ℕ)) where
  -- A track from the cell in row r and column c.
  pub record Leaves (r c : ℕ) (t : Track) : Type 0 where
    pub here : cell_at m r c ≡ true
    pub row : ℕ
    pub column : ℕ
    pub there : cell_at m row column ≡ true
    pub ends : t ≡ track (cell_number m r c) (cell_number m row column)
    pub onward : RightOrBelow r c row column

  pub track-to : (r c r' c' : ℕ) (t : Track) → In t (track_to m r c r' c') → (cell_at m r' c' ≡ true) × (t ≡ track (cell_number m r c) (cell_number m r' c'))
  track-to r c r' c' t = go (cell_at m r' c')
    where
      go : (b : Bool) → In t (cond b (track (cell_number m r c) (cell_number m r' c') ∷ []) []) → (b ≡ true) × (t ≡ track (cell_number m r c) (cell_number m r' c'))
      go true (inl e) = (refl, e)
      go true (inr h) = absurd h
      go false h = absurd h

  pub track_leaves : (r c : ℕ) (t : Track) → In t (tracks_at m r c) → Leaves r c t
  track_leaves r c t = go (cell_at m r c) refl
    where
      to : (r' c' : ℕ) → cell_at m r c ≡ true → RightOrBelow r c r' c' → In t (track_to m r c r' c') → Leaves r c t
      to r' c' e o h = let (f, g) = track-to r c r' c' t h in record { here = e; row = r'; column = c'; there = f; ends = g; onward = o }

      go : (b : Bool) → cell_at m r c ≡ b → In t (cond b (track_to m r c r (suc c) ++ track_to m r c (suc r) c) []) → Leaves r c t
      go true e h = ⊎_elim (to r (suc c) e (inl (refl, refl))) (to (suc r) c e (inr (refl, refl))) (in_part t (track_to m r c r (suc c)) (track_to m r c (suc r) c) h)
      go false e h = absurd h

  pub track_cells : (t : Track) → In t (tracks_of m) → (r : ℕ) × (c : ℕ) × Leaves r c t
  track_cells t h =
      let (r, _, i) = each_in t (length m) (λ r. each_below (length (get_or m r [])) (λ c. tracks_at m r c)) h in
      let (c, _, k) = each_in t (length (get_or m r [])) (λ c. tracks_at m r c) i in
      (r, c, track_leaves r c t k)

  track_laid : (r c r' c' : ℕ) → cell_at m r c ≡ true → cell_at m r' c' ≡ true → RightOrBelow r c r' c' → In (track (cell_number m r c) (cell_number m r' c')) (tracks_of m)
  track_laid r c r' c' e f o =
      let t = track (cell_number m r c) (cell_number m r' c') in
      in_each t (length m) (λ r. each_below (length (get_or m r [])) (λ c. tracks_at m r c)) r (row_inside m r c e)
      (in_each t (length (get_or m r [])) (λ c. tracks_at m r c) c (column_inside (get_or m r []) c e) (rw e (go o)))
    where
      to : In (track (cell_number m r c) (cell_number m r' c')) (track_to m r c r' c')
      to = rw f (inl refl)

      go : RightOrBelow r c r' c' → In (track (cell_number m r c) (cell_number m r' c')) (track_to m r c r (suc c) ++ track_to m r c (suc r) c)
      go (inl (p, q)) = rw (p, q) (in_left _ (track_to m r c r (suc c)) (track_to m r c (suc r) c) (rw (p, q) at to))
      go (inr (p, q)) = rw (p, q) (in_right _ (track_to m r c r (suc c)) (track_to m r c (suc r) c) (rw (p, q) at to))

  track_onward : (r c r' c' : ℕ) → cell_at m r c ≡ true → cell_at m r' c' ≡ true → In (track (cell_number m r c) (cell_number m r' c')) (tracks_of m) → RightOrBelow r c r' c'
  track_onward r c r' c' e f h =
      let (x, y, k) = track_cells (track (cell_number m r c) (cell_number m r' c')) h in
      let (p, q) = number_once m r c x y e k.here (ap (λ t. t.from) k.ends) in
      let (p', q') = number_once m r' c' k.row k.column f k.there (ap (λ t. t.to) k.ends) in
      ⊎_elim (λ g. inl (omega arith, omega arith)) (λ g. inr (omega arith, omega arith)) k.onward

  pub joined_next : (r c r' c' : ℕ) → cell_at m r c ≡ true → cell_at m r' c' ≡ true → Arc (floor_job m) (cell_number m r c) (cell_number m r' c') → NextTo r c r' c'
  joined_next r c r' c' e f (inl h) = next_on (track_onward r c r' c' e f h)
  joined_next r c r' c' e f (inr h) = next_back (track_onward r' c' r c f e h)

  pub next_joined : (r c r' c' : ℕ) → cell_at m r c ≡ true → cell_at m r' c' ≡ true → NextTo r c r' c' → Arc (floor_job m) (cell_number m r c) (cell_number m r' c')
  next_joined r c r' c' e f n = ⊎_elim (λ o. inl (track_laid r c r' c' e f o)) (λ o. inr (track_laid r' c' r c f e o)) (onward n)
