-- The tracks of a map from the places of its cells. Places rise with the numbers of the cells, since both follow the rows and the columns, and a place is in one row and one column only.
-- So the cell to the right, if there is one, is the next, and the one below is the first whose place is not before a stride further: what stands there tells whether there is one.
-- Assumes nothing.
use Prim.Native.Nat.{ℕ, suc, ◌+◌, ◌*◌, ◌≤◌, ◌<◌}
use mathlib.Core.Path.{◌≡◌, refl, sym, ap, ◌∙◌}
use mathlib.Core.List.{List, [], ◌∷◌, ◌++◌, map}
use mathlib.Core.Logic.{inl, inr, ⊎_elim}
use mathlib.Core.Bool.{Bool, true, false, cond, ◌&&◌}
use native.Mathlib.Omega.{arith}
use native.Mathlib.Numerals.{add-one}
use native.Mathlib.Nat.{mul-le-mul_right}
use lib.Dec.{ltb, eqb}
use lib.ListN.{length, get_or}
use borrow.Author.Tests.{ltb-true, eqb-true, lt-ltb, eq-eqb}
use Rattle.std.specs.Prelude.{Option, Some, None}
use Rattle.model.specs.Limits.{max_cells}
use Rattle.model.specs.Lists.{Lex, each_below}
use Rattle.model.specs.Job.{track}
use Rattle.model.specs.GridMap.{cell_at, map_cells, cell_number, track_to}
use Rattle.model.proofs.Basics.{nope, and_left, and_right, and_both}
use Rattle.model.proofs.Lex.{dec_lex, lex_else}
use Rattle.model.proofs.Decide.{dec-lt}
use Rattle.model.proofs.Numbering.{number_cell, number_below, number_rises, number_some}
use Rattle.model.proofs.ByCell.{cell_tracks, cell-tracks, by_cell}
use Rattle.job.specs.declared.state.Track.{Track}
use Rattle.job.specs.Lists.{as_track}
use Rattle.gridmap.specs.CellPlaces.{CellsPlaced, PlaceReached, TracksNoted, TracksFound, track_if, track_by}

-- The order of places, and of rows and columns.
spot_rises : (s r c r' c' : ℕ) → c < s → Lex r c r' c' → r * s + c < r' * s + c'
spot_rises s r c r' c' h (inl l) = let k : suc r * s ≤ r' * s = mul-le-mul_right s l in omega arith
spot_rises s r c r' c' h (inr (e, l)) = rw e (omega arith)

spot_once : (s r c r' c' : ℕ) → c < s → c' < s → r * s + c ≡ r' * s + c' → (r ≡ r') × (c ≡ c')
spot_once s r c r' c' h h' e = go (dec_lex r c r' c')
  where
    go : Dec (Lex r c r' c') → (r ≡ r') × (c ≡ c')
    go (yes l) = absurd (omega (arith, spot_rises s r c r' c' h l))
    go (no n) = ⊎_elim (λ l. absurd (omega (arith, spot_rises s r' c' r c h' l))) (λ p. p) (lex_else r c r' c' n)

-- One place more is before p.
pub passed_more : (places : List ℕ) (j i p : ℕ) → ((k : ℕ) → j ≤ k → k < i → get_or places k 0 < p) → get_or places i 0 < p → (k : ℕ) → j ≤ k → k < i + 1 → get_or places k 0 < p
passed_more places j i p f h k l b = go (dec-lt k i)
  where
    go : Dec (k < i) → get_or places k 0 < p
    go (yes d) = f k l d
    go (no d) = let e : k ≡ i = omega arith in rw e h

-- The cells of a map with rows of w letters stand at these places.
pub record Stand (places : List ℕ) (cells stride : ℕ) (m : List (List ℕ)) (w : ℕ) : Type 0 where
  pub few : cells ≤ max_cells
  pub stride_is : stride ≡ suc w
  pub cells_is : cells ≡ map_cells m
  pub placed : CellsPlaced m w places

module _ {places : List ℕ} {cells stride : ℕ} {m : List (List ℕ)} {w : ℕ} (h : Stand places cells stride m w) where
  here : (r c n : ℕ) → cell_at m r c ≡ true → cell_number m r c ≡ n → (n < cells) × (suc c < stride) × (get_or places n 0 ≡ r * stride + c)
  here r c n e f =
      let b = number_below m r c e in
      let (x, y) = h.placed r c e (omega (arith, h.few, h.cells_is)) in
      (omega (arith, h.cells_is), omega (arith, h.stride_is), rw (h.stride_is, ← f) y)

  some : (n : ℕ) → n < cells → (r : ℕ) × (c : ℕ) × (cell_at m r c ≡ true) × (cell_number m r c ≡ n)
  some n l = number_some m n (omega (arith, h.cells_is))

  places_rise : (i k : ℕ) → i < k → k < cells → get_or places i 0 < get_or places k 0
  places_rise i k l b =
      let (r, c, e, f) = some i (omega arith) in
      let (r', c', e', f') = some k b in
      go r c r' c' e f e' f' (dec_lex r c r' c')
    where
      go : (r c r' c' : ℕ) → cell_at m r c ≡ true → cell_number m r c ≡ i → cell_at m r' c' ≡ true → cell_number m r' c' ≡ k → Dec (Lex r c r' c') → get_or places i 0 < get_or places k 0
      go r c r' c' e f e' f' (yes o) =
          let (_, x, y) = here r c i e f in
          let (_, _, y') = here r' c' k e' f' in
          rw (y, y') (spot_rises stride r c r' c' (omega arith) o)
      go r c r' c' e f e' f' (no n) = absurd (⊎_elim (λ o. omega (arith, number_rises m r' c' r c e' o)) same (lex_else r c r' c' n))
        where
          same : (r ≡ r') × (c ≡ c') → ⊥
          same (p, q) = let z : cell_number m r c ≡ cell_number m r' c' = rw (p, q) in omega arith

  -- what stands at a place is the cell there
  at_place : (n p q : ℕ) → n < cells → q < stride → get_or places n 0 ≡ p * stride + q → cell_at m p q ≡ true
  at_place n p q l i e =
      let (r, c, f, g) = some n l in
      let (_, x, y) = here r c n f g in
      let (a, b) = spot_once stride r c p q (omega arith) i (sym y ∙ e) in
      rw (← a, ← b) f

  stood : (n p q : ℕ) (t : Bool) → q < stride → (cell_at m p q ≡ true → cell_number m p q ≡ n) → t ≡ (ltb n cells && eqb (get_or places n 0) (p * stride + q)) → cell_at m p q ≡ t
  stood n p q t i f g = go t (cell_at m p q) g refl
    where
      go : (t u : Bool) → t ≡ (ltb n cells && eqb (get_or places n 0) (p * stride + q)) → cell_at m p q ≡ u → u ≡ t
      go true true a b = refl
      go false false a b = refl
      go true false a b =
          let x = and_left (ltb n cells) (eqb (get_or places n 0) (p * stride + q)) (sym a) in
          let y = and_right (ltb n cells) (eqb (get_or places n 0) (p * stride + q)) (sym a) in
          sym b ∙ at_place n p q (ltb-true n cells x) i (eqb-true (get_or places n 0) (p * stride + q) y)
      go false true a b =
          let (x, _, y) = here p q n b (f b) in
          sym (a ∙ and_both (ltb n cells) (eqb (get_or places n 0) (p * stride + q)) (lt-ltb n cells x) (eq-eqb (get_or places n 0) (p * stride + q) y))

  -- the track from cell k to cell n, if that stands in row p and column q
  track_stood : (r c k n p q : ℕ) (t : Bool) → cell_number m r c ≡ k → q < stride → (cell_at m p q ≡ true → cell_number m p q ≡ n)
      → t ≡ (ltb n cells && eqb (get_or places n 0) (p * stride + q)) → track_to m r c p q ≡ track_if t k n
  track_stood r c k n p q t e i f g = rw e (go t (cell_at m p q) (stood n p q t i f g) refl)
    where
      go : (t u : Bool) → u ≡ t → cell_at m p q ≡ u → cond u (track k (cell_number m p q) ∷ []) [] ≡ track_if t k n
      go true true a b = rw (f b)
      go false false a b = refl
      go true false a b = nope (cc)
      go false true a b = nope (cc)

  -- the cell below is the first whose place is not before its place
  below_is : (r c k j : ℕ) → cell_at m r c ≡ true → cell_number m r c ≡ k → ((i : ℕ) → i < j → get_or places i 0 < get_or places k 0 + stride)
      → (j < cells → get_or places k 0 + stride ≤ get_or places j 0) → cell_at m (suc r) c ≡ true → cell_number m (suc r) c ≡ j
  below_is r c k j e f before there g =
      let (_, _, y) = here r c k e f in
      let n = cell_number m (suc r) c in
      let (a, _, z) = here (suc r) c n g refl in
      let p : get_or places n 0 ≡ get_or places k 0 + stride = omega arith in
      go n a p (dec-lt n j) (dec-lt j n)
    where
      go : (n : ℕ) → n < cells → get_or places n 0 ≡ get_or places k 0 + stride → Dec (n < j) → Dec (j < n) → n ≡ j
      go n a p (yes l) _ = absurd (omega (arith, before n l))
      go n a p (no _) (yes l) = absurd (omega (arith, there (omega arith), places_rise j n l a))
      go n a p (no l) (no o) = omega arith

-- The tracks of the first k cells are found, and the places before j are before the place below cell k.
pub record Along (places : List ℕ) (cells stride : ℕ) (held : List Track) (k j : ℕ) : Type 0 where
  pub tracks : (m : List (List ℕ)) (w : ℕ) → Stand places cells stride m w → map as_track held ≡ each_below k (cell_tracks m)
  pub passed : (m : List (List ℕ)) (w : ℕ) → Stand places cells stride m w → k < cells → (i : ℕ) → i < j → get_or places i 0 < get_or places k 0 + stride

pub along_none : {places : List ℕ} {cells stride : ℕ} → Along places cells stride [] 0 0
along_none = record { tracks = λ m w h. refl; passed = λ m w h b i l. absurd (omega arith) }

pub along_done : {places : List ℕ} {stride : ℕ} {held : List Track} {k j : ℕ} → Along places (length places) stride held k j → k ≡ length places → length places ≤ max_cells
    → length held ≤ 2 * k → TracksFound places stride held
along_done a e few l = record {
  tracks = λ m w p q h.
      a.tracks m w (record { few = few; stride_is = p; cells_is = q; placed = h }) ∙ ap (λ n. each_below n (cell_tracks m)) (e ∙ q) ∙ sym (by_cell m);
  few = omega arith;
}

along_turn : {places : List ℕ} {cells stride : ℕ} {held : List Track} {k j : ℕ} → Along places cells stride held k j → k < cells
    → {beside : Bool} → beside ≡ (ltb (k + 1) cells && eqb (get_or places (k + 1) 0) (get_or places k 0 + 1))
    → {i : ℕ} → PlaceReached places j cells (get_or places k 0 + stride) i
    → {below : Bool} → below ≡ (ltb i cells && eqb (get_or places i 0) (get_or places k 0 + stride))
    → {held' : List Track} → TracksNoted 2 (track_if beside k (k + 1) ++ track_if below k i) held held' → Along places cells stride held' (k + 1) i
along_turn {places} {cells} {stride} {held} {k} {j} a b {beside} er {i} reached {below} eb {held'} noted =
    record {
      tracks = λ m w h. turn m w h (some h k b);
      passed = λ m w h l n o. omega (arith, before m w h n o, places_rise h k (k + 1) (omega arith) l);
    }
  where
    before : (m : List (List ℕ)) (w : ℕ) → Stand places cells stride m w → (n : ℕ) → n < i → get_or places n 0 < get_or places k 0 + stride
    before m w h n o = go (dec-lt n j)
      where
        go : Dec (n < j) → get_or places n 0 < get_or places k 0 + stride
        go (yes d) = a.passed m w h b n d
        go (no d) = reached.before n (omega arith) o

    turn : (m : List (List ℕ)) (w : ℕ) → Stand places cells stride m w → (r : ℕ) × (c : ℕ) × (cell_at m r c ≡ true) × (cell_number m r c ≡ k)
        → map as_track held' ≡ each_below (k + 1) (cell_tracks m)
    turn m w h (r, c, e, f) =
        let (_, x, y) = here h r c k e f in
        let p : get_or places k 0 + 1 ≡ r * stride + suc c = omega arith in
        let q : get_or places k 0 + stride ≡ suc r * stride + c = omega arith in
        let er' : beside ≡ (ltb (k + 1) cells && eqb (get_or places (k + 1) 0) (r * stride + suc c)) = rw (← p) er in
        let eb' : below ≡ (ltb i cells && eqb (get_or places i 0) (suc r * stride + c)) = rw (← q) eb in
        let u : track_to m r c r (suc c) ≡ track_if beside k (k + 1) = track_stood h r c k (k + 1) r (suc c) beside f x (λ g. number_cell m r c e ∙ omega arith) er' in
        let v : track_to m r c (suc r) c ≡ track_if below k i =
        track_stood h r c k i (suc r) c below f (omega arith) (below_is h r c k i e f (before m w h) reached.there) eb' in
        let here_tracks : cell_tracks m k ≡ track_if beside k (k + 1) ++ track_if below k i =
        ap (cell_tracks m) (sym f) ∙ cell-tracks m r c e ∙ rw (e, u, v) in
        noted.tracks ∙ rw (a.tracks m w h, ← here_tracks, add-one)

by_if : (t : Bool) (a b : ℕ) → track_by a (cond t (Some b) None) ≡ track_if t a b
by_if true a b = refl
by_if false a b = refl

-- The tracks of one cell more.
pub along_next : {places : List ℕ} {cells stride : ℕ} {held : List Track} {k j : ℕ} → Along places cells stride held k j → k < cells
    → {i : ℕ} → PlaceReached places j cells (get_or places k 0 + stride) i
    → {right below : Option ℕ} → right ≡ cond (ltb (k + 1) cells && eqb (get_or places (k + 1) 0) (get_or places k 0 + 1)) (Some (k + 1)) None
    → below ≡ cond (ltb i cells && eqb (get_or places i 0) (get_or places k 0 + stride)) (Some i) None
    → {held' : List Track} → TracksNoted 2 (track_by k right ++ track_by k below) held held' → Along places cells stride held' (k + 1) i
along_next {places} {cells} {stride} {held} {k} {j} a b {i} reached {right} {below} er eb {held'} noted =
    along_turn a b refl reached refl (rw (by_if _ k (k + 1), by_if _ k i) at (rw (er, eb) at noted))
