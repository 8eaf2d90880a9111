-- The points of a step stand together, between two cursors: from the first whose step is not smaller to the first whose step is larger. Their cells are taken out of a table one after
-- the other. Assumes nothing.
use Prim.Native.Nat.{ℕ, ◌+◌, ◌-◌, ◌≤◌, ◌<◌}
use mathlib.Core.Path.{◌≡◌, refl, sym, ◌∙◌, ap}
use mathlib.Core.List.{List, [], ◌∷◌, ◌++◌}
use mathlib.Core.Logic.{⊎_elim, ◌⊎◌, ◌↔◌, inl, inr}
use native.Mathlib.Omega.{arith}
use native.Mathlib.Nat.{eq-or-lt_of_le}
use lib.ListN.{length, get_or, set, drop, length-set, length-drop}
use Rattle.std.specs.Prelude.{slice_range}
use Rattle.std.proofs.Math.ListN.{get_or-map}
use Rattle.std.proofs.lemmas.List.{length-take, get_or-take, get_or-drop}
use Rattle.model.specs.Lists.{In}
use Rattle.model.proofs.Lists.{in_get_or, in_place, in_map, in_unmap, in_left, in_right, in_part}
use Rattle.job.proofs.Lists.{map_more}
use Rattle.floor.proofs.TableLaws.{AfterSet, new, old, after_set}
use Rattle.chokejudge.specs.declared.layer.Point.{Point}
use Rattle.chokejudge.specs.ChokeLayers.{Choked}
use Rattle.chokejudge.specs.Grown.{Cleared}
use Rattle.chokejudge.specs.Points.{cells_of, no_point, Climbs, Cursor}
use Rattle.chokejudge.proofs.Numbers.{below_or}

-- The members of a part of a list, by their places.
module _ {A : Type 0} (l : List A) (d : A) (a b : ℕ) where
  slice_size : length (slice_range l a b) ≤ length l - a
  slice_size = omega (arith, length-take (b - a) (drop a l), length-drop a l)

  at : (k : ℕ) → k < b - a → get_or (slice_range l a b) k d ≡ get_or l (a + k) d
  at k h = get_or-take (b - a) (drop a l) k d h ∙ get_or-drop a l k d

  pub slice_at : (k : ℕ) → k < length (slice_range l a b) → (a + k < length l) × (get_or (slice_range l a b) k d ≡ get_or l (a + k) d)
  slice_at k h = (omega (arith, slice_size), at k (omega (arith, length-take (b - a) (drop a l))))

  pub in_slice : (x : A) → In x (slice_range l a b) ↔ ((k : ℕ) × (a ≤ k) × (k < b) × (k < length l) × (x ≡ get_or l k d))
  in_slice x = (there, back)
    where
      there : In x (slice_range l a b) → (k : ℕ) × (a ≤ k) × (k < b) × (k < length l) × (x ≡ get_or l k d)
      there m =
          let (k, h, e) = in_place x (slice_range l a b) d m in
          let (small, f) = slice_at k h in
          (a + k, omega arith, omega (arith, length-take (b - a) (drop a l)), small, e ∙ f)

      back : (k : ℕ) × (a ≤ k) × (k < b) × (k < length l) × (x ≡ get_or l k d) → In x (slice_range l a b)
      back (k, lo, hi, h, e) =
          let f : a + (k - a) ≡ k = omega arith in
          let g : x ≡ get_or (slice_range l a b) (k - a) d = e ∙ sym (at (k - a) (omega arith) ∙ ap (λ i. get_or l i d) f) in
          rw g (in_get_or (slice_range l a b) (k - a) d (omega (arith, length-take (b - a) (drop a l), length-drop a l)))

module _ (points : List Point) where
  pub cell_at : (k : ℕ) → get_or (cells_of points) k 0 ≡ (get_or points k no_point).cell
  cell_at k = get_or-map (λ (p : Point). p.cell) points k no_point

  pub cell_in : (k : ℕ) → k < length points → In (get_or points k no_point).cell (cells_of points)
  cell_in k h = in_map (λ (p : Point). p.cell) (get_or points k no_point) points (in_get_or points k no_point h)

  -- A part has cells of the whole.
  pub cell_part : (a b v : ℕ) → In v (cells_of (slice_range points a b)) → In v (cells_of points)
  cell_part a b v m =
      let (p, i, e) = in_unmap (λ (p : Point). p.cell) v (slice_range points a b) m in
      let (k, lo, hi, h, f) = (in_slice points no_point a b p).0 i in
      rw (sym e, f) (cell_in k h)

  -- A part with one point more.
  module _ (a b : ℕ) (l : a ≤ b) (h : b < length points) where
    abbrev last : ℕ
    last = (get_or points b no_point).cell

    abbrev part : List ℕ
    part = cells_of (slice_range points a b)

    grown : cells_of (slice_range points a (b + 1)) ≡ part ++ (last ∷ [])
    grown =
        let e : b + 1 - a ≡ b - a + 1 = omega arith in
        let f : a + (b - a) ≡ b = omega arith in
        rw (e, map_more (λ (p : Point). p.cell) (drop a points) (b - a) no_point (omega (arith, length-drop a points)), get_or-drop a points (b - a) no_point, f) refl

    pub part_more : (v : ℕ) → In v (cells_of (slice_range points a (b + 1))) ↔ (In v part ⊎ (v ≡ last))
    part_more v = (λ m. there (in_part v part (last ∷ []) (rw grown at m)), λ m. rw grown (back m))
      where
        there : In v part ⊎ In v (last ∷ []) → In v part ⊎ (v ≡ last)
        there (inl m) = inl m
        there (inr (inl e)) = inr e
        there (inr (inr n)) = absurd n

        back : In v part ⊎ (v ≡ last) → In v (part ++ (last ∷ []))
        back (inl m) = in_left v part (last ∷ []) m
        back (inr e) = in_right v part (last ∷ []) (inl e)

  pub cursor_first : Cursor points 0 0
  cursor_first = record { few = omega arith; before = λ k h. absurd (omega arith); after = λ k h g. omega arith }

  module _ (t a : ℕ) (c : Cursor points t a) where
    -- where a point is not of step t, those from it on are of later steps
    pub later : Climbs points → (i : ℕ) → a ≤ i → ((get_or points i no_point).step ≡ t → ⊥) → (k : ℕ) → i ≤ k → k < length points → t < (get_or points k no_point).step
    later up i h out k l g =
        ⊎_elim (λ e. absurd (out (sym e))) (λ m. omega (arith, up i k l g)) (eq-or-lt_of_le {n = t} {m = (get_or points i no_point).step} (c.after i h (omega arith)))

    pub cursor_end : (i : ℕ) → i ≤ length points → ((k : ℕ) → a ≤ k → k < i → (get_or points k no_point).step ≡ t)
        → ((k : ℕ) → i ≤ k → k < length points → t < (get_or points k no_point).step) → Cursor points (t + 1) i
    cursor_end i h same later = record { few = h; before = before; after = λ k l g. omega (arith, later k l g) }
      where
        before : (k : ℕ) → k < i → (get_or points k no_point).step < t + 1
        before k l = ⊎_elim (λ m. omega (arith, c.before k m)) (λ m. omega (arith, same k m l)) (below_or k a)

    pub points_of : (b : ℕ) → Cursor points (t + 1) b → (v : ℕ) → In v (cells_of (slice_range points a b)) ↔ Choked points t v
    points_of b d v = (there, back)
      where
        there : In v (cells_of (slice_range points a b)) → Choked points t v
        there m =
            let (p, i, e) = in_unmap (λ (p : Point). p.cell) v (slice_range points a b) m in
            let (k, lo, hi, h, f) = (in_slice points no_point a b p).0 i in
            let step : t ≡ (get_or points k no_point).step = omega (arith, c.after k lo h, d.before k hi) in
            let cell : v ≡ (get_or points k no_point).cell = sym e ∙ ap (λ (p : Point). p.cell) f in
            let same : ◌≡◌ {A = Point} (record { step = t; cell = v }) (get_or points k no_point) = λ i. record { step = step i; cell = cell i } in
            rw same (in_get_or points k no_point h)

        back : Choked points t v → In v (cells_of (slice_range points a b))
        back i =
            let (k, h, e) = in_place (record { step = t; cell = v }) points no_point i in
            let step : t ≡ (get_or points k no_point).step = ap (λ (p : Point). p.step) e in
            let lo : a ≤ k = ⊎_elim (λ m. absurd (omega (arith, c.before k m))) (λ m. m) (below_or k a) in
            let hi : k < b = ⊎_elim (λ m. m) (λ m. absurd (omega (arith, d.after k m h))) (below_or k b) in
            in_map (λ (p : Point). p.cell) (record { step = t; cell = v }) (slice_range points a b) ((in_slice points no_point a b _).1 (k, lo, hi, h, e))

pub cleared_as : {P Q : ℕ → Type 0} {l₀ l : List ℕ} → ((v : ℕ) → P v ↔ Q v) → Cleared P l₀ l → Cleared Q l₀ l
cleared_as e r = record { size = r.size; gone = λ v q. r.gone v ((e v).1 q); each = λ v. ⊎_elim (λ z. inl z) (λ p. inr ((e v).0 p)) (r.each v) }

pub cleared_more : {P : ℕ → Type 0} {l₀ l : List ℕ} (c : ℕ) → c < length l → Cleared P l₀ l → Cleared (λ v. P v ⊎ (v ≡ c)) l₀ (set l c 0)
cleared_more {P} {l₀} {l} c h r = record {
  size = length-set l c 0 ∙ r.size;
  gone = λ v p. gone v (after_set l c 0 v h) p;
  each = λ v. each v (after_set l c 0 v h);
}
  where
    gone : (v : ℕ) → AfterSet l c 0 v → P v ⊎ (v ≡ c) → get_or (set l c 0) v 0 ≡ 0
    gone v (new e d) p = d
    gone v (old e d) (inl p) = d ∙ r.gone v p
    gone v (old e d) (inr p) = absurd (e p)

    each : (v : ℕ) → AfterSet l c 0 v → (get_or (set l c 0) v 0 ≡ get_or l₀ v 0) ⊎ (P v ⊎ (v ≡ c))
    each v (new e d) = inr (inr e)
    each v (old e d) = ⊎_elim (λ z. inl (d ∙ z)) (λ p. inr (inl p)) (r.each v)

-- While the points of step t from place a on are taken out: those before place b were.
pub record Taken (points : List Point) (t a b : ℕ) (l₀ l : List ℕ) : Type 0 where
  pub alike : (k : ℕ) → a ≤ k → k < b → (get_or points k no_point).step ≡ t
  pub cells : Cleared (λ v. In v (cells_of (slice_range points a b))) l₀ l

module _ (points : List Point) (t a : ℕ) where
  module _ {b : ℕ} {l₀ l : List ℕ} (r : Taken points t a b l₀ l) where
    pub taken_more : a ≤ b → b < length points → (get_or points b no_point).step ≡ t → (get_or points b no_point).cell < length l
        → Taken points t a (b + 1) l₀ (set l (get_or points b no_point).cell 0)
    taken_more h g e small = record {
      alike = λ k lo hi. ⊎_elim (λ z. rw z e) (λ m. r.alike k lo m) (eq-or-lt_of_le {n = k} {m = b} (omega arith));
      cells = cleared_as (λ v. let same = part_more points a b h g v in (same.1, same.0)) (cleared_more (get_or points b no_point).cell small r.cells);
    }

    module _ (c : Cursor points t a) (h : b ≤ length points) (later : (k : ℕ) → b ≤ k → k < length points → t < (get_or points k no_point).step) where
      pub taken_next : Cursor points (t + 1) b
      taken_next = cursor_end points t a c b h r.alike later

      pub taken_all : Cleared (Choked points t) l₀ l
      taken_all = cleared_as (points_of points t a c b taken_next) r.cells
