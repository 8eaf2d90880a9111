-- What each turn of the loops keeps, over plain lists and numbers. Assumes nothing.
use Prim.Native.Nat.{ℕ, zero, suc, ◌+◌, ◌*◌, ◌≤◌, ◌<◌}
use mathlib.Core.Path.{◌≡◌, refl, sym, ◌∙◌, ap}
use mathlib.Core.List.{List, [], ◌∷◌, ◌++◌}
use mathlib.Core.Logic.{inl, inr, ◌⊎◌, ⊎_elim}
use mathlib.Core.Bool.{true, false, false≢true}
use native.Mathlib.Omega.{arith}
use native.Mathlib.Numerals.{add-one}
use lib.ListN.{length, get_or, set, replicate, length-take}
use lib.Seq.{get_or-set_same, get_or-set_other, get_or-take}
use Rattle.std.specs.Prelude.{Option, None, Some, is_some}
use Rattle.model.specs.Limits.{max_cells}
use Rattle.model.specs.Lists.{In}
use Rattle.model.specs.Job.{Track, track}
use Rattle.model.specs.Walk.{At}
use Rattle.model.proofs.Decide.{dec_eq}
use Rattle.model.proofs.Decisions.{track_eq, track_parts}
use Rattle.model.proofs.Lists.{in_left, in_right, in_part}
use Rattle.job.specs.Bits.{bit_at, with_bit, pairs_below, pair_at}
use Rattle.job.specs.Held.{as_ride}
use Rattle.job.specs.declared.held.Ride.{Ride}
use Rattle.job.proofs.BitLaws.{bit_set, bit_other}
use Rattle.job.proofs.Triangle.{pair_small, pair_same}
use Rattle.planjudge.specs.declared.walks.Floor.{Floor}
use Rattle.planjudge.specs.PlanTests.{ride_at, walk_at, Marks, Allowed, Walks, Unshared, Trades, Standing}

-- Tracks.
pub marks_none : (table : List ℕ) → ((x : ℕ) → bit_at table x ≡ false) → Marks [] table
marks_none table z = record {
  all = λ u v a b w. absurd w;
  only = λ u v a b e. absurd (false≢true (sym (z (pair_at u v)) ∙ e));
}

module _ (tracks : List Track) (u v : ℕ) (table : List ℕ) (size : 8 * length table ≡ pairs_below max_cells) (a : u < max_cells) (b : v < max_cells) (m : Marks tracks table) where
  abbrev at : ℕ
  at = pair_at u v

  abbrev more : List Track
  more = tracks ++ (track u v ∷ [])

  inside : at < 8 * length table
  inside = rw size (pair_small u v a b)

  more_all : (x y : ℕ) → x < max_cells → y < max_cells → In (track x y) more → bit_at (with_bit table at) (pair_at x y) ≡ true
  more_all x y c d i = go (dec_eq (pair_at x y) at)
    where
      earlier : (pair_at x y ≡ at → ⊥) → In (track x y) tracks ⊎ In (track x y) (track u v ∷ []) → In (track x y) tracks
      earlier n (inl h) = h
      earlier n (inr (inl e)) = absurd (n (rw ((track_parts e).0, (track_parts e).1)))
      earlier n (inr (inr h)) = absurd h

      go : Dec (pair_at x y ≡ at) → bit_at (with_bit table at) (pair_at x y) ≡ true
      go (yes q) = rw q (bit_set table at inside)
      go (no n) = bit_other table at inside (pair_at x y) n ∙ m.all x y c d (earlier n (in_part (track x y) tracks (track u v ∷ []) i))

  more_only : (x y : ℕ) → x < max_cells → y < max_cells → bit_at (with_bit table at) (pair_at x y) ≡ true → In (track x y) more ⊎ In (track y x) more
  more_only x y c d e = go (dec_eq (pair_at x y) at)
    where
      last : (p q : ℕ) → p ≡ u → q ≡ v → In (track p q) more
      last p q f g = in_right (track p q) tracks (track u v ∷ []) (inl (track_eq (f, g)))

      go : Dec (pair_at x y ≡ at) → In (track x y) more ⊎ In (track y x) more
      go (yes q) = ⊎_elim (λ s. inl (last x y s.0 s.1)) (λ s. inr (last y x s.0 s.1)) (pair_same x y u v q)
      go (no n) =
          let old = m.only x y c d (sym (bit_other table at inside (pair_at x y) n) ∙ e) in
          ⊎_elim (λ h. inl (in_left (track x y) tracks (track u v ∷ []) h)) (λ h. inr (in_left (track y x) tracks (track u v ∷ []) h)) old

  pub marks_more : Marks more (with_bit table at)
  marks_more = record { all = more_all; only = more_only }

-- a table of nobody
pub nobody : (n c : ℕ) → get_or (replicate {A = Option ℕ} n None) c None ≡ None
nobody zero c = refl
nobody (suc n) zero = refl
nobody (suc n) (suc c) = nobody n c

at_next : (w : List ℕ) (t v : ℕ) → At w (t + 1) v → At w (suc t) v
at_next w t v h = rw add-one at h

-- A ride's cells, in its row.
module _ (r : Ride) where
  abbrev w : List ℕ
  w = (as_ride r).cells

  pub short : length w ≤ suc r.last
  short = simp length-take (omega arith)

  pub cell_at : (t : ℕ) → t ≤ r.last → get_or w t 0 ≡ get_or r.cells t 0
  cell_at t h = get_or-take (suc r.last) r.cells t 0 (omega arith)

  module _ (full : r.last < length r.cells) where
    pub long : length w ≡ suc r.last
    long = simp length-take (omega arith)

    pub on_floor : (t : ℕ) → t ≤ r.last → At w t (get_or r.cells t 0)
    on_floor t h = (omega (arith, long), cell_at t h)

    pub walks_of : (floor : Floor) (a : ℕ) → get_or r.cells 0 0 ≡ a → ((t : ℕ) → t < r.last → Allowed floor t (get_or r.cells t 0) (get_or r.cells (t + 1) 0)) → Walks floor a w
    walks_of floor a e f = record {
      starts = (omega (arith, long), cell_at 0 (omega arith) ∙ e);
      steps = λ t h.
          let l : t < r.last = omega (arith, long) in
          rw (cell_at t (omega arith), cell_at (suc t) l) (rw (add-one t) at (f t l));
    }

    pub walks_at : (floor : Floor) (a : ℕ) → Walks floor a w → (t : ℕ) → t < r.last → Allowed floor t (get_or r.cells t 0) (get_or r.cells (t + 1) 0)
    walks_at floor a k t h = rw (add-one t) (rw (cell_at t (omega arith), cell_at (suc t) h) at (k.steps t (omega (arith, long))))

    pub ends_of : (b : ℕ) → get_or r.cells r.last 0 ≡ b → (t : ℕ) → length w ≡ suc t → get_or w t 0 ≡ b
    ends_of b e t h =
        let f : t ≡ r.last = omega (arith, long) in
        rw f (cell_at r.last (omega arith) ∙ e)

-- Who is on which cell at a step.
module _ (rides : List Ride) (t : ℕ) where
  -- the cart of ride k has left the floor
  pub standing_left : (k : ℕ) (on : List (Option ℕ)) → (ride_at rides k).last < t → Standing rides k t on → Standing rides (k + 1) t on
  standing_left k on h s = record {
    there = λ m c l f. go m c f (dec_eq m k) l;
    back = λ m c e. let b = s.back m c e in (omega (arith, b.0), b.1);
  }
    where
      go : (m c : ℕ) → At (walk_at rides m) t c → Dec (m ≡ k) → m < k + 1 → get_or on c None ≡ Some m
      go m c f (yes e) l = let g = f.0 in absurd (omega (arith, short (ride_at rides m), ap (λ x. (ride_at rides x).last) e))
      go m c f (no n) l = s.there m c (omega arith) f

  -- the cart of ride k is put on a free cell
  module _ (k : ℕ) (on : List (Option ℕ)) (here : ℕ) (known : here < length on) (lives : At (walk_at rides k) t here) (free : get_or on here None ≡ None) (s : Standing rides k t on) where
    abbrev on' : List (Option ℕ)
    on' = set on here (Some k)

    put_there : (m c : ℕ) → m < k + 1 → At (walk_at rides m) t c → get_or on' c None ≡ Some m
    put_there m c l f = go (dec_eq m k)
      where
        go : Dec (m ≡ k) → get_or on' c None ≡ Some m
        go (yes e) =
            let f' = rw e at f in
            let g : c ≡ here = sym f'.1 ∙ lives.1 in
            rw (g, e) (get_or-set_same on here (Some k) None known)
        go (no n) =
            let e = s.there m c (omega arith) f in
            get_or-set_other on here c (Some k) None (λ q. let g = ap (λ x. get_or on x None) q in false≢true (cc)) ∙ e

    put_back : (m c : ℕ) → get_or on' c None ≡ Some m → (m < k + 1) × At (walk_at rides m) t c
    put_back m c e = go (dec_eq c here)
      where
        go : Dec (c ≡ here) → (m < k + 1) × At (walk_at rides m) t c
        go (yes q) =
            let f = get_or-set_same on here (Some k) None known in
            let g = ap (λ x. get_or on' x None) q in
            let h : k ≡ m = cc in
            rw (← h, q) (omega arith, lives)
        go (no n) =
            let b = s.back m c (sym (get_or-set_other on here c (Some k) None n) ∙ e) in
            (omega (arith, b.0), b.1)

    pub standing_more : Standing rides (k + 1) t on'
    standing_more = record { there = put_there; back = put_back }

  -- who stands on a cell still is one of the rides from k on
  abbrev pub LeftFrom : ℕ → List (Option ℕ) → Type 0
  LeftFrom k on = (m c : ℕ) → get_or on c None ≡ Some m → (k ≤ m) × (m < length rides) × At (walk_at rides m) t c

  pub left_none : (on : List (Option ℕ)) → Standing rides (length rides) t on → LeftFrom 0 on
  left_none on s m c e = let b = s.back m c e in (omega arith, b.0, b.1)

  -- the cart of ride k has left the floor
  pub left_past : (k : ℕ) (on : List (Option ℕ)) → (ride_at rides k).last < t → LeftFrom k on → LeftFrom (k + 1) on
  left_past k on h s m c e = let b = s m c e in go b (dec_eq m k)
    where
      go : (k ≤ m) × (m < length rides) × At (walk_at rides m) t c → Dec (m ≡ k) → (k + 1 ≤ m) × (m < length rides) × At (walk_at rides m) t c
      go b (yes q) = let g = b.2.0 in absurd (omega (arith, short (ride_at rides m), ap (λ x. (ride_at rides x).last) q))
      go b (no n) = (omega (arith, b.0), b.1, b.2)

  -- it is taken off its cell
  pub left_more : (k : ℕ) (on : List (Option ℕ)) (here : ℕ) → here < length on → At (walk_at rides k) t here → LeftFrom k on → LeftFrom (k + 1) (set on here None)
  left_more k on here known lives s m c e = go (dec_eq c here)
    where
      later : (c ≡ here → ⊥) → (k ≤ m) × (m < length rides) × At (walk_at rides m) t c → Dec (m ≡ k) → (k + 1 ≤ m) × (m < length rides) × At (walk_at rides m) t c
      later n b (yes q) = let f = rw q at b.2 in absurd (n (sym f.1 ∙ lives.1))
      later n b (no d) = (omega (arith, b.0), b.1, b.2)

      go : Dec (c ≡ here) → (k + 1 ≤ m) × (m < length rides) × At (walk_at rides m) t c
      go (yes q) =
          let f = get_or-set_same on here None None known in
          let g = ap (λ x. get_or (set on here None) x None) q in
          absurd (false≢true (cc))
      go (no n) = later n (s m c (sym (get_or-set_other on here c None None n) ∙ e)) (dec_eq m k)

  pub left_all : (on : List (Option ℕ)) → LeftFrom (length rides) on → (c : ℕ) → get_or on c None ≡ None
  left_all on s c = go (get_or on c None) (λ m e. e)
    where
      go : (o : Option ℕ) → ((m : ℕ) → o ≡ Some m → get_or on c None ≡ Some m) → o ≡ None
      go None f = refl
      go (Some m) f = let b = s m c (f m refl) in absurd (omega (arith, b.0, b.1))

  pub standing_unshared : (on : List (Option ℕ)) → Standing rides (length rides) t on → Unshared rides t
  standing_unshared on s k m a b (v, x, y) =
      let p = s.there k v a x in
      let q = s.there m v b y in
      cc

  -- the cell of ride k is taken by an earlier one's cart
  pub standing_taken : (k : ℕ) (on : List (Option ℕ)) (here : ℕ) → Standing rides k t on → k < length rides → At (walk_at rides k) t here
      → is_some (get_or on here None) ≡ true → Unshared rides t → ⊥
  standing_taken k on here s h l taken apart = go (get_or on here None) (λ m e. e) taken
    where
      go : (o : Option ℕ) → ((m : ℕ) → o ≡ Some m → get_or on here None ≡ Some m) → is_some o ≡ true → ⊥
      go None f e = false≢true e
      go (Some m) f e =
          let b = s.back m here (f m refl) in
          omega (arith, apart m k (omega (arith, b.0)) h (here, b.1, l))

  -- a cart at its last step goes nowhere
  pub no_move : (k : ℕ) → (ride_at rides k).last ≤ t → Trades rides t k → ⊥
  no_move k h (m, l, d, (u, v, a, b, x, y)) = let g = b.0 in omega (arith, short (ride_at rides k))

  -- Only the cart that stands where ride k's goes can trade with it.
  module _ (k : ℕ) (on : List (Option ℕ)) (s : Standing rides (length rides) t on) (u v : ℕ) (leaves : At (walk_at rides k) t u) (goes : At (walk_at rides k) (t + 1) v) where
    pub nobody_there : get_or on v None ≡ None → Trades rides t k → ⊥
    nobody_there e (o, h, d, (x, y, a, b, a', b')) =
        let p = s.there o y h a' in
        let g = ap (λ c. get_or on c None) (sym (at_next (walk_at rides k) t v goes).1 ∙ b.1) in
        false≢true (cc)

    module _ (m : ℕ) (e : get_or on v None ≡ Some m) where
      pub facing : Trades rides t k → (m ≡ k → ⊥) × At (walk_at rides m) (t + 1) u
      facing (o, h, d, (x, y, a, b, a', b')) =
          let p = s.there o y h a' in
          let g = ap (λ c. get_or on c None) (sym (at_next (walk_at rides k) t v goes).1 ∙ b.1) in
          let q : m ≡ o = cc in
          rw (q, add-one, sym leaves.1 ∙ a.1) (d, b')

      pub trades_of : (m ≡ k → ⊥) → At (walk_at rides m) (t + 1) u → Trades rides t k
      trades_of d b = (m, (s.back m v e).0, d, (u, v, leaves, at_next (walk_at rides k) t v goes, (s.back m v e).1, at_next (walk_at rides m) t u b))
