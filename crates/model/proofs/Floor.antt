-- What stays on the floor: a walk from a known cell stands on known cells, so that a path of a plan and the walk of a spare cart have known numbers. A choke point passes the reader's test of known
-- ones exactly if it is one, and a path has as many cells as fit its call exactly if the call is met at its last step. Assumes nothing.
use Prim.Native.Nat.{ℕ, zero, suc, ◌≤◌, ◌<◌}
use mathlib.Core.Path.{◌≡◌, refl, ap, ◌∙◌}
use mathlib.Core.List.{List, [], ◌∷◌}
use mathlib.Core.Bool.{Bool, true, ◌&&◌}
use mathlib.Core.Logic.{inl, inr}
use native.Mathlib.Omega.{arith}
use lib.Dec.{ltb, leb, eqb}
use lib.ListN.{length, get_or}
use borrow.Author.Tests.{lt-ltb, le-leb, eq-eqb, ltb-true, leb-true, eqb-true}
use Rattle.model.specs.Job.{Job, CallKind, lift, bay, track, cart_cell, call_of, horizon}
use Rattle.model.specs.Ready.{Fit}
use Rattle.model.specs.Walk.{Step, Walk, InTime}
use Rattle.model.specs.Plan.{Path, Ride, Leads, StaysOn}
use Rattle.model.specs.Choke.{Point, Choke, cell_step, whole_call, Known, KnownChoke}
use Rattle.model.specs.ReadSheet.{all_below, size_fits, known_path, known_spare, known_point, is_lift, known_whole}
use Rattle.model.proofs.Basics.{nope, and_left, and_right, and_both}
use Rattle.model.proofs.Lists.{in_get_or}

module _ (j : Job) (x : Point) where
  pub known_test : Known j x → known_point j x ≡ true
  known_test h = and_both (ltb x.cell j.cells) (leb x.step (horizon j)) (lt-ltb x.cell j.cells h.0) (le-leb x.step (horizon j) h.1)

  pub test_known : known_point j x ≡ true → Known j x
  test_known e = (
    ltb-true x.cell j.cells (and_left (ltb x.cell j.cells) (leb x.step (horizon j)) e),
    leb-true x.step (horizon j) (and_right (ltb x.cell j.cells) (leb x.step (horizon j)) e),
  )

-- the reader's test of a choke point
abbrev pub known_choke : Job → Choke → Bool
known_choke j (cell_step x) = known_point j x
known_choke j (whole_call k) = known_whole j k

lift_test : (k : CallKind) → is_lift k ≡ true → k ≡ lift
lift_test lift e = refl
lift_test bay e = nope (cc)

module _ (j : Job) where
  pub choke_test : (x : Choke) → KnownChoke j x → known_choke j x ≡ true
  choke_test (cell_step x) h = known_test j x h
  choke_test (whole_call k) h = and_both (ltb k (length j.calls)) (is_lift (call_of j k).kind) (lt-ltb k (length j.calls) h.0) (ap is_lift h.1)

  pub test_choke : (x : Choke) → known_choke j x ≡ true → KnownChoke j x
  test_choke (cell_step x) e = test_known j x e
  test_choke (whole_call k) e = (
    ltb-true k (length j.calls) (and_left (ltb k (length j.calls)) (is_lift (call_of j k).kind) e),
    lift_test (call_of j k).kind (and_right (ltb k (length j.calls)) (is_lift (call_of j k).kind) e),
  )

pub time_due : (k : CallKind) (d t : ℕ) → InTime k d t → t ≤ d
time_due lift d t h = h
time_due bay d t h = omega arith

pub fits_time : (k : CallKind) (d n : ℕ) → size_fits k d n ≡ true → (last : ℕ) × (n ≡ suc last) × InTime k d last
fits_time lift d zero e = nope (cc)
fits_time lift d (suc n) e = (n, refl, omega (arith, leb-true (suc n) (suc d) (and_right (ltb 0 (suc n)) (leb (suc n) (suc d)) e)))
fits_time bay d n e = (d, eqb-true n (suc d) e, refl)

pub time_fits : (k : CallKind) (d n : ℕ) → (last : ℕ) × (n ≡ suc last) × InTime k d last → size_fits k d n ≡ true
time_fits lift d n (last, e, h) = and_both (ltb 0 n) (leb n (suc d)) (lt-ltb 0 n (omega arith)) (le-leb n (suc d) (omega arith))
time_fits bay d n (last, e, h) = eq-eqb n (suc d) (e ∙ ap suc h)

below_of : (n : ℕ) (w : List ℕ) → ((t : ℕ) → t < length w → get_or w t 0 < n) → all_below n w ≡ true
below_of n [] h = refl
below_of n (a ∷ w) h = and_both (ltb a n) (all_below n w) (lt-ltb a n (h 0 (omega arith))) (below_of n w (λ t l. h (suc t) (omega arith)))

module _ (j : Job) (f : Fit j) where
  pub step_known : (t u v : ℕ) → u < j.cells → Step j t u v → v < j.cells
  step_known t u v h (inl e, o) = rw e at h
  step_known t u v h (inr (inl m), o) = (f.known_tracks (track u v) m).1
  step_known t u v h (inr (inr m), o) = (f.known_tracks (track v u) m).0

  pub walk_known : (c : ℕ) (w : List ℕ) → c < j.cells → Walk j c w → (t : ℕ) → t < length w → get_or w t 0 < j.cells
  walk_known c w h k zero l = rw k.starts.1 h
  walk_known c w h k (suc t) l = step_known t (get_or w t 0) (get_or w (suc t) 0) (walk_known c w h k t (omega arith)) (k.steps t l)

  -- the cells of a walk from a cart's cell
  cells_known : (k : ℕ) (w : List ℕ) → k < length j.carts → Walk j (cart_cell j k) w → all_below j.cells w ≡ true
  cells_known k w h wk = below_of j.cells w (walk_known (cart_cell j k) w (f.known_carts (cart_cell j k) (in_get_or j.carts k 0 h)) wk)

  pub path_known : (p : Path) → Leads j p → known_path j p ≡ true
  path_known p l =
      let q = call_of j p.call in
      let x₁ = ltb p.cart (length j.carts) in
      let x₂ = ltb p.call (length j.calls) in
      let x₃ = size_fits q.kind q.deadline (length p.cells) in
      let x₄ = all_below j.cells p.cells in
      let e₃ : x₃ ≡ true = time_fits q.kind q.deadline (length p.cells) (l.serves.last, l.serves.size, l.serves.in_time) in
      and_both (x₁ && x₂ && x₃) x₄
      (and_both (x₁ && x₂) x₃ (and_both x₁ x₂ (lt-ltb p.cart (length j.carts) l.known_cart) (lt-ltb p.call (length j.calls) l.known_call)) e₃)
      (cells_known p.cart p.cells l.known_cart l.walks)

  pub spare_known : (s : Ride) → StaysOn j s → known_spare j s ≡ true
  spare_known s h =
      let x₁ = ltb s.cart (length j.carts) in
      let x₂ = eqb (length s.cells) (suc (horizon j)) in
      and_both (x₁ && x₂) (all_below j.cells s.cells)
      (and_both x₁ x₂ (lt-ltb s.cart (length j.carts) h.known_cart) (eq-eqb (length s.cells) (suc (horizon j)) h.size))
      (cells_known s.cart s.cells h.known_cart h.walks)
