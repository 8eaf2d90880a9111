-- Rides that follow a flow back from the calls, and from the last step, are a plan. Two that stand on one node are on one cell at every step before, and so start on one cell, which has one
-- cart. Each path is a line of the flow, from its call's node to where that is met and down to step 0, so that two with one cart, which start on one cell, are of one call.
-- A trade is a trade of links, which a calm flow does not have. Assumes nothing.
use Prim.Native.Nat.{ℕ, zero, suc, ◌+◌, ◌<◌, ◌≤◌}
use mathlib.Core.Path.{◌≡◌, refl, sym, ◌∙◌, ap, subst}
use mathlib.Core.List.{List, [], ◌∷◌, ◌++◌, map}
use mathlib.Core.Logic.{◌⊎◌, inl, inr}
use native.Mathlib.Omega.{arith}
use lib.ListN.{length, get_or}
use Rattle.model.specs.Lists.{In, NoDup}
use Rattle.model.specs.Job.{Job, Call, lift, call, cart_cell, call_of, horizon}
use Rattle.model.specs.Plan.{Path, Ride, ride_of, Leads, StaysOn, Share, Trade, Plan}
use Rattle.model.specs.Choke.{Point, point}
use Rattle.model.specs.Ready.{Fit, Ready}
use Rattle.model.proofs.Basics.{nope}
use Rattle.model.proofs.Floor.{time_due}
use Rattle.model.proofs.Lists.{in_get_or, in_map, in_unmap, in_part, place_of, place_in}
use Rattle.model.proofs.Rides.{nodup_both, path_rides}
use Rattle.flow.specs.Flow.{Link, off, end, to, Flow}
use Rattle.flow.specs.Line.{Chain, Ahead}
use Rattle.flow.proofs.Line.{chain_more, one_line}
use Rattle.network.specs.Graph.{node_of, graph_from}
use Rattle.network.specs.Traced.{RideTraced, Traced, Calm}
use Rattle.network.proofs.Points.{point_cell, point_eq, to_eq}
use Rattle.network.proofs.ChokeTargets.{edge_low, edge_falls, edge_earlier, met_at}

-- What following a path asks, a step at a time: the links lead on from a used node, to a cart's cell at step 0.
module _ {j : Job} {S : Point → Type 0} {back on : Point → Link Point} (ok : Flow (graph_from j S) back on) where
  pub starts_on_cart : (x : Point) → back x ≡ end → In x.cell j.carts
  starts_on_cart x e = (ok.goals x e).1

  -- A line begins on a used node.
  pub targets : (v : Point) → on v ≡ end → back v ≡ off → ⊥
  targets v e f = nope (cc (ok.off_prev v f))

  pub began : (v : Point) → (back v ≡ off → ⊥) → v.step ≡ 0 → back v ≡ end
  began v used h = go (back v) refl
    where
      go : (l : Link Point) → back v ≡ l → back v ≡ end
      go off e = absurd (used e)
      go end e = e
      go (to u) e = absurd (omega (arith, edge_falls (ok.edge v u e)))

  used_before : (v u : Point) → back v ≡ to u → back u ≡ off → ⊥
  used_before v u e f = nope (cc (ok.forth v u e, ok.off_prev u f))

  pub came : (v : Point) (t : ℕ) → (back v ≡ off → ⊥) → v.step ≡ suc t → suc t ≤ horizon j
      → (u : Point) × (back v ≡ to u) × (u.step ≡ t) × (u.cell < j.cells) × (back u ≡ off → ⊥)
  came v t used h l = go (back v) refl
    where
      go : (l : Link Point) → back v ≡ l → (u : Point) × (back v ≡ to u) × (u.step ≡ t) × (u.cell < j.cells) × (back u ≡ off → ⊥)
      go off e = absurd (used e)
      go end e = absurd (omega (arith, (ok.goals v e).0))
      go (to u) e =
          let d = edge_earlier (ok.edge v u e) (omega arith) in
          (u, e, omega (arith, d.falls), d.known_before, used_before v u e)

  pub met : Fit j → (q : Call) → In q j.calls → (back (node_of j q) ≡ off → ⊥)
      → (t : ℕ) × (back (node_of j q) ≡ to (point q.cell t)) × (t ≤ q.deadline) × (back (point q.cell t) ≡ off → ⊥)
  met fit q i used = go (back (node_of j q)) refl
    where
      go : (l : Link Point) → back (node_of j q) ≡ l
          → (t : ℕ) × (back (node_of j q) ≡ to (point q.cell t)) × (t ≤ q.deadline) × (back (point q.cell t) ≡ off → ⊥)
      go off e = absurd (used e)
      go end e = absurd (omega (arith, (ok.goals (node_of j q) e).0))
      go (to u) e =
          let (c, d) = met_at fit q i (ok.edge (node_of j q) u e) in
          let f : back (node_of j q) ≡ to (point q.cell u.step) = e ∙ ap to (point_eq c refl) in
          (u.step, f, time_due q.kind q.deadline u.step d, used_before (node_of j q) (point q.cell u.step) f)

-- No number by g is twice, where members of one g have one f too.
own_by : {A : Type 0} (f g : A → ℕ) (l : List A) → ((a b : A) → In a l → In b l → g a ≡ g b → f a ≡ f b) → NoDup (map f l) → NoDup (map g l)
own_by f g [] h nd = tt
own_by {A} f g (a ∷ l) h nd = (λ i. twice (in_unmap g (g a) l i), own_by f g l (λ b c i k. h b c (inr i) (inr k)) nd.1)
  where
    twice : (b : A) × In b l × (g b ≡ g a) → ⊥
    twice (b, i, e) = nd.0 (rw (h a b (inl refl) (inr i) (sym e)) (in_map f b l i))

-- Rides that stand on one node are of one cart.
module _ (j : Job) (fit : Fit j) (back : Point → Link Point) (r s : Ride) (tr : RideTraced j back r) (tr' : RideTraced j back s) where
  one_start : (t : ℕ) → t < length r.cells → t < length s.cells → get_or r.cells t 0 ≡ get_or s.cells t 0 → get_or r.cells 0 0 ≡ get_or s.cells 0 0
  one_start zero h h' e = e
  one_start (suc t) h h' e =
      let f : to (point (get_or r.cells t 0) t) ≡ to (point (get_or s.cells t 0) t) = sym (tr.follows t h) ∙ ap (λ c. back (point c (suc t))) e ∙ tr'.follows t h' in
      one_start t (omega arith) (omega arith) (point_cell (to_eq f))

  one_cart : (t : ℕ) → t < length r.cells → t < length s.cells → get_or r.cells t 0 ≡ get_or s.cells t 0 → r.cart ≡ s.cart
  one_cart t h h' e = place_in j.carts fit.own_cells r.cart s.cart tr.known_cart tr'.known_cart (tr.starts ∙ one_start t h h' e ∙ sym tr'.starts)

module _ (j : Job) (fit : Fit j) (back : Point → Link Point) (calm : Calm back) (rs : List Ride) (traced : (r : Ride) → In r rs → RideTraced j back r) where
  no_share : (r s : Ride) → In r rs → In s rs → (t : ℕ) → Share r.cells s.cells t → r.cart ≡ s.cart
  no_share r s i k t (v, (h, e), (h', e')) = one_cart j fit back r s (traced r i) (traced s k) t h h' (e ∙ sym e')

  no_trade : (r s : Ride) → In r rs → In s rs → (t : ℕ) → Trade r.cells s.cells t → r.cart ≡ s.cart
  no_trade r s i k t (u, v, (h, e), (l, f), (h', e'), (l', f')) =
      let m : back (point v (suc t)) ≡ to (point u t) = rw (e, f) at ((traced r i).follows t l) in
      let m' : back (point u (suc t)) ≡ to (point v t) = rw (e', f') at ((traced s k).follows t l') in
      no_share r s i k t (u, (h, e), (h', e' ∙ calm v u t m m'))

module _ (j : Job) (r : Ready j) {S : Point → Type 0} {back on : Point → Link Point} (ok : Flow (graph_from j S) back on)
    (full : (q : Call) → In q j.calls → on (node_of j q) ≡ end) where
  abbrev goal : Path → Point
  goal p = node_of j (call_of j p.call)

  abbrev stand : Path → ℕ → Point
  stand p t = point (get_or p.cells t 0) t

  listed : (p : Path) → Traced j back p → In (call_of j p.call) j.calls
  listed p tr = in_get_or j.calls p.call (call lift 0 0) tr.known_call

  begins : (p : Path) → Traced j back p → on (goal p) ≡ end
  begins p tr = full (call_of j p.call) (listed p tr)

  -- The path follows the links from its call's node.
  on_line : (p : Path) (tr : Traced j back p) → (k t : ℕ) → t + k ≡ tr.last → Chain back (suc k) (goal p) (stand p t)
  on_line p tr zero t e = let d : t ≡ tr.last = omega arith in (stand p t, rw d tr.ends, refl)
  on_line p tr (suc k) t e = chain_more back (suc k) (goal p) (stand p (suc t)) (stand p t) (on_line p tr k (suc t) (omega arith)) (tr.ride.follows t (omega (arith, tr.size)))

  -- Down to its cart's cell.
  pub down : (p : Path) → Traced j back p → Ahead back (node_of j (call_of j p.call)) (point (cart_cell j p.cart) 0)
  down p tr = (suc tr.last, rw tr.ride.starts (on_line p tr tr.last 0 (omega arith)))

  -- Paths that start on one cell are of one call: calls have cells of their own.
  same_call : (p q : Path) → Traced j back p → Traced j back q → p.cart ≡ q.cart → p.call ≡ q.call
  same_call p q tr tr' e =
      place_of (λ q. q.cell) j.calls r.fit.own_targets p.call q.call (call lift 0 0) tr.known_call tr'.known_call
      (point_cell (one_line ok (point (cart_cell j p.cart) 0) (goal p) (goal q) (λ u f. nope (cc (begins p tr))) (λ u f. nope (cc (begins q tr'))) (down p tr) (rw (sym e) at (down q tr'))))

  module _ (ps : List Path) (own : NoDup (map (λ p. p.call) ps)) (traced : (p : Path) → In p ps → Traced j back p) where
    leads : (p : Path) → In p ps → Leads j p
    leads p i =
        let tr = traced p i in
        let e = ok.edge _ _ tr.ends in
        let (c, d) = met_at r.fit (call_of j p.call) (listed p tr) e in
        record {
          known_cart = tr.ride.known_cart;
          known_call = tr.known_call;
          walks = record {
            starts = (omega (arith, tr.size), sym tr.ride.starts);
            steps = λ t h. (edge_earlier (ok.edge _ _ (tr.ride.follows t h)) (omega (arith, tr.size, edge_low e))).moves;
          };
          serves = record { last = tr.last; size = tr.size; in_time = d; ends = c };
        }

    pub path_carts : NoDup (map (λ p. p.cart) ps)
    path_carts = own_by (λ p. p.call) (λ p. p.cart) ps (λ p q i k. same_call p q (traced p i) (traced q k)) own

  stays_on : (s : Ride) → RideTraced j back s → length s.cells ≡ suc (horizon j) → StaysOn j s
  stays_on s tr size = record {
    known_cart = tr.known_cart;
    walks = record { starts = (omega arith, sym tr.starts); steps = λ t h. (edge_earlier (ok.edge _ _ (tr.follows t h)) (omega arith)).moves };
    size = size;
  }

-- The paths are one a call, and a ride to the last step goes with each cart without a path.
pub record Plotted (j : Job) (back : Point → Link Point) (ps : List Path) (ss : List Ride) : Type 0 where
  pub size : length ps ≡ length j.calls
  pub own : NoDup (map (λ p. p.call) ps)
  pub traced : (p : Path) → In p ps → Traced j back p
  pub rides : (s : Ride) → In s ss → RideTraced j back s × (length s.cells ≡ suc (horizon j))
  pub spare : (p : Path) (s : Ride) → In p ps → In s ss → p.cart ≡ s.cart → ⊥
  pub own_spares : NoDup (map (λ s. s.cart) ss)
  pub all : length ps + length ss ≡ length j.carts

pub flow_plan : (j : Job) → Ready j → {S : Point → Type 0} {back on : Point → Link Point} → Flow (graph_from j S) back on → Calm back
    → ((q : Call) → In q j.calls → on (node_of j q) ≡ end)
    → (ps : List Path) (ss : List Ride) → Plotted j back ps ss → Plan j ps ss
flow_plan j r {S} {back} {on} ok calm full ps ss h = record {
  served = record { size = h.size; leads = leads j r ok full ps h.own h.traced; own_call = h.own };
  stay = λ s i. let (tr, size) = h.rides s i in stays_on j r ok full s tr size;
  size = h.all;
  apart = record {
    own_cart = nodup_both (λ s. s.cart) (map ride_of ps) ss (path_rides ps (path_carts j r ok full ps h.own h.traced)) h.own_spares apart;
    no_share = no_share j r.fit back calm (map ride_of ps ++ ss) traced;
    no_trade = no_trade j r.fit back calm (map ride_of ps ++ ss) traced;
  };
}
  where
    traced : (s : Ride) → In s (map ride_of ps ++ ss) → RideTraced j back s
    traced s i = go (in_part s (map ride_of ps) ss i)
      where
        go : In s (map ride_of ps) ⊎ In s ss → RideTraced j back s
        go (inl k) = let (p, m, e) = in_unmap ride_of s ps k in subst (RideTraced j back) e (h.traced p m).ride
        go (inr k) = (h.rides s k).0

    apart : (a b : Ride) → In a (map ride_of ps) → In b ss → a.cart ≡ b.cart → ⊥
    apart a b i k e = let (p, m, f) = in_unmap ride_of a ps i in h.spare p b m k (ap (λ x. x.cart) f ∙ e)
