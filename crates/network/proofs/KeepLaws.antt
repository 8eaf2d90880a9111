-- Giving a cart that no call gets a line: it begins with the cart's node at step 0; its loose end is led on by standing, until it is at the last step, where a line may begin. The calls stay
-- served all the while, and the bytes tell where each line goes on. Assumes nothing.
use Prim.Native.Nat.{ℕ, suc, ◌+◌, ◌≤◌, ◌<◌}
use mathlib.Core.Path.{◌≡◌, refl, sym, ◌∙◌, ap}
use mathlib.Core.List.{List}
use mathlib.Core.Bool.{Bool, true, false}
use mathlib.Core.Logic.{◌⊎◌, inl, inr}
use native.Mathlib.Omega.{arith}
use lib.Dec.{eqb}
use lib.ListN.{length, length-set}
use Rattle.model.specs.Lists.{In}
use Rattle.model.specs.Job.{Job, Call, horizon}
use Rattle.model.specs.Choke.{Point, point}
use Rattle.model.proofs.Basics.{nope}
use Rattle.flow.specs.Flow.{Link, off, end, to, Flow}
use Rattle.flow.specs.Update.{upd}
use Rattle.flow.specs.Loose.{LedOn, prev_led}
use Rattle.flow.proofs.Flow.{flow_same}
use Rattle.flow.proofs.Update.{Upd, changed, kept, look}
use Rattle.flow.proofs.Loose.{restarted, led_on, laid_open}
use Rattle.network.specs.declared.planes.Grid.{Grid}
use Rattle.network.specs.Graph.{top, Inside, node_of, graph_from}
use Rattle.network.specs.Store.{grid_of, idx, place_at, used_at, next_at, leads_to, came_from, meets, with_used, is_used, Spacious, Within}
use Rattle.network.specs.Links.{back_link, on_link}
use Rattle.network.specs.Holds.{Holds}
use Rattle.network.specs.Keeping.{BeginsAt, Keeps, KeepsAll, LooseAt, SameStarts}
use Rattle.network.proofs.Points.{point_cell, point_step, to_eq, dec_point}
use Rattle.network.proofs.StoreBytes.{idx_below, idx_one}
use Rattle.network.proofs.NodeBytes.{link_off, link_end, link_of, link_same, used, unused, used_same, used_known}
use Rattle.network.proofs.PlaneLaws as planes
use Rattle.network.proofs.PlaneLaws.{set_here}
use Rattle.network.proofs.ChokeTargets.{edge_inside_before}
use Rattle.network.proofs.StandsFlow.{can_stand}
use Rattle.network.proofs.StandBytes.{Stood, back_stood}

pub keeps_within : {j : Job} {g : Grid} {s : List ℕ} {S : Point → Type 0} → Keeps j g s S → {x : Point} → Inside j x → Within g s (place_at g x)
keeps_within {j} k i = (k.room, rw k.grid (idx_below j i))

-- The flow that the searches leave.
module _ {j : Job} {g : Grid} {s : List ℕ} (h : Holds j g s) (full : (q : Call) → In q j.calls → on_link j s (node_of j q) ≡ end) where
  tells_first : (x y : Point) → on_link j s x ≡ to y → y.step ≤ horizon j → next_at g s (place_at g x) ≡ y.cell
  tells_first x y e l = rw h.grid (go (eqb (used_at (grid_of j) s (idx j x)) meets) refl)
    where
      led : leads_to (grid_of j) s x ≡ y
      led = (link_of (is_used j s x) (eqb x.step (top j)) (leads_to (grid_of j) s x) y e).2

      go : (b : Bool) → eqb (used_at (grid_of j) s (idx j x)) meets ≡ b → next_at (grid_of j) s (idx j x) ≡ y.cell
      go true q = let f : point x.cell (top j) ≡ y = rw q at led in absurd (omega (arith, point_step f))
      go false q = let f : point (next_at (grid_of j) s (idx j x)) (x.step + 1) ≡ y = rw q at led in point_cell f

  pub keeps_first : KeepsAll j g s
  keeps_first = record { ready = h.ready; grid = h.grid; room = h.room; on = on_link j s; flow = restarted h.flow (λ v e. inl (h.flow.starts v e)); full = full; tells = tells_first }

-- A node of a line has its place.
module _ {j : Job} (s : List ℕ) {S : Point → Type 0} {on : Point → Link Point} (ok : Flow (graph_from j S) (back_link j s) on) where
  pub line_inside : (x : Point) → (on x ≡ off → ⊥) → Inside j x
  line_inside x n = used_known j s x (go (is_used j s x) refl)
    where
      go : (b : Bool) → is_used j s x ≡ b → b ≡ true
      go true e = refl
      go false e = absurd (n (ok.off_prev x (link_off (is_used j s x) _ e)))

-- A loose end before the last step is led on.
module _ {j : Job} {g : Grid} {s : List ℕ} {c t : ℕ} (h : LooseAt j g s (point c t)) (early : suc t ≤ horizon j) where
  abbrev k : Keeps j g s (λ x. x ≡ point c t)
  k = h.keeps

  abbrev u : Point
  u = point c t

  abbrev v : Point
  v = point c (suc t)

  pub loose_known : Inside j (point c t)
  loose_known = line_inside s k.flow u (λ e. nope (cc h.loose))

  module _ {s' : List ℕ} {b : ℕ} (filled : b ≡ 0 → ⊥) (written : Stood g s s' (place_at g (point c t)) (place_at g (point c (suc t))) c b) where
    bytes : Stood (grid_of j) s s' (idx j u) (idx j v) c b
    bytes = rw k.grid at written

    module _ {w : Point} (leaves : ((w ≡ v) × (back_link j s v ≡ off)) ⊎ (back_link j s v ≡ to w)) where
      abbrev on' : Point → Link Point
      on' = prev_led dec_point u v w k.on

      step : LedOn (graph_from j (BeginsAt j (λ x. x ≡ u))) (back_link j s) k.on u v w
      step = record {
        loose = h.loose;
        edge = can_stand k.ready.fit k.flow k.full h.loose early loose_known.0;
        apart = λ e. omega (arith, point_step e);
        leaves = leaves;
      }

      flow : Flow (graph_from j (BeginsAt j (λ x. x ≡ w))) (back_link j s') on'
      flow = flow_same (back_stood j loose_known.0 early filled bytes) (λ x. refl) (led_on dec_point k.flow step still (inr (inr refl)))
        where
          still : (a : Point) → BeginsAt j (λ x. x ≡ u) a → (a ≡ u → ⊥) → BeginsAt j (λ x. x ≡ w) a
          still a (inl e) n = inl e
          still a (inr (inl e)) n = inr (inl e)
          still a (inr (inr e)) n = absurd (n e)

      full : (q : Call) → In q j.calls → on' (node_of j q) ≡ end
      full q i = go (look dec_point (upd dec_point k.on u (to v)) w end (node_of j q)) (look dec_point k.on u (to v) (node_of j q))
        where
          go : Upd dec_point (upd dec_point k.on u (to v)) w end (node_of j q) → Upd dec_point k.on u (to v) (node_of j q) → on' (node_of j q) ≡ end
          go (changed e f) r = f
          go (kept n f) (changed e r) = absurd (omega (arith, point_step e))
          go (kept n f) (kept m r) = f ∙ r ∙ k.full q i

      tells : (x y : Point) → on' x ≡ to y → y.step ≤ horizon j → next_at (grid_of j) s' (idx j x) ≡ y.cell
      tells x y e l = go (look dec_point (upd dec_point k.on u (to v)) w end x) (look dec_point k.on u (to v) x)
        where
          same : (x ≡ u → ⊥) → k.on x ≡ to y → next_at (grid_of j) s' (idx j x) ≡ y.cell
          same n f =
              let i : Inside j x = edge_inside_before k.ready.fit (k.flow.edge y x (k.flow.back y x f)) in
              bytes.next.else (idx j x) (idx_below j i) (λ q. n (idx_one j i loose_known q)) ∙ (rw k.grid at (k.tells x y f l))

          go : Upd dec_point (upd dec_point k.on u (to v)) w end x → Upd dec_point k.on u (to v) x → next_at (grid_of j) s' (idx j x) ≡ y.cell
          go (changed q f) r = nope (cc)
          go (kept n f) (changed q r) =
              let led : v ≡ y = to_eq (sym r ∙ sym f ∙ e) in
              ap (λ x. next_at (grid_of j) s' (idx j x)) q ∙ bytes.next.here ∙ point_cell led
          go (kept n f) (kept m r) = same m (sym r ∙ sym f ∙ e)

      pub led_loose : LooseAt j g s' w
      led_loose = record {
        keeps = record {
          ready = k.ready;
          grid = k.grid;
          room = omega (arith, k.room, written.long);
          on = on';
          flow = flow;
          full = full;
          tells = λ x y e l. rw k.grid (tells x y e l);
        };
        loose = ends (look dec_point (upd dec_point k.on u (to v)) w end w);
      }
        where
          ends : Upd dec_point (upd dec_point k.on u (to v)) w end w → on' w ≡ end
          ends (changed e f) = f
          ends (kept n f) = absurd (n refl)

    pub same_starts : SameStarts j s s'
    same_starts x e = back_stood j loose_known.0 early filled bytes x ∙ go (look dec_point (back_link j s) v (to u) x)
      where
        go : Upd dec_point (back_link j s) v (to u) x → upd dec_point (back_link j s) v (to u) x ≡ back_link j s x
        go (changed q f) = absurd (omega (arith, point_step q))
        go (kept n f) = f

-- At the last step it is no longer loose.
pub loose_last : {j : Job} {g : Grid} {s : List ℕ} {u : Point} → LooseAt j g s u → u.step ≡ horizon j → KeepsAll j g s
loose_last {j} {u = u} h e = let k = h.keeps in
    record { ready = k.ready; grid = k.grid; room = k.room; on = k.on; flow = restarted k.flow (λ v f. starts v (k.flow.starts v f)); full = k.full; tells = k.tells }
  where
    starts : (v : Point) → BeginsAt j (λ x. x ≡ u) v → BeginsAt j (λ x. ⊥) v
    starts v (inl f) = inl f
    starts v (inr (inl f)) = inr (inl f)
    starts v (inr (inr f)) = inr (inl (point_step f ∙ e))

-- A cart's node that no line uses becomes a line, loose at once.
module _ {j : Job} {g : Grid} {s : List ℕ} (k : KeepsAll j g s) (c : ℕ) (cart : In c j.carts) (free : used_at g s (place_at g (point c 0)) ≡ 0) where
  abbrev z : Point
  z = point c 0

  pub start_known : Inside j (point c 0)
  start_known = (k.ready.fit.known_carts c cart, omega arith)

  abbrev s₁ : List ℕ
  s₁ = with_used (grid_of j) s (idx j z) 1

  room : Spacious (grid_of j) s
  room = rw k.grid at k.room

  below : idx j z < (grid_of j).nodes
  below = idx_below j start_known

  back_open : (y : Point) → back_link j s₁ y ≡ upd dec_point (back_link j s) z end y
  back_open y = go (look dec_point (back_link j s) z end y)
    where
      here : back_link j s₁ z ≡ end
      here = link_end (is_used j s₁ z) (eqb 0 0) (to (came_from (grid_of j) s₁ z)) (used j s₁ z start_known (λ e. omega (
        arith,
        (set_here (grid_of j) s 0
            (idx j z) 1 below room (omega arith)).here,
      ))) refl

      there : (y ≡ z → ⊥) → back_link j s₁ y ≡ back_link j s y
      there n =
          let apart : Inside j y → idx j y ≡ idx j z → ⊥ = λ i e. n (idx_one j i start_known e) in
          let e : is_used j s₁ y ≡ is_used j s y = used_same j s s₁ y (λ i. ap (λ x. eqb x 0) ((set_here (grid_of j) s 0 (idx j z) 1 below room (omega arith)).else
          (idx j y) (idx_below j i) (apart i))) in
          link_same (is_used j s₁ y) (is_used j s y) (eqb y.step 0) (came_from (grid_of j) s₁ y) (came_from (grid_of j) s y) e
          (λ u. let i = used_known j s₁ y u in rw (planes.kept (grid_of j) s 0 (idx j z) 1 below 3 (λ e. omega arith) (idx j y) (idx_below j i)) refl)

      go : Upd dec_point (back_link j s) z end y → back_link j s₁ y ≡ upd dec_point (back_link j s) z end y
      go (changed e f) = ap (back_link j s₁) e ∙ here ∙ sym f
      go (kept n f) = there n ∙ sym f

  unused_yet : back_link j s z ≡ off
  unused_yet = link_off (is_used j s z) _ (unused j s z (rw k.grid at free))

  abbrev on₁ : Point → Link Point
  on₁ = upd dec_point k.on z end

  opened : LooseAt j g s₁ z
  opened = record {
    keeps = record {
      ready = k.ready;
      grid = k.grid;
      room = omega (arith, k.room, long);
      on = on₁;
      flow = flow_same back_open (λ x. refl) (laid_open dec_point k.flow unused_yet (refl, cart) still (inr (inr refl)));
      full = λ q i. full q i (look dec_point k.on z end (node_of j q));
      tells = λ x y e l. rw k.grid (tells x y e l (look dec_point k.on z end x));
    };
    loose = ends (look dec_point k.on z end z);
  }
    where
      long : length s₁ ≡ length s
      long = simp length-set

      still : (a : Point) → BeginsAt j (λ x. ⊥) a → BeginsAt j (λ x. x ≡ z) a
      still a (inl e) = inl e
      still a (inr (inl e)) = inr (inl e)
      still a (inr (inr e)) = absurd e

      ends : Upd dec_point k.on z end z → on₁ z ≡ end
      ends (changed e f) = f
      ends (kept n f) = absurd (n refl)

      full : (q : Call) → In q j.calls → Upd dec_point k.on z end (node_of j q) → on₁ (node_of j q) ≡ end
      full q i (changed e f) = f
      full q i (kept n f) = f ∙ k.full q i

      tells : (x y : Point) → on₁ x ≡ to y → y.step ≤ horizon j → Upd dec_point k.on z end x → next_at (grid_of j) s₁ (idx j x) ≡ y.cell
      tells x y e l (changed q f) = nope (cc)
      tells x y e l (kept n f) =
          let o : k.on x ≡ to y = sym f ∙ e in
          let i : Inside j x = edge_inside_before k.ready.fit (k.flow.edge y x (k.flow.back y x o)) in
          planes.kept (grid_of j) s 0 (idx j z) 1 below 2 (λ e. omega arith) (idx j x) (idx_below j i) ∙ (rw k.grid at (k.tells x y o l))

  -- The code writes by its own grid.
  module _ {s' : List ℕ} (written : s' ≡ with_used g s (place_at g (point c 0)) 1) where
    is : s' ≡ s₁
    is = rw k.grid at written

    pub start_loose : LooseAt j g s' (point c 0)
    start_loose = rw is opened

    -- Its node is used then, and the others as before.
    pub start_used : back_link j s' (point c 0) ≡ end
    start_used = ap (λ (x : List ℕ). back_link j x z) is ∙ (back_open z ∙ go (look dec_point (back_link j s) z end z))
      where
        go : Upd dec_point (back_link j s) z end z → upd dec_point (back_link j s) z end z ≡ end
        go (changed e f) = f
        go (kept n f) = absurd (n refl)

    pub start_others : (x : Point) → (x ≡ point c 0 → ⊥) → back_link j s' x ≡ back_link j s x
    start_others x n = ap (λ (l : List ℕ). back_link j l x) is ∙ (back_open x ∙ go (look dec_point (back_link j s) z end x))
      where
        go : Upd dec_point (back_link j s) z end x → upd dec_point (back_link j s) z end x ≡ back_link j s x
        go (changed e f) = absurd (n e)
        go (kept n f) = f
