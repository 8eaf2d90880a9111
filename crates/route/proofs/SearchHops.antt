-- The hops of the search. What the store's bytes say of a node is what the flow's links say, and what the tables say of a cell is which edges there are: so each
-- position that the inner functions find is two residual arcs away, and each that is two arcs away is among those they look at. Assumes nothing.
use Prim.Native.Nat.{ℕ, suc, ◌+◌, ◌-◌, ◌<◌, ◌≤◌}
use mathlib.Core.Path.{◌≡◌, refl, sym, ◌∙◌, ap, subst}
use mathlib.Core.List.{List}
use mathlib.Core.Logic.{◌⊎◌, inl, inr, ◌↔◌}
use mathlib.Core.Bool.{Bool, true, false, cond}
use native.Mathlib.Omega.{arith}
use native.Mathlib.Decide.{ℕ_discrete}
use lib.Dec.{eqb}
use lib.ListN.{get_or}
use borrow.Author.Tests.{eqb-false}
use Rattle.model.specs.Lists.{In}
use Rattle.model.specs.Job.{Job, Call, CallKind, lift, bay, call}
use Rattle.model.specs.Walk.{Open, InTime}
use Rattle.model.specs.Choke.{Point, point, Known}
use Rattle.model.specs.Limits.{max_cells, max_steps}
use Rattle.model.specs.Ready.{Fit}
use Rattle.model.proofs.Basics.{nope}
use Rattle.model.proofs.Decide.{dec-lt}
use Rattle.model.proofs.Decisions.{no_bay}
use Rattle.model.proofs.Lists.{one_of}
use Rattle.model.proofs.Written.{few_steps}
use Rattle.floor.specs.Tables.{OpenAt, Tables}
use Rattle.floor.proofs.JobTables.{row_known, row_step, step_row}
use Rattle.flow.specs.Flow.{off, end, to, arr, dep}
use Rattle.network.specs.Graph.{top, Inside, Edge}
use Rattle.network.specs.Store.{grid_of, idx, used_at, leads_to, is_used}
use Rattle.network.specs.Links.{back_link, on_link}
use Rattle.network.specs.Holds.{Holds}
use Rattle.network.proofs.NodeBytes as bytes
use Rattle.network.proofs.NodeBytes.{link_off, link_of, used_byte}
use Rattle.network.proofs.Points.{point_eq, point_cell, point_step}
use Rattle.network.proofs.HoldsLaws.{leads_on}
use Rattle.network.proofs.ChokeTargets.{by_horizon, edge_low, edge_inside, edge_inside_before}
use Rattle.route.specs.Finds.{By, Down, first_of, From}
use Rattle.route.proofs.Stack.{ArcIn}
use Rattle.route.proofs.SearchFinds.{first_bay, first_lift, by_way}

-- The window of a call.
module _ {j : Job} {near begin due shut cart-on : List ℕ} (f : Fit j) (tables : Tables j near begin due shut cart-on) where
  -- Where a step is before the entry of `due`, there is a call.
  call-on : (c t : ℕ) → c < j.cells → t < get_or due c 0 → (kind : CallKind) × In (call kind c (get_or due c 0 - 1)) j.calls
  call-on c t k l = (tables.dues.targets c (get_or due c 0 - 1) k).0 (omega arith)

  pub due_low : (c : ℕ) → c < j.cells → get_or due c 0 ≤ top j
  due_low c k = go (dec-lt 0 (get_or due c 0))
    where
      go : Dec (0 < get_or due c 0) → get_or due c 0 ≤ top j
      go (yes l) = let (kind, i) = call-on c 0 k l in omega (arith, by_horizon j.calls (call kind c (get_or due c 0 - 1)) i)
      go (no l) = omega arith

  module _ (q : Call) (i : In q j.calls) where
    due_is : get_or due q.cell 0 ≡ q.deadline + 1
    due_is = (tables.dues.targets q.cell q.deadline (f.known_calls q i).0).1 (q.kind, i)

    opens_then : OpenAt shut (q.deadline + 1) q.cell ↔ Open j (q.deadline + 1) q.cell
    opens_then = tables.shuts.opens q.cell (q.deadline + 1) (omega (arith, (f.known_calls q i).0, f.few_cells)) (omega (arith, (f.known_calls q i).1))

    -- A bay closes its cell behind its step; no other call is on a lift's cell, so that stays open.
    first_of_bay : q.kind ≡ bay → first_of due shut q.cell ≡ q.deadline
    first_of_bay e = go (dec-lt (q.deadline + 1) (get_or shut q.cell 0))
      where
        go : Dec (OpenAt shut (q.deadline + 1) q.cell) → first_of due shut q.cell ≡ q.deadline
        go (yes l) = absurd (omega (arith, opens_then.0 l q i e refl))
        go (no l) = omega (arith, due_is, first_bay due shut q.cell (omega (arith, due_is)))

    first_of_lift : q.kind ≡ lift → first_of due shut q.cell ≡ 0
    first_of_lift e = first_lift due shut q.cell (omega (arith, due_is, opens_then.1 (λ p m b c. absurd (other p m b c))))
      where
        other : (p : Call) → In p j.calls → p.kind ≡ bay → p.cell ≡ q.cell → ⊥
        other p m b c =
            let same : q ≡ p = one_of (λ q. q.cell) j.calls f.own_targets q p i m (sym c) in
            no_bay (sym e ∙ ap (λ (q : Call). q.kind) same ∙ b)

    -- The steps of the window are those at which the call is met.
    pub window : (t : ℕ) → ((first_of due shut q.cell ≤ t) × (t < get_or due q.cell 0)) ↔ InTime q.kind q.deadline t
    window t = go q.kind refl
      where
        go : (k : CallKind) → q.kind ≡ k → ((first_of due shut q.cell ≤ t) × (t < get_or due q.cell 0)) ↔ InTime k q.deadline t
        go lift e = let z = first_of_lift e in (λ (l, m). omega (arith, due_is), λ h. (omega arith, omega (arith, due_is)))
        go bay e = let z = first_of_bay e in (λ (l, m). omega (arith, due_is), λ h. (omega arith, omega (arith, due_is)))

off_unused : (j : Job) (s : List ℕ) (x : Point) → Inside j x → back_link j s x ≡ off → used_at (grid_of j) s (idx j x) ≡ 0
off_unused j s x k e = go (ℕ_discrete (used_at (grid_of j) s (idx j x)) 0)
  where
    some : (a b : Bool) (p : Point) → a ≡ true → cond a (cond b end (to p)) off ≡ off → ⊥
    some false b p q f = nope (cc)
    some true true p q f = nope (cc)
    some true false p q f = nope (cc)

    go : Dec (used_at (grid_of j) s (idx j x) ≡ 0) → used_at (grid_of j) s (idx j x) ≡ 0
    go (yes f) = f
    go (no u) = absurd (some (is_used j s x) (eqb x.step 0) _ (bytes.used j s x k u) e)

-- Two residual arcs, to the arrival at w and on to the departure from y.
pub record HopTo (j : Job) (s : List ℕ) (v w y : Point) : Type 0 where
  pub known : Inside j y
  pub there : ArcIn j s (dep v) (arr w)
  pub then : ArcIn j s (arr w) (dep y)

module _ {j : Job} {s near begin due shut cart-on : List ℕ} (h : Holds j (grid_of j) s) (tables : Tables j near begin due shut cart-on) (v : Point) (k : Inside j v) where
  abbrev FromV : Point → Point → Type 0
  FromV y via = From (grid_of j) s near begin due shut v y via

  small : (c : ℕ) → c < j.cells → c < max_cells
  small c l = omega (arith, h.ready.fit.few_cells)

  soon : v.step ≤ max_steps
  soon = omega (arith, k.1, few_steps j h.ready.fit)

  -- By way of w, where an edge leads to.
  via_hop : (w : Point) → Edge j v w → (y via : Point) → By (grid_of j) s w y via → HopTo j s v via y
  via_hop w a y via (inl (e, us, f)) =
      rw e (record { known = rw f (edge_inside_before h.ready.fit a); there = inr a; then = inl (f, link_off _ _ (bytes.unused j s w us)) })
  via_hop w a y via (inr (e, us, f)) =
      let r = leads_on h (edge_inside_before h.ready.fit a) (λ (q : w.step ≡ top j). omega (arith, edge_low a)) us in
      rw e (record { known = rw f r.1; there = inr a; then = inr (r.0 ∙ ap to (sym f)) })

  pub found_hop : (y via : Point) → FromV y via → HopTo j s v via y
  found_hop y via (inl (e, (t, l, m, b))) =
      let (kind, i) = call-on h.ready.fit tables v.cell t k.0 m in
      let q = call kind v.cell (get_or due v.cell 0 - 1) in
      via_hop (point v.cell t) (inl (record { call = q; listed = i; here = point_eq refl e; there = refl; in_time = (window h.ready.fit tables q i t).0 (l, m) })) y via b
  found_hop y via (inr (ne, inl (pos, (c, i, u, b)))) =
      let known = row_known tables.sides tables.shuts v.cell v.step c k.0 i in
      via_hop (point c (v.step - 1)) (inr (record {
        falls = omega arith;
        moves = row_step tables.sides tables.shuts v.cell v.step c k.0 (small v.cell k.0) (v.step - 1) soon (omega arith) i;
        leaves = (tables.shuts.opens c (suc (v.step - 1)) (small c known) (omega (arith, soon))).0 (omega arith);
        in_time = omega (arith, k.1);
        known = k.0;
        known_before = known;
      })) y via b
  found_hop y via (inr (ne, inr (e, us, f))) = let r = leads_on h k ne us in rw e (record { known = rw f r.1; there = inl refl; then = inr (r.0 ∙ ap to (sym f)) })

  -- The node by way of which it is found is a cell at a step.
  pub via_known : (y via : Point) → FromV y via → Known j via
  via_known y via (inl (e, (t, l, m, b))) = rw (by_way (grid_of j) s b) (k.0, omega (arith, due_low h.ready.fit tables v.cell k.0))
  via_known y via (inr (ne, inl (pos, (c, i, u, b)))) = rw (by_way (grid_of j) s b) (row_known tables.sides tables.shuts v.cell v.step c k.0 i, omega (arith, k.1))
  via_known y via (inr (ne, inr (e, us, f))) = rw e (k.0, omega (arith, k.1))

  -- What the link on from a node says of its bytes.
  to_on : (x y : Point) → on_link j s x ≡ to y → (x.step ≡ top j → ⊥) × Down (grid_of j) s x y x × Inside j y
  to_on x y e =
      let (u, l, f) = link_of (is_used j s x) (eqb x.step (top j)) (leads_to (grid_of j) s x) y e in
      (eqb-false x.step (top j) l, (refl, used_byte j s x u, sym f), edge_inside h.ready.fit (h.flow.edge y x (h.flow.back y x e)))

  -- Where an edge leads to is among the nodes by way of which one gets on.
  by_edge : (w y : Point) → Edge j v w → By (grid_of j) s w y w → FromV y w
  by_edge w y (inl m) b =
      let e : w ≡ point v.cell w.step = point_eq (m.there ∙ sym (point_cell m.here)) refl in
      let (l, i) = (window h.ready.fit tables m.call m.listed w.step).1 m.in_time in
      let c = point_cell m.here in
      inl (point_step m.here, (w.step, rw c l, rw c i, subst (λ z. By (grid_of j) s z y w) e b))
  by_edge w y (inr a) b =
      let e : w ≡ point w.cell (v.step - 1) = point_eq refl (omega (arith, a.falls)) in
      let u = (tables.shuts.opens w.cell (suc w.step) (small w.cell a.known_before) (omega (arith, a.falls, soon))).1 a.leaves in
      let i = step_row tables.sides tables.shuts v.cell v.step w.cell k.0 (small v.cell k.0) w.step soon a.falls a.moves in
      inr (λ q. omega (arith, a.in_time), inl (omega (arith, a.falls), (w.cell, i, omega (arith, a.falls), subst (λ z. By (grid_of j) s z y w) e b)))

  -- What is two arcs from v is v itself, or among what is found.
  pub hop_found : (w y : Point) → ArcIn j s (dep v) (arr w) → ArcIn j s (arr w) (dep y) → (y ≡ v) ⊎ (Inside j y × ((via : Point) × FromV y via))
  hop_found w y (inl e) (inl (f, g)) = inl (f ∙ sym e)
  hop_found w y (inl e) (inr g) = let (ne, b, i) = to_on v y (rw (sym e) at g) in inr (i, (v, inr (ne, inr b)))
  hop_found w y (inr a) (inl (f, g)) =
      let i = edge_inside_before h.ready.fit a in
      inr (rw f i, (w, by_edge w y a (inl (refl, off_unused j s w i g, f))))
  hop_found w y (inr a) (inr g) = let (ne, b, i) = to_on w y g in inr (i, (w, by_edge w y a (inr b)))
