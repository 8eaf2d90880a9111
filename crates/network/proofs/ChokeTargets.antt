-- The calls' nodes and the edges of the graph. A target is the node of a listed call, and each of those is a target; every edge leads down to a step, from a step
-- or from a call, between cells of the floor. A node is one choke point, since calls have cells of their own. Assumes nothing.
use Prim.Native.Nat.{ℕ, ◌<◌, ◌≤◌}
use mathlib.Core.Path.{◌≡◌, refl, sym, ◌∙◌}
use mathlib.Core.List.{List, [], ◌∷◌}
use mathlib.Core.Logic.{inl, inr}
use mathlib.Core.Bool.{Bool, true, false, ◌||◌}
use native.Mathlib.Omega.{arith}
use lib.Dec.{eqb}
use lib.ListN.{length}
use borrow.Author.Tests.{eqb-true, eq-eqb}
use Rattle.model.specs.Lists.{In}
use Rattle.model.specs.Job.{Job, Call, CallKind, lift, bay, call, call_of, latest, horizon}
use Rattle.model.specs.Walk.{InTime}
use Rattle.model.specs.Choke.{Point, Choke, cell_step, KnownChoke}
use Rattle.model.specs.Ready.{Fit}
use Rattle.model.proofs.Basics.{nope, and_left, and_right, and_both}
use Rattle.model.proofs.Floor.{time_due}
use Rattle.model.proofs.Lists.{in_get_or, one_of, place_of}
use Rattle.network.specs.Graph.{top, Inside, node_of, call_on, is_target, MetFrom, Earlier, Edge}
use Rattle.network.specs.Stuck.{call_choke, Names}
use Rattle.network.proofs.Points.{point_cell, point_step, point_eq}

call-of : (qs : List Call) (c : ℕ) → call_on qs c ≡ true → (q : Call) × In q qs × (q.cell ≡ c)
call-of [] c e = nope (cc)
call-of (q ∷ qs) c e = go (eqb q.cell c) refl e (λ f. call-of qs c f)
  where
    go : (b : Bool) → eqb q.cell c ≡ b → (b || call_on qs c) ≡ true → (call_on qs c ≡ true → (r : Call) × In r qs × (r.cell ≡ c))
        → (r : Call) × In r (q ∷ qs) × (r.cell ≡ c)
    go true h f ih = (q, inl refl, eqb-true q.cell c h)
    go false h f ih = let (r, i, g) = ih f in (r, inr i, g)

or_right : (x y : Bool) → y ≡ true → (x || y) ≡ true
or_right true y e = refl
or_right false y e = e

call-on : (qs : List Call) (q : Call) → In q qs → call_on qs q.cell ≡ true
call-on [] q h = absurd h
call-on (r ∷ qs) q (inl e) = rw (e, eq-eqb r.cell r.cell refl)
call-on (r ∷ qs) q (inr h) = or_right (eqb r.cell q.cell) (call_on qs q.cell) (call-on qs q h)

module _ (j : Job) where
  pub target_top : (x : Point) → is_target j x ≡ true → x.step ≡ top j
  target_top x e = eqb-true x.step (top j) (and_left (eqb x.step (top j)) (call_on j.calls x.cell) e)

  pub target_in : (x : Point) → is_target j x ≡ true → (q : Call) × In q j.calls × (x ≡ node_of j q)
  target_in x e =
      let (q, i, f) = call-of j.calls x.cell (and_right (eqb x.step (top j)) (call_on j.calls x.cell) e) in
      (q, i, point_eq (sym f) (target_top x e))

  pub in_target : (q : Call) → In q j.calls → is_target j (node_of j q) ≡ true
  in_target q i = and_both (eqb (top j) (top j)) (call_on j.calls q.cell) (eq-eqb (top j) (top j) refl) (call-on j.calls q i)

pub by_horizon : (qs : List Call) (q : Call) → In q qs → q.deadline ≤ latest qs
by_horizon [] q h = absurd h
by_horizon (r ∷ qs) q (inl e) = rw e (omega arith)
by_horizon (r ∷ qs) q (inr h) = omega (arith, by_horizon qs q h)

module _ {j : Job} {u w : Point} where
  pub edge_low : Edge j u w → w.step ≤ horizon j
  edge_low (inl m) = omega (arith, time_due m.call.kind m.call.deadline w.step m.in_time, by_horizon j.calls m.call m.listed)
  edge_low (inr e) = omega (arith, e.falls, e.in_time)

  pub edge_falls : Edge j u w → w.step < u.step
  edge_falls (inl m) = omega (arith, point_step m.here, edge_low (inl m))
  edge_falls (inr e) = omega (arith, e.falls)

  pub edge_high : Edge j u w → u.step ≤ top j
  edge_high (inl m) = omega (arith, point_step m.here)
  edge_high (inr e) = omega (arith, e.in_time)

  pub edge_inside : Fit j → Edge j u w → Inside j u
  edge_inside f (inl m) = (rw (point_cell m.here) (f.known_calls m.call m.listed).0, edge_high (inl m))
  edge_inside f (inr e) = (e.known, edge_high (inr e))

  pub edge_inside_before : Fit j → Edge j u w → Inside j w
  edge_inside_before f (inl m) = (rw m.there (f.known_calls m.call m.listed).0, omega (arith, edge_low (inl m)))
  edge_inside_before f (inr e) = (e.known_before, omega (arith, edge_low (inr e)))

  -- From a step an edge leads to a step earlier, from a call to where it is met.
  pub edge_earlier : Edge j u w → u.step ≤ horizon j → Earlier j u w
  edge_earlier (inl m) h = absurd (omega (arith, point_step m.here))
  edge_earlier (inr e) h = e

  pub edge_met : Edge j u w → u.step ≡ top j → MetFrom j u w
  edge_met (inl m) h = m
  edge_met (inr e) h = absurd (omega (arith, e.in_time))

module _ {j : Job} (f : Fit j) where
  -- The call that is met is the one of the node: no cell has two.
  pub met_at : {y : Point} (q : Call) → In q j.calls → Edge j (node_of j q) y → (y.cell ≡ q.cell) × InTime q.kind q.deadline y.step
  met_at {y} q i e =
      let m = edge_met e refl in
      let c : q ≡ m.call = one_of (λ q. q.cell) j.calls f.own_targets q m.call i m.listed (point_cell m.here) in
      (m.there ∙ sym (point_cell m.here), rw c m.in_time)

-- A cell at a step is its own choke point, and a call's node what the call is.
pub names_cell : (j : Job) {v : Point} {y : Choke} → Names j v y → v.step ≤ horizon j → y ≡ cell_step v
names_cell j (inl (k, e)) h = e
names_cell j (inr (k, l, e, g)) h = absurd (omega (arith, point_step e))

module _ {j : Job} (f : Fit j) where
  pub names_call : {k : ℕ} {y : Choke} → k < length j.calls → Names j (node_of j (call_of j k)) y → y ≡ call_choke j (call_of j k).kind k
  names_call l (inl (h, e)) = absurd (omega (arith, h.1))
  names_call {k} l (inr (m, l', e, g)) =
      let same : k ≡ m = place_of (λ q. q.cell) j.calls f.own_targets k m (call lift 0 0) l l' (point_cell e) in
      rw same g

  pub names_one : {v : Point} {y z : Choke} → Names j v y → Names j v z → y ≡ z
  names_one (inl (h, e)) n = e ∙ sym (names_cell j n h.1)
  names_one (inr (k, l, e, g)) n = g ∙ sym (names_call l (rw e at n))

  pub names_known : {v : Point} {y : Choke} → Names j v y → KnownChoke j y
  names_known (inl (h, e)) = rw e h
  names_known (inr (k, l, e, g)) = rw g (go (call_of j k).kind refl)
    where
      go : (c : CallKind) → (call_of j k).kind ≡ c → KnownChoke j (call_choke j c k)
      go lift h = (l, h)
      go bay h = let i = in_get_or j.calls k (call lift 0 0) l in ((f.known_calls (call_of j k) i).0, by_horizon j.calls (call_of j k) i)
