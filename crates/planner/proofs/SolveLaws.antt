-- Serving the calls in their order, one after the other: the flow serves just the calls so far, so the next one's node is free; and when all are served, so is every call,
-- since the order has each number below the number of calls once. Assumes nothing.
use Prim.Native.Nat.{ℕ, ◌+◌, ◌<◌, ◌≤◌}
use mathlib.Core.Path.{◌≡◌, refl, sym, ◌∙◌, ap, subst}
use mathlib.Core.List.{List, map}
use mathlib.Core.Bool.{Bool, true, false}
use mathlib.Core.Logic.{◌⊎◌, inl, inr, ◌↔◌}
use native.Mathlib.Omega.{arith}
use borrow.Author.Tests.{eqb-true, eq-eqb}
use lib.Dec.{eqb}
use lib.ListN.{length, get_or}
use Rattle.model.specs.Limits.{max_cells, max_calls}
use Rattle.model.specs.Lists.{In, NoDup}
use Rattle.model.specs.Job.{Job, Call, lift, call, call_of}
use Rattle.model.specs.Choke.{Point, point}
use Rattle.model.proofs.Basics.{nope}
use Rattle.model.proofs.Decide.{dec-lt}
use Rattle.model.proofs.Lists.{in_get_or, in_place, place_of, rising_of}
use Rattle.model.proofs.Lex.{lex_on}
use Rattle.model.proofs.Sharing.{every}
use Rattle.std.specs.Prelude.{Ok, Err}
use Rattle.std.proofs.Math.ListN.{get_or-map}
use Rattle.job.specs.declared.state.Job as lists
use Rattle.job.specs.declared.state.Call as held
use Rattle.job.specs.Lists.{as_call, job_of}
use Rattle.job.proofs.Lists.{no_call}
use Rattle.floor.specs.declared.tables.Tables.{Tables}
use Rattle.floor.specs.Tables.{Rows}
use Rattle.flow.specs.Flow.{Link, off, end}
use Rattle.flow.proofs.Flow.{empty_flow, flow_same}
use Rattle.network.specs.declared.planes.Grid.{Grid}
use Rattle.network.specs.Graph.{top, Inside, node_of, is_target}
use Rattle.network.specs.Store.{nodes, grid_of, idx, used_at, mark_at, is_used}
use Rattle.network.specs.Links.{back_link, on_link}
use Rattle.network.specs.Holds.{Holds}
use Rattle.network.proofs.ChokeTargets.{in_target}
use Rattle.network.proofs.NodeBytes.{link_off, link_end, used_byte, used_known}
use Rattle.network.proofs.Points.{point_cell, point_eq}
use Rattle.network.proofs.StoreBytes.{idx_below}
use Rattle.answer.proofs.Rising.{Precedes, precedes_apart, rising_once}
use Rattle.route.specs.declared.serve.Unserved.{Unserved}
use Rattle.route.specs.Search.{Fresh}
use Rattle.route.specs.Serve.{MarksUpTo, Serving, ServedBy}
use Rattle.planner.specs.Solved.{Begun, ServedAll}

-- The node of the i-th call in the order.
abbrev order_node : Job → List ℕ → ℕ → Point
order_node j order i = node_of j (call_of j (get_or order i 0))

-- It is the node of one of the first i.
abbrev Among : Job → List ℕ → ℕ → Point → Type 0
Among j order i v = (m : ℕ) × (m < i) × (v ≡ order_node j order m)

-- The flow serves the first i calls of the order and no other.
pub record SoFar (j : Job) (order s : List ℕ) (g : Grid) (i stamp : ℕ) : Type 0 where
  pub holds : Holds j g s
  pub high : stamp ≤ i + 1
  pub marks : MarksUpTo j s stamp
  pub fresh : i ≡ 0 → Fresh j s stamp
  pub served : (v : Point) → (on_link j s v ≡ end) ↔ Among j order i v

not_end : (l : Link Point) → l ≡ off → l ≡ end → ⊥
not_end l e f = nope (cc)

module _ {j : Job} {t : Tables} {order s₀ : List ℕ} {g : Grid} (b : Begun j t order s₀ g) where
  abbrev n : ℕ
  n = length j.calls

  -- At the start no node is used.
  blank : (v : ℕ) → v < nodes j → (used_at (grid_of j) s₀ v ≡ 0) × (mark_at (grid_of j) s₀ v ≡ 0)
  blank = rw b.grid at b.blank

  unused : (x : Point) → is_used j s₀ x ≡ false
  unused x = go (is_used j s₀ x) refl
    where
      go : (u : Bool) → is_used j s₀ x ≡ u → u ≡ false
      go false e = refl
      go true e = absurd (used_byte j s₀ x e (blank (idx j x) (idx_below j {x = x} (used_known j s₀ x e))).0)

  no_line : (x : Point) → on_link j s₀ x ≡ off
  no_line x = link_off (is_used j s₀ x) _ (unused x)

  pub so_far_none : SoFar j order s₀ g 0 1
  so_far_none = record {
    holds = record { ready = b.ready; grid = b.grid; room = b.room; flow = flow_same (λ x. link_off (is_used j s₀ x) _ (unused x)) no_line empty_flow };
    high = omega arith;
    marks = λ v l. omega (arith, (blank v l).1);
    fresh = λ _ v l e. omega (arith, (blank v l).1);
    served = λ v. (λ e. absurd (not_end (on_link j s₀ v) (no_line v) e), λ (m, l, e). absurd (omega arith));
  }

  -- The order has each number once.
  once : NoDup (map (λ q. q) order)
  once =
      rising_once (λ q. q) (Precedes j) (λ p q r. lex_on) (precedes_apart j) order
      (rising_of 0 (Precedes j) order (λ k l. b.ordered.rises k (omega (arith, b.ordered.size))))

  different : (a c : ℕ) → a < n → c < n → get_or order a 0 ≡ get_or order c 0 → a ≡ c
  different a c h l e = place_of (λ q. q) order once a c 0 (omega (arith, b.ordered.size)) (omega (arith, b.ordered.size)) e

  each : (k : ℕ) → k < n → (m : ℕ) × (m < n) × (get_or order m 0 ≡ k)
  each k h =
      let (q, i, e) = every (λ q. q) n order b.ordered.size once (λ q i. known q (in_place q order 0 i)) k h in
      let (m, l, f) = in_place q order 0 i in
      (m, omega (arith, b.ordered.size), sym f ∙ e)
    where
      known : (q : ℕ) → (m : ℕ) × (m < length order) × (q ≡ get_or order m 0) → q < n
      known q (m, l, f) = rw f (b.ordered.known m (omega (arith, b.ordered.size)))

  pub few : n ≤ max_calls
  few = b.ready.fit.few_calls

  -- What the guess is made from.
  pub aims : Rows g.cells t.near.near t.near.begin × (g.cells ≤ max_cells) × (g.cells ≤ g.nodes)
  aims = rw b.grid (b.tables.sides.rows, b.ready.fit.few_cells, omega arith)

  -- The i-th call.
  module _ {i : ℕ} (more : i < n) where
    abbrev q : ℕ
    q = get_or order i 0

    pub is_call : q < n
    is_call = b.ordered.known i more

    listed : In (call_of j q) j.calls
    listed = in_get_or j.calls q (call lift 0 0) is_call

    -- It is none of those before it: they have other numbers, so other cells.
    later : Among j order i (order_node j order i) → ⊥
    later (m, l, e) =
        let h : m < n = omega arith in
        let f : get_or order m 0 ≡ q = place_of (λ (c : Call). c.cell) j.calls b.ready.fit.own_targets (get_or order m 0) q (call lift 0 0) (b.ordered.known m h) is_call (sym (point_cell e)) in
        omega (arith, different m i h more f)

    -- The code has its cell in a local.
    module _ {p : ℕ} (target : p ≡ (call_of j q).cell) where
      abbrev x : Point
      x = point p g.top

      here : x ≡ order_node j order i
      here = point_eq target (ap (λ (h : Grid). h.top) b.grid)

      known : Inside j x
      known = subst (Inside j) (sym here) ((b.ready.fit.known_calls (call_of j q) listed).0, omega arith)

      is-target : is_target j x ≡ true
      is-target = ap (is_target j) here ∙ in_target j (call_of j q) listed

      pub call_cell : p < g.cells
      call_cell = rw b.grid known.0

      module _ {s : List ℕ} {stamp : ℕ} (v : SoFar j order s g i stamp) where
        free : back_link j s x ≡ off
        free = go (is_used j s x) refl
          where
            go : (u : Bool) → is_used j s x ≡ u → back_link j s x ≡ off
            go false e = link_off (is_used j s x) _ e
            go true e =
                let last : eqb x.step (top j) ≡ true = eq-eqb x.step (top j) (ap (λ (h : Grid). h.top) b.grid) in
                let a : Among j order i x = (v.served x).0 (link_end (is_used j s x) (eqb x.step (top j)) _ e last) in
                absurd (later (rw here at a))

        -- Its search may start.
        pub call_serving : Serving j t s g (point p g.top) stamp (eqb i 0)
        call_serving = record {
          search = record { tables = b.tables; holds = v.holds; known = known; target = is-target; idle = free };
          small = omega (arith, v.high, few);
          marks = v.marks;
          clean = λ e. v.fresh (eqb-true i 0 e);
        }

        pub call_served : {s' : List ℕ} {m : ℕ} → Holds j g s' × ServedBy j s s' stamp (point p g.top) (Ok m) → SoFar j order s' g (i + 1) m
        call_served {s'} {m} (holds, (hi, lo, marks, serves)) = record {
          holds = holds;
          high = omega (arith, v.high);
          marks = marks;
          fresh = λ z. absurd (omega arith);
          served = λ w. (λ z. there w ((serves w).0 z), λ a. (serves w).1 (back w a));
        }
          where
            there : (w : Point) → (on_link j s w ≡ end) ⊎ (w ≡ x) → Among j order (i + 1) w
            there w (inl z) = let (m, l, f) = (v.served w).0 z in (m, omega arith, f)
            there w (inr z) = (i, omega arith, z ∙ here)

            back : (w : Point) → Among j order (i + 1) w → (on_link j s w ≡ end) ⊎ (w ≡ x)
            back w (m, l, f) = go (dec-lt m i)
              where
                go : Dec (m < i) → (on_link j s w ≡ end) ⊎ (w ≡ x)
                go (yes h) = inl ((v.served w).1 (m, h, f))
                go (no h) = let z : m ≡ i = omega arith in inr (f ∙ ap (order_node j order) z ∙ sym here)

        -- It cannot be served, which ends it.
        pub call_failed : {s' : List ℕ} {e : Unserved} → Holds j g s' × ServedBy j s s' stamp (point p g.top) (Err e) → Holds j g s' × ServedAll j s' (Err e)
        call_failed {s'} {e} (holds, r) = (holds, (x, r.1))

  pub all_served : {s : List ℕ} {stamp i : ℕ} → i ≡ n → SoFar j order s g i stamp → {u : Unit} → ServedAll j s (Ok u)
  all_served e v c h =
      let (k, l, f) = in_place c j.calls (call lift 0 0) h in
      let (m, d, a) = each k l in
      (v.served (node_of j c)).1 (m, omega arith, ap (node_of j) (f ∙ ap (call_of j) (sym a)))

-- The cell of the call at a place of the order, as the code reads it.
pub target_is : (a : lists.Job) {calls : List held.Call} {u k p : ℕ} → calls ≡ a.calls.items → u ≡ k → p ≡ (get_or calls u no_call).cell → p ≡ (call_of (job_of a) k).cell
target_is a {k = k} e f g = g ∙ rw (e, f) (ap (λ (c : Call). c.cell) (sym (get_or-map as_call a.calls.items k no_call)))
