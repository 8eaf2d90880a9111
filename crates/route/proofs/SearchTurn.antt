-- One turn of the search's loop: what it needs, and that it keeps `Going`. The position on top of the stack is known; where it is no goal and nothing is found
-- from it, it is done and falls off; else what is found is one hop away and not marked, and goes on top. Assumes nothing.
use Prim.Native.Nat.{ℕ, suc, ◌+◌, ◌-◌, ◌<◌, ◌≤◌, min}
use mathlib.Core.Path.{◌≡◌, refl, sym, ◌∙◌, ap, subst, subst₂}
use mathlib.Core.List.{List}
use mathlib.Core.Logic.{◌⊎◌, inl, inr, ⊎_elim}
use mathlib.Core.Bool.{true, false, not}
use native.Mathlib.Omega.{arith}
use native.Mathlib.Decide.{ℕ_discrete}
use lib.Dec.{eqb}
use lib.ListN.{get_or}
use borrow.Author.Tests.{eqb-true, eqb-false, not-true, not-false}
use Rattle.model.specs.Job.{Job}
use Rattle.model.specs.Choke.{Point, point, Known}
use Rattle.model.proofs.Written.{few_steps}
use Rattle.model.proofs.Lists.{in_get_or}
use Rattle.floor.specs.declared.tables.Tables as floor
use Rattle.flow.specs.Flow.{Link}
use Rattle.network.specs.Graph.{graph, Inside}
use Rattle.network.specs.Store.{nodes, grid_of, idx, as_point, place_at, cell_at, step_at, via_at, mark_at, Spacious, Within}
use Rattle.network.specs.Holds.{Holds, SameFlow}
use Rattle.network.specs.declared.planes.Grid.{Grid}
use Rattle.network.specs.declared.planes.Node.{Node}
use Rattle.network.proofs.Points.{point_eq, point_step}
use Rattle.network.proofs.StoreBytes.{idx_below}
use Rattle.network.proofs.PlaneLaws.{pushes}
use Rattle.network.proofs.HoldsLaws.{back_same, holds_same, place_below}
use Rattle.std.specs.Prelude.{Option, None, Some}
use Rattle.route.specs.declared.search.Hop.{Hop}
use Rattle.route.specs.Lay.{pushed}
use Rattle.route.specs.Search.{Searching, Searched}
use Rattle.route.specs.Finds.{By, BySteps, first_of, From, Stamped, CallTries, Sees}
use Rattle.route.proofs.Stack.{pos_in}
use Rattle.route.proofs.SearchHops.{due_low, HopTo, found_hop, hop_found, via_known}
use Rattle.route.proofs.SearchFinds.{by_way}
use Rattle.route.proofs.SearchCount.{unmarked, unmarked_some}
use Rattle.route.proofs.SearchRuns.{Running, Marked, DoneIn, PushedIn, run_start, run_pop, run_push, run_falls, searched_none, searched_some}
use Rattle.route.proofs.SearchRuns.{DueLow, Latest, Tried, tried_start, tried_out, tried_pop, tried_anew, all_tried, tried_push}

-- The search is under way, y is on top of the stack, and of a call there the steps from `below` on were tried.
pub record Going (j : Job) (due s₁ s : List ℕ) (stamp soon : ℕ) (x : Point) (d : ℕ) (y : Point) (below ahead : ℕ) : Type 0 where
  pub run : Running j s₁ s stamp x d
  pub tried : Tried j s due stamp soon d below
  pub aim : (ahead ≡ soon) ⊎ (ahead ≡ (grid_of j).top)
  pub top : 0 < d → y ≡ pos_in j s (d - 1)

-- A search may start from a store with the same flow too.
pub may_search : {j : Job} {T : floor.Tables} {s t : List ℕ} {g : Grid} {x : Point} → SameFlow (grid_of j) s t
    → Searching j T s g x → Searching j T t g x
may_search {j} {x = x} same h = record {
  tables = h.tables;
  holds = holds_same h.holds same;
  known = h.known;
  target = h.target;
  idle = ap (λ (l : Point → Link Point). l x) (back_same j same) ∙ h.idle;
}

push_in : (j : Job) {g : Grid} {s t : List ℕ} {d : ℕ} {x via : Point} {stamp : ℕ} → g ≡ grid_of j → Spacious g s → Inside j x → d < nodes j → t ≡ pushed g s d x via stamp
    → PushedIn j s t d x via stamp
push_in j {g} {s} {t} {d} {x} {via} {stamp} q r k l e =
    let e' : t ≡ pushed (grid_of j) s d x via stamp = rw q at e in
    rw e' (pushes (grid_of j) s (rw q at r) (idx j x) stamp d x via (idx_below j k) l)

top_pushed : (j : Job) (s t : List ℕ) (d : ℕ) (x via : Point) (stamp : ℕ) → PushedIn j s t d x via stamp → x ≡ pos_in j t (d + 1 - 1)
top_pushed j s t d x via stamp p = let e : d + 1 - 1 ≡ d = omega arith in rw e (point_eq (sym p.cell.here) (sym p.step.here))

-- The first push may be made.
pub first_needs : {j : Job} {T : floor.Tables} {s : List ℕ} {g : Grid} {x : Point} → Searching j T s g x
    → Within g s 0 × (place_at g x < g.nodes) × (x.cell < 256) × (x.step < 65536) × (0 < 256) × (0 < 256)
first_needs {j} h =
    let f = h.holds.ready.fit in
    let p = place_below h.holds h.known in
    ((h.holds.room, omega arith), p, omega (arith, h.known.0, f.few_cells), omega (arith, h.known.1, few_steps j f), omega arith, omega arith)

-- From the first push on.
module _ {j : Job} {T : floor.Tables} {s s₁ : List ℕ} {g : Grid} {x : Point} (stamp : ℕ) (e : s₁ ≡ pushed g s 0 x (point 0 0) stamp)
    (h : Searching j T s g x) where
  first : PushedIn j s s₁ 0 x (point 0 0) stamp
  first = push_in j h.holds.grid h.holds.room h.known (omega (arith, idx_below j h.known)) e

  pub begun : Searching j T s₁ g x
  begun = may_search first.same h

  module _ {t : List ℕ} {d : ℕ} (r : Running j s₁ t stamp x d) where
    pub ends_none : d ≡ 0 → Searched j s t stamp x None
    ends_none = searched_none h.target h.idle first r

    pub ends_some : (m : ℕ) → d ≡ suc m → (graph j).Goal (pos_in j t m) → Searched j s t stamp x (Some d)
    ends_some = searched_some h.target h.idle first r

low : {j : Job} {T : floor.Tables} {s : List ℕ} {g : Grid} {x : Point} → Searching j T s g x → DueLow j T.due
low h = due_low h.holds.ready.fit h.tables

pub under_way : {j : Job} {T : floor.Tables} (s : List ℕ) {s₁ : List ℕ} {g : Grid} {x : Point} (stamp soon : ℕ) → s₁ ≡ pushed g s 0 x (point 0 0) stamp → Spacious g s
    → Searching j T s₁ g x → Going j T.due s₁ s₁ stamp soon x 1 x g.top soon
under_way {j} s {s₁} {x = x} stamp soon e r h =
    let p : PushedIn j s s₁ 0 x (point 0 0) stamp = push_in j h.holds.grid r h.known (omega (arith, idx_below j h.known)) e in
    let run = run_start (rw h.holds.grid at h.holds) h.known p in
    rw h.holds.grid (record { run = run; tried = tried_start (low h) (run.dfs.marked 0 (omega arith)).0; aim = inl refl; top = λ z. top_pushed j s s₁ 0 x (point 0 0) stamp p })

-- What is at hand in a turn at the position y.
pub record Turn (j : Job) (T : floor.Tables) (g : Grid) (s₁ s : List ℕ) (x : Point) (stamp soon d : ℕ) (y : Point) (below ahead : ℕ) : Type 0 where
  pub for : Searching j T s₁ g x
  pub going : Going j T.due s₁ s stamp soon x d y below ahead
  pub some : 0 < d

module _ {j : Job} {T : floor.Tables} {g : Grid} {s₁ s : List ℕ} {x : Point} {stamp soon d : ℕ} {y : Point} {below ahead : ℕ}
    (w : Turn j T g s₁ s x stamp soon d y below ahead) where
  top : y ≡ pos_in j s (d - 1)
  top = w.going.top w.some

  marked : Marked j s stamp (pos_in j s (d - 1))
  marked = w.going.run.dfs.marked (d - 1) (omega (arith, w.some))

  pub top_inside : Inside j y
  top_inside = subst (λ z. Inside j z) (sym top) marked.0

  pub holds : Holds j g s
  holds = rw w.for.holds.grid w.going.run.holds

  pub top_due : get_or T.due y.cell 0 ≤ g.top
  top_due = rw w.for.holds.grid (low w.for y.cell top_inside.0)

  pub entry_within : {i : ℕ} → i < d → Within g s i
  entry_within l = (holds.room, rw w.for.holds.grid (omega (arith, w.going.run.room)))

  pub is_goal : y.step ≡ 0 → not (eqb (get_or T.cart_on y.cell 0) 0) ≡ true → (graph j).Goal (pos_in j s (d - 1))
  is_goal e ne =
      let f = eqb-false (get_or T.cart_on y.cell 0) 0 (not-true (eqb (get_or T.cart_on y.cell 0) 0) ne) in
      let r = w.for.tables.carts.cart y.cell top_inside.0 (omega arith) in
      subst (λ z. (graph j).Goal z) top (e, rw r.1 at (in_get_or j.carts (get_or T.cart_on y.cell 0 - 1) 0 r.0))

  pub no_goal : (y.step ≡ 0 → not (eqb (get_or T.cart_on y.cell 0) 0) ≡ false) → (graph j).Goal (pos_in j s (d - 1)) → ⊥
  no_goal none g =
      let h : (graph j).Goal y = subst (λ (z : Point). (graph j).Goal z) (sym top) g in
      omega (arith, eqb-true (get_or T.cart_on y.cell 0) 0 (not-false (eqb (get_or T.cart_on y.cell 0) 0) (none h.0)), w.for.tables.carts.has_cart y.cell h.1)

-- What was found in the turn; and the position is no goal.
pub record Looked (j : Job) (T : floor.Tables) (g : Grid) (s₁ s : List ℕ) (x : Point) (stamp soon d : ℕ) (y : Point) (below ahead : ℕ) (r : Option Hop) : Type 0 where
  pub turn : Turn j T g s₁ s x stamp soon d y below ahead
  pub sees : Sees g s T y below ahead stamp r
  pub dull : (graph j).Goal (pos_in j s (d - 1)) → ⊥

module _ {j : Job} {T : floor.Tables} {g : Grid} {s₁ s : List ℕ} {x : Point} {stamp soon d : ℕ} {y : Point} {below ahead : ℕ} {r : Option Hop}
    (k : Looked j T g s₁ s x stamp soon d y below ahead r) where
  sees' : Sees (grid_of j) s T (pos_in j s (d - 1)) below ahead stamp r
  sees' = subst₂ (λ g y. Sees g s T y below ahead stamp r) k.turn.for.holds.grid (top k.turn) k.sees

  depth : d ≡ suc (d - 1)
  depth = omega (arith, k.turn.some)

  run' : Running j s₁ s stamp x (suc (d - 1))
  run' = rw depth at k.turn.going.run

  abbrev FromTop : Point → Point → Type 0
  FromTop z via = From (grid_of j) s T.near.near T.near.begin T.due T.shut (pos_in j s (d - 1)) z via

  module _ (e : r ≡ None) where
    none : (z via : Point) → FromTop z via → Stamped (grid_of j) s stamp z
    none z via (inl (c, b)) =
        all_tried k.turn.going.tried (sym depth) c (first_of T.due T.shut (pos_in j s (d - 1)).cell) (⊎_elim (λ a. a) (λ a. absurd a) (rw e at (sees'.call c))) z via b
    none z via (inr (ne, b)) = (rw e at (sees'.node ne)) z via b

    done : DoneIn j s stamp (pos_in j s (d - 1))
    done u z a b =
        ⊎_elim (λ q. subst (λ z. Marked j s stamp z) (sym q) (marked k.turn)) (λ q. (q.0, none z q.1.0 q.1.1))
        (hop_found k.turn.going.run.holds k.turn.for.tables (pos_in j s (d - 1)) (marked k.turn).0 u z a b)

    -- The position falls off, and what the code reads off the stack is on top. Where it was left by way of the step `soon`, it begins anew.
    module _ {v : Node} (ec : v.cell ≡ cell_at g s (d - 1 - 1)) (es : v.step ≡ step_at g s (d - 1 - 1)) where
      popped : {below' : ℕ} → Tried j s T.due stamp soon (d - 1) below' → Going j T.due s₁ s stamp soon x (d - 1) (as_point v) below' g.top
      popped q =
          let ec' : v.cell ≡ cell_at (grid_of j) s (d - 1 - 1) = rw k.turn.for.holds.grid at ec in
          let es' : v.step ≡ step_at (grid_of j) s (d - 1 - 1) = rw k.turn.for.holds.grid at es in
          record { run = run_pop run' k.dull done; tried = q; aim = inr (ap (λ (g : Grid). g.top) k.turn.for.holds.grid); top = λ z. point_eq ec' es' }

      pub turn_pop : 0 < d - 1 → {left : Node} → as_point left ≡ via_at g s (d - 1) → (left.step ≡ soon → ⊥) → Going j T.due s₁ s stamp soon x (d - 1) (as_point v) left.step g.top
      turn_pop some {left} el ne =
          let el' : left.step ≡ (via_at (grid_of j) s (d - 1)).step = point_step (rw k.turn.for.holds.grid at el) in
          popped (rw el' (tried_pop k.turn.going.tried some (rw el' at ne)))

      pub turn_anew : Going j T.due s₁ s stamp soon x (d - 1) (as_point v) g.top g.top
      turn_anew = popped (rw k.turn.for.holds.grid (tried_anew k.turn.going.tried (low k.turn.for) (λ i h. (k.turn.going.run.dfs.marked i (omega arith)).0)))

    pub turn_out : d - 1 ≡ 0 → Going j T.due s₁ s stamp soon x (d - 1) y below g.top
    turn_out out = record {
      run = run_pop run' k.dull done;
      tried = tried_out out;
      aim = inr (ap (λ (g : Grid). g.top) k.turn.for.holds.grid);
      top = λ z. absurd (omega arith);
    }

  module _ (u : Hop) (e : r ≡ Some u) where
    abbrev v : Node
    v = u.node

    abbrev via : Node
    via = u.via

    some : FromTop (as_point v) (as_point via) × (Stamped (grid_of j) s stamp (as_point v) → ⊥)
    some = go (ℕ_discrete (pos_in j s (d - 1)).step (grid_of j).top)
      where
        go : Dec ((pos_in j s (d - 1)).step ≡ (grid_of j).top) → FromTop (as_point v) (as_point via) × (Stamped (grid_of j) s stamp (as_point v) → ⊥)
        go (yes c) = ⊎_elim (λ w. by_step w.0 w.1) (λ w. by_step w.0 w.1) (rw e at (sees'.call c))
          where
            by_step : let c = (pos_in j s (d - 1)).cell in BySteps (grid_of j) s c (first_of T.due T.shut c) (min (get_or T.due c 0) below) (as_point v) (as_point via)
                → (Stamped (grid_of j) s stamp (as_point v) → ⊥) → FromTop (as_point v) (as_point via) × (Stamped (grid_of j) s stamp (as_point v) → ⊥)
            by_step (t, l, m, b) f = (inl (c, (t, l, omega arith, b)), f)
        go (no ne) = let (b, f) = rw e at (sees'.node ne) in (inr (ne, b), f)

    -- Where it is by way of a step other than `soon`, the later ones were tried: what is tried first is `soon`, or no step of a cell.
    latest : (via.step ≡ soon → ⊥) → (pos_in j s (d - 1)).step ≡ (grid_of j).top → Latest j s T.due stamp (pos_in j s (d - 1)).cell below (as_point v) (as_point via)
    latest ne c = go (rw e at (sees'.call c))
      where
        low' : get_or T.due (pos_in j s (d - 1)).cell 0 ≤ (grid_of j).top
        low' = low k.turn.for (pos_in j s (d - 1)).cell (marked k.turn).0.0

        go : CallTries (grid_of j) s T.due T.shut (pos_in j s (d - 1)).cell below ahead (Stamped (grid_of j) s stamp) (Some u)
            → Latest j s T.due stamp (pos_in j s (d - 1)).cell below (as_point v) (as_point via)
        go (inl ((t, l, m, b), f, a)) =
            let q = point_step (by_way (grid_of j) s b) in
            record { by = subst (λ t. By (grid_of j) s (point (pos_in j s (d - 1)).cell t) (as_point v) (as_point via)) (sym q) b; soon = omega arith; later = a }
        go (inr ((t, l, m, b), f, a)) =
            let q = point_step (by_way (grid_of j) s b) in
            absurd (⊎_elim (λ g. ne (a ∙ g)) (λ g. omega (arith, low')) k.turn.going.aim)

    hop : HopTo j s (pos_in j s (d - 1)) (as_point via) (as_point v)
    hop = found_hop k.turn.going.run.holds k.turn.for.tables (pos_in j s (d - 1)) (marked k.turn).0 (as_point v) (as_point via) some.0

    by_known : Known j (as_point via)
    by_known = via_known k.turn.going.run.holds k.turn.for.tables (pos_in j s (d - 1)) (marked k.turn).0 (as_point v) (as_point via) some.0

    deep : d < nodes j
    deep = omega (arith, k.turn.going.run.room, unmarked_some stamp (mark_at (grid_of j) s) (nodes j) (idx j (as_point v)) (idx_below j hop.known) some.1)

    pub push_needs : Within g s d × (place_at g (as_point v) < g.nodes) × (v.cell < 256) × (v.step < 65536) × (via.cell < 256) × (via.step < 256)
    push_needs =
        let a = hop.known in
        let f = k.turn.for.holds.ready.fit in (
          ((holds k.turn).room, rw k.turn.for.holds.grid deep),
          place_below (holds k.turn) a,
          omega (arith, a.0, f.few_cells),
          omega (arith, a.1, few_steps j f),
          omega (arith, by_known.0, f.few_cells),
          omega (arith, by_known.1, few_steps j f),
        )

    module _ (s' : List ℕ) (q : s' ≡ pushed g s d (as_point v) (as_point via) stamp) where
      p : PushedIn j s s' d (as_point v) (as_point via) stamp
      p = push_in j k.turn.for.holds.grid (holds k.turn).room hop.known deep q

      p' : PushedIn j s s' (suc (d - 1)) (as_point v) (as_point via) stamp
      p' = rw depth at p

      pub turn_falls : unmarked (mark_at g s) stamp g.nodes ≡ suc (unmarked (mark_at g s') stamp g.nodes)
      turn_falls = rw k.turn.for.holds.grid (run_falls run' k.dull hop some.1 p')

      pub turn_push : Going j T.due s₁ s' stamp soon x (d + 1) (as_point v) g.top g.top
      turn_push =
          let f : d + 1 ≡ suc (suc (d - 1)) = omega (arith, k.turn.some) in
          rw k.turn.for.holds.grid (record {
            run = rw f (run_push run' k.dull hop some.1 p');
            tried = rw f (tried_push run' k.dull hop some.1 p' (low k.turn.for) (rw depth at k.turn.going.tried) latest);
            aim = inr refl;
            top = λ z. top_pushed j s s' d (as_point v) (as_point via) stamp p;
          })
