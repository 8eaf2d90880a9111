-- The search under way, in its bytes. `Running` holds from the first push on: the planes of the flow are as they were, marks changed only to the stamp, the
-- unmarked nodes and the stack together are no more than the nodes, and the stack is that of a depth-first search (SearchStack). `Tried` holds beside it: a call on
-- the stack is left by way of the steps of its cell one after the other, and by way of those tried all is marked. A push and a pop keep both; from them follows what
-- the search ensures, where it finds a goal and where the stack is empty. Assumes nothing.
use Prim.Native.Nat.{ℕ, suc, ◌+◌, ◌-◌, ◌<◌, ◌≤◌, min}
use mathlib.Core.Path.{◌≡◌, refl, sym, ◌∙◌, ap, subst, subst₂}
use mathlib.Core.List.{List}
use mathlib.Core.Logic.{◌⊎◌, inl, inr, ⊎_elim}
use mathlib.Core.Bool.{true, cond}
use native.Mathlib.Omega.{arith}
use native.Mathlib.Decide.{ℕ_discrete}
use lib.Dec.{eqb}
use lib.ListN.{get_or}
use borrow.Author.Tests.{eqb-true, eq-eqb}
use Rattle.model.specs.Job.{Job}
use Rattle.model.specs.Choke.{Point, point}
use Rattle.model.proofs.Basics.{and_left, and_right, and_both}
use Rattle.model.proofs.Decide.{dec-lt}
use Rattle.flow.specs.Flow.{Link, off, arr, dep}
use Rattle.network.specs.Graph.{graph, is_target, top, Inside}
use Rattle.network.specs.Store.{nodes, grid_of, idx, used_at, mark_at, via_at, meets, leads_to, inside, is_marked}
use Rattle.network.specs.Links.{back_link, on_link}
use Rattle.network.specs.Holds.{Holds, SameFlow}
use Rattle.network.proofs.Points.{point_eq}
use Rattle.network.proofs.StoreBytes.{idx_one, idx_below}
use Rattle.network.proofs.NodeBytes.{inside_test, test_inside}
use Rattle.network.proofs.PlaneLaws.{SetAt, Pushed}
use Rattle.network.proofs.HoldsLaws.{leads_on, back_same, on_same, holds_same}
use Rattle.std.specs.Prelude.{None, Some}
use Rattle.route.specs.Search.{MarksOr, Fresh, Searched}
use Rattle.route.specs.Finds.{By}
use Rattle.route.proofs.Stack.{pos_in, via_in, hop_in, hops_in, ArcIn}
use Rattle.route.proofs.SearchFinds.{by_one, StepsMarked, steps_more}
use Rattle.route.proofs.SearchHops.{HopTo}
use Rattle.route.proofs.SearchStack.{Done, Dfs, dfs_start, dfs_pop, dfs_push, dfs_way}
use Rattle.route.proofs.SearchCount.{unmarked, unmarked_less, unmarked_falls}

abbrev pub Marked : Job → List ℕ → ℕ → Point → Type 0
Marked j s stamp v = Inside j v × (mark_at (grid_of j) s (idx j v) ≡ stamp)

-- All that is two arcs from v is marked.
abbrev pub DoneIn : Job → List ℕ → ℕ → Point → Type 0
DoneIn j s stamp v = Done (graph j) (back_link j s) (on_link j s) (Marked j s stamp) v

-- Nothing but x is marked.
abbrev pub Lone : Job → List ℕ → ℕ → Point → Type 0
Lone j s stamp x = (v : ℕ) → v < nodes j → mark_at (grid_of j) s v ≡ stamp → v ≡ idx j x

-- s₁ is the store after the first push.
pub record Running (j : Job) (s₁ s : List ℕ) (stamp : ℕ) (x : Point) (d : ℕ) : Type 0 where
  pub holds : Holds j (grid_of j) s
  pub same : SameFlow (grid_of j) s₁ s
  pub marks : MarksOr (grid_of j) s₁ s stamp
  pub room : d + unmarked (mark_at (grid_of j) s) stamp (nodes j) ≤ nodes j
  pub dfs : Dfs (graph j) (back_link j s) (on_link j s) (Lone j s₁ stamp x) (Marked j s stamp) (pos_in j s) (via_in j s) x d

-- The node x was marked and put on the stack at depth d.
abbrev pub PushedIn : Job → List ℕ → List ℕ → ℕ → Point → Point → ℕ → Type 0
PushedIn j s t d x via stamp = Pushed (grid_of j) s t (idx j x) stamp d x via

module _ (j : Job) {s t u : List ℕ} where
  same_more : SameFlow (grid_of j) s t → SameFlow (grid_of j) t u → SameFlow (grid_of j) s u
  same_more a b = record {
    long = b.long ∙ a.long;
    used = λ v h. b.used v h ∙ a.used v h;
    next = λ v h. b.next v h ∙ a.next v h;
    prev = λ v h. b.prev v h ∙ a.prev v h;
  }

marks_then : (j : Job) (s t u : List ℕ) (b : ℕ) → MarksOr (grid_of j) s t b → MarksOr (grid_of j) t u b → MarksOr (grid_of j) s u b
marks_then j s t u b m n v h = ⊎_elim (λ e. ⊎_elim (λ f. inl (e ∙ f)) (λ f. inr (e ∙ f)) (m v h)) inr (n v h)

wrote_marks : (j : Job) (s t : List ℕ) (w b : ℕ) → SetAt (nodes j) w b (mark_at (grid_of j) s) (mark_at (grid_of j) t) → MarksOr (grid_of j) s t b
wrote_marks j s t w b p v h = go (ℕ_discrete v w)
  where
    go : Dec (v ≡ w) → (mark_at (grid_of j) t v ≡ mark_at (grid_of j) s v) ⊎ (mark_at (grid_of j) t v ≡ b)
    go (yes e) = inr (rw e p.here)
    go (no ne) = inl (p.else v h ne)

-- By way of the steps of the call v from `first` on all is marked.
abbrev pub TriedFrom : Job → List ℕ → List ℕ → ℕ → Point → ℕ → Type 0
TriedFrom j s due stamp v first = v.step ≡ top j → StepsMarked (grid_of j) s v.cell stamp first (get_or due v.cell 0)

-- What the calls on the stack have tried: one that was left by way of a step of its cell other than `soon`, that step and all later ones; one on top, those from `below` on.
pub record Tried (j : Job) (s due : List ℕ) (stamp soon d below : ℕ) : Type 0 where
  pub left : (i : ℕ) → suc i < d → ((via_in j s i).step ≡ soon → ⊥) → TriedFrom j s due stamp (pos_in j s i) (via_in j s i).step
  pub top : (i : ℕ) → suc i ≡ d → TriedFrom j s due stamp (pos_in j s i) below

-- No deadline is past the last step.
abbrev pub DueLow : Job → List ℕ → Type 0
DueLow j due = (c : ℕ) → c < j.cells → get_or due c 0 ≤ top j

-- From the call on c one gets to y by way of a step of its cell; by way of the later ones, to before `below`, all is marked.
pub record Latest (j : Job) (s due : List ℕ) (stamp c below : ℕ) (y via : Point) : Type 0 where
  pub by : By (grid_of j) s (point c via.step) y via
  pub soon : via.step < get_or due c 0
  pub later : StepsMarked (grid_of j) s c stamp (via.step + 1) (min (get_or due c 0) below)

-- A call that comes on top has nothing to have tried: no step is as late as its layer.
tried_none : (j : Job) (s due : List ℕ) (stamp : ℕ) → DueLow j due → (v : Point) → Inside j v → TriedFrom j s due stamp v (top j)
tried_none j s due stamp low v k e y w (t, l, m, b) = absurd (omega (arith, low v.cell k.0))

pub tried_start : {j : Job} {s due : List ℕ} {stamp soon : ℕ} → DueLow j due → Inside j (pos_in j s 0) → Tried j s due stamp soon 1 (top j)
tried_start {j} {s} {due} {stamp} low k = record { left = λ i h. absurd (omega arith); top = λ i e. let z : i ≡ 0 = omega arith in rw z (tried_none j s due stamp low (pos_in j s 0) k) }

pub tried_out : {j : Job} {s due : List ℕ} {stamp soon d below : ℕ} → d ≡ 0 → Tried j s due stamp soon d below
tried_out z = record { left = λ i h. absurd (omega arith); top = λ i e. absurd (omega arith) }

module _ {j : Job} {s due : List ℕ} {stamp soon d below : ℕ} (q : Tried j s due stamp soon d below) where
  pub tried_pop : 0 < d - 1 → ((via_at (grid_of j) s (d - 1)).step ≡ soon → ⊥) → Tried j s due stamp soon (d - 1) (via_at (grid_of j) s (d - 1)).step
  tried_pop h ne = record { left = λ i l. q.left i (omega arith); top = λ i e. rw (sym e) (q.left i (omega arith) (rw (sym e) at ne)) }

  -- Or it begins anew.
  pub tried_anew : DueLow j due → ((i : ℕ) → suc i < d → Inside j (pos_in j s i)) → Tried j s due stamp soon (d - 1) (top j)
  tried_anew low known = record { left = λ i l. q.left i (omega arith); top = λ i e. tried_none j s due stamp low (pos_in j s i) (known i (omega arith)) }

  -- With what was tried before, what is tried now is all of the window.
  module _ {i : ℕ} (e : suc i ≡ d) (call : (pos_in j s i).step ≡ top j) where
    pub all_tried : (first : ℕ) → StepsMarked (grid_of j) s (pos_in j s i).cell stamp first (min (get_or due (pos_in j s i).cell 0) below)
        → StepsMarked (grid_of j) s (pos_in j s i).cell stamp first (get_or due (pos_in j s i).cell 0)
    all_tried first a y w (t, l, m, b) = go (dec-lt t below)
      where
        go : Dec (t < below) → mark_at (grid_of j) s (idx j y) ≡ stamp
        go (yes n) = a y w (t, l, omega arith, b)
        go (no n) = q.top i e call y w (t, omega arith, m, b)

module _ {j : Job} {s t : List ℕ} (h : Holds j (grid_of j) s) (same : SameFlow (grid_of j) s t) where
  by_kept : {c k : ℕ} → c < j.cells → k < top j → {y w : Point} → By (grid_of j) t (point c k) y w → By (grid_of j) s (point c k) y w × Inside j y
  by_kept {c} {k} l m {y} {w} b = go b
    where
      x : Point
      x = point c k

      in_x : Inside j x
      in_x = (l, omega arith)

      used : used_at (grid_of j) t (idx j x) ≡ used_at (grid_of j) s (idx j x)
      used = same.used (idx j x) (idx_below j in_x)

      leads : leads_to (grid_of j) t x ≡ leads_to (grid_of j) s x
      leads = λ i. cond (eqb (used i) meets) (point c (top j)) (point (same.next (idx j x) (idx_below j in_x) i) (k + 1))

      go : By (grid_of j) t x y w → By (grid_of j) s x y w × Inside j y
      go (inl (e, u, f)) = (inl (e, sym used ∙ u, f), rw f in_x)
      go (inr (e, u, f)) =
          let u' : used_at (grid_of j) s (idx j x) ≡ 0 → ⊥ = λ z. u (used ∙ z) in
          let f' : y ≡ leads_to (grid_of j) s x = f ∙ leads in
          (inr (e, u', f'), rw f' (leads_on h in_x (λ (q : k ≡ top j). omega arith) u').1)

  -- What is marked by way of the steps of a call stays so, where marks are added only.
  steps_kept : {stamp : ℕ} → ((v : Point) → Marked j s stamp v → Marked j t stamp v) → {c first past : ℕ} → c < j.cells → past ≤ top j
      → StepsMarked (grid_of j) s c stamp first past → StepsMarked (grid_of j) t c stamp first past
  steps_kept keeps l n a y w (k, f, m, b) = let (b', i) = by_kept l (omega arith) b in (keeps y (i, a y w (k, f, m, b'))).1

module _ {j : Job} {stamp : ℕ} {x : Point} where
  pub run_start : {s s₁ : List ℕ} → Holds j (grid_of j) s₁ → Inside j x → {via : Point} → PushedIn j s s₁ 0 x via stamp → Running j s₁ s₁ stamp x 1
  run_start {s} {s₁} h k p = record {
    holds = h;
    same = record { long = refl; used = λ v h. refl; next = λ v h. refl; prev = λ v h. refl };
    marks = λ v h. inl refl;
    room = omega (arith, unmarked_less stamp (mark_at (grid_of j) s₁) (nodes j) (idx j x) (idx_below j k) p.mark.here);
    dfs = dfs_start (graph j) (back_link j s₁) (on_link j s₁) (Lone j s₁ stamp x) (Marked j s₁ stamp) (pos_in j s₁) (via_in j s₁) x
        (k, p.mark.here) (λ f v m. idx_one j m.0 k (f (idx j v) (idx_below j m.0) m.1)) (point_eq p.cell.here p.step.here);
  }

  module _ {s₁ s : List ℕ} {m : ℕ} (r : Running j s₁ s stamp x (suc m)) (dull : (graph j).Goal (pos_in j s m) → ⊥) where
    pub run_pop : DoneIn j s stamp (pos_in j s m) → Running j s₁ s stamp x m
    run_pop dn = record {
      holds = r.holds;
      same = r.same;
      marks = r.marks;
      room = omega (arith, r.room);
      dfs = dfs_pop (graph j) (back_link j s) (on_link j s) (Lone j s₁ stamp x) r.dfs dull dn;
    }

    module _ {t : List ℕ} {y via : Point} (hop : HopTo j s (pos_in j s m) via y)
        (free : mark_at (grid_of j) s (idx j y) ≡ stamp → ⊥) (p : PushedIn j s t (suc m) y via stamp) where
      pub run_falls : unmarked (mark_at (grid_of j) s) stamp (nodes j) ≡ suc (unmarked (mark_at (grid_of j) t) stamp (nodes j))
      run_falls = unmarked_falls stamp (mark_at (grid_of j) s) (mark_at (grid_of j) t) (nodes j) (idx j y) (idx_below j hop.known) free p.mark.here p.mark.else

      below : (i : ℕ) → i < suc m → i < nodes j
      below i h = omega (arith, r.room)

      old_pos : (i : ℕ) → i < suc m → pos_in j t i ≡ pos_in j s i
      old_pos i h = point_eq (p.cell.else i (below i h) (λ e. omega arith)) (p.step.else i (below i h) (λ e. omega arith))

      new_pos : pos_in j t (suc m) ≡ y
      new_pos = point_eq p.cell.here p.step.here

      old_via : (i : ℕ) → suc i < suc m → via_in j t i ≡ via_in j s i
      old_via i h = p.way.else (suc i) (below (suc i) h) (λ e. omega arith)

      new_via : via_in j t m ≡ via
      new_via = p.way.here

      keeps : (v : Point) → Marked j s stamp v → Marked j t stamp v
      keeps v (k, e) = (k, ⊎_elim (λ f. f ∙ e) (λ f. f) (wrote_marks j s t (idx j y) stamp p.mark (idx j v) (idx_below j k)))

      only : (v : Point) → Marked j t stamp v → Marked j s stamp v ⊎ (v ≡ y)
      only v (k, e) = go (ℕ_discrete (idx j v) (idx j y))
        where
          go : Dec (idx j v ≡ idx j y) → Marked j s stamp v ⊎ (v ≡ y)
          go (yes f) = inr (idx_one j k hop.known f)
          go (no ne) = inl (k, sym (p.mark.else (idx j v) (idx_below j k) ne) ∙ e)

      pub run_push : Running j s₁ t stamp x (suc (suc m))
      run_push = record {
        holds = holds_same r.holds p.same;
        same = same_more j r.same p.same;
        marks = marks_then j s₁ s t stamp r.marks (wrote_marks j s t (idx j y) stamp p.mark);
        room = omega (arith, r.room, run_falls);
        dfs = subst₂ (λ b o. Dfs (graph j) b o (Lone j s₁ stamp x) (Marked j t stamp) (pos_in j t) (via_in j t) x (suc (suc m))) (sym (back_same j p.same)) (sym (on_same j p.same))
            (dfs_push (graph j) (back_link j s) (on_link j s) (Lone j s₁ stamp x) r.dfs dull (λ (q : Marked j s stamp y). free q.1) keeps (hop.known, p.mark.here) only
            old_pos new_pos old_via (subst (λ w. ArcIn j s (dep (pos_in j s m)) (arr w)) (sym new_via) hop.there) (subst (λ w. ArcIn j s (arr w) (dep y)) (sym new_via) hop.then));
      }

      -- What the calls on the stack have tried, after it too.
      module _ {due : List ℕ} {soon below : ℕ} (low : DueLow j due) (q : Tried j s due stamp soon (suc m) below)
          (latest : (via.step ≡ soon → ⊥) → (pos_in j s m).step ≡ top j → Latest j s due stamp (pos_in j s m).cell below y via) where
        known : (i : ℕ) → i < suc m → (pos_in j s i).cell < j.cells
        known i h = (r.dfs.marked i h).0.0

        kept : (i : ℕ) → i < suc m → (first : ℕ) → TriedFrom j s due stamp (pos_in j s i) first → TriedFrom j t due stamp (pos_in j s i) first
        kept i h first a e = steps_kept r.holds p.same keeps (known i h) (low (pos_in j s i).cell (known i h)) (a e)

        -- By way of the step that was found one gets to the position that is marked now, and by way of the later ones all was marked.
        here : (via.step ≡ soon → ⊥) → TriedFrom j t due stamp (pos_in j s m) via.step
        here ne e =
            steps_more (grid_of j) t c stamp (via.step + 1) (get_or due c 0) (kept m (omega arith) (via.step + 1) (λ e. all_tried q refl e (via.step + 1) (latest ne e).later) e)
            via.step (omega arith) (λ z w b. rw (by_one (grid_of j) s (latest ne e).by (by_kept r.holds p.same in_c early b).0) p.mark.here)
          where
            c : ℕ
            c = (pos_in j s m).cell

            in_c : c < j.cells
            in_c = known m (omega arith)

            early : via.step < top j
            early = omega (arith, (latest ne e).soon, low c in_c)

        abbrev LeftTried : Point → Point → Type 0
        LeftTried v w = (w.step ≡ soon → ⊥) → TriedFrom j t due stamp v w.step

        pub tried_push : Tried j t due stamp soon (suc (suc m)) (top j)
        tried_push = record {
          left = λ i h. left i h (ℕ_discrete i m);
          top = λ i e. let z : i ≡ suc m = omega arith in rw z (subst (λ v. TriedFrom j t due stamp v (top j)) (sym new_pos) (tried_none j t due stamp low y hop.known));
        }
          where
            left : (i : ℕ) → suc i < suc (suc m) → Dec (i ≡ m) → LeftTried (pos_in j t i) (via_in j t i)
            left i h (yes z) = rw z (subst₂ LeftTried (sym (old_pos m (omega arith))) (sym new_via) here)
            left i h (no z) =
                subst₂ LeftTried (sym (old_pos i (omega arith))) (sym (old_via i (omega arith)))
                (λ ne. kept i (omega arith) (via_in j s i).step (q.left i (omega arith) ne))

mark_test : (j : Job) (s : List ℕ) (stamp : ℕ) (v : Point) → Marked j s stamp v → is_marked j s stamp v ≡ true
mark_test j s stamp v (k, e) = and_both (inside j v) (eqb (mark_at (grid_of j) s (idx j v)) stamp) (inside_test j v k) (eq-eqb _ _ e)

test_mark : (j : Job) (s : List ℕ) (stamp : ℕ) (v : Point) → is_marked j s stamp v ≡ true → Marked j s stamp v
test_mark j s stamp v e =
    let m = eqb (mark_at (grid_of j) s (idx j v)) stamp in
    (test_inside j v (and_left (inside j v) m e), eqb-true _ _ (and_right (inside j v) m e))

-- The search, from the store s to the store t, by way of s₁ after the first push.
module _ {j : Job} {s s₁ t : List ℕ} {stamp : ℕ} {x : Point} (target : is_target j x ≡ true) (idle : back_link j s x ≡ off)
    {via : Point} (p : PushedIn j s s₁ 0 x via stamp) {d : ℕ} (r : Running j s₁ t stamp x d) where
  same : SameFlow (grid_of j) s t
  same = same_more j p.same r.same

  marks : MarksOr (grid_of j) s t stamp
  marks = marks_then j s s₁ t stamp (wrote_marks j s s₁ (idx j x) stamp p.mark) r.marks

  idle' : back_link j t x ≡ off
  idle' = ap (λ (l : Point → Link Point). l x) (back_same j same) ∙ idle

  lone : Fresh j s stamp → Lone j s₁ stamp x
  lone fresh v h e = go (ℕ_discrete v (idx j x))
    where
      go : Dec (v ≡ idx j x) → v ≡ idx j x
      go (yes q) = q
      go (no ne) = absurd (fresh v h (sym (p.mark.else v h ne) ∙ e))

  pub searched_none : d ≡ 0 → Searched j s t stamp x None
  searched_none z = record {
    same = same;
    marks = marks;
    ends = λ fresh. record {
      target = target;
      unserved = idle';
      reached = mark_test j t stamp x r.dfs.root;
      known = λ v m. (test_mark j t stamp v m).0;
      done = λ v w y m a b. mark_test j t stamp y (⊎_elim (λ (q : (i : ℕ) × (i < d) × (pos_in j t i ≡ v)). absurd (omega (arith, q.1)))
          (λ (q : DoneIn j t stamp v). q w y a b) (r.dfs.done (lone fresh) v (test_mark j t stamp v m)));
      no_goal = λ v m g. omega (arith, (r.dfs.goals (lone fresh) v (test_mark j t stamp v m) g).1);
    };
  }

  pub searched_some : (m : ℕ) → d ≡ suc m → (graph j).Goal (pos_in j t m) → Searched j s t stamp x (Some d)
  searched_some m e g =
      let deep : 0 < d = omega arith in
      let q : d - 1 ≡ m = omega arith in
      let first = r.dfs.first deep in
      let way = dfs_way (graph j) (back_link j t) (on_link j t) (hop_in j t) (hops_in j t) refl (λ k. refl) (pos_in j t) (λ i. refl) x first m (rw e at r.dfs) target idle' g in
      record {
        same = same;
        marks = marks;
        ends = (record { deep = deep; fit = omega (arith, r.room); known = λ i h. (r.dfs.marked i h).0; way = rw (first, q) way }, first);
      }
