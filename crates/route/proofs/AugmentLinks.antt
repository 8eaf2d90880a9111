-- Once all hops of the stack are laid, the links that the store holds are those of the flow with the way added: at the nodes that the way leaves or goes by
-- they are read off the bytes written there, and at every other node off bytes that say the same as before. Assumes nothing.
use Prim.Native.Nat.{ℕ, zero, suc, ◌+◌, ◌-◌, ◌<◌, ◌≤◌}
use mathlib.Core.Path.{◌≡◌, sym, ◌∙◌, ap, subst}
use mathlib.Core.List.{List, ◌∷◌}
use mathlib.Core.Bool.{Bool, true, false, cond}
use mathlib.Core.Logic.{◌⊎◌, inl, inr, ⊎_elim, ◌↔◌}
use native.Mathlib.Omega.{arith}
use borrow.Author.Tests.{eq-eqb, ne_eqb}
use lib.Dec.{eqb}
use Rattle.model.specs.Lists.{In}
use Rattle.model.specs.Job.{Job}
use Rattle.model.specs.Choke.{Point, point}
use Rattle.model.proofs.Decide.{dec_in}
use Rattle.flow.specs.Flow.{off, end, to}
use Rattle.flow.specs.Way.{vias, ats, last_at, join, next_by, prev_by}
use Rattle.flow.proofs.Flow.{flow_same}
use Rattle.flow.proofs.Hops.{On, on_out, via_on, via_once}
use Rattle.flow.proofs.Links.{join_same, join_other, next_kept, next_last, next_hop, prev_kept, prev_start, prev_hop}
use Rattle.flow.proofs.Augment.{augmented, starts_more}
use Rattle.network.specs.Graph.{top, Inside, MetFrom, Earlier, Edge}
use Rattle.network.specs.Store.{grid_of, idx, used_at, next_at, prev_at, meets, leads_to, came_from, with_used, with_mark, is_used}
use Rattle.network.specs.Links.{FlowIn, back_link, on_link}
use Rattle.route.specs.Search.{Augmented}
use Rattle.route.specs.Lay.{is_same}
use Rattle.network.proofs.NodeBytes.{link_off, link_end, link_to, link_used, link_same, used, unused, used_byte, used_known, used_same}
use Rattle.network.proofs.Points.{point_cell, point_step, point_eq, dec_point}
use Rattle.network.proofs.StoreBytes.{idx_below, idx_one}
use Rattle.network.proofs.ChokeTargets.{target_top, edge_falls, edge_low}
use Rattle.network.proofs.PlaneLaws.{Opened, opens}
use Rattle.route.proofs.Stack.{pos_in, via_in, hops_in, Stacked, last_hops, hop_on, Form, frees, leads, via_late, via-in, places_apart, place_once, place_in, hop_arcs, form, via_inside}
use Rattle.route.proofs.Laid.{Laid, use_at, from_at, marks_more}

join_eq : {a a' b b' : Point} → a ≡ a' → b ≡ b' → join dec_point a b ≡ join dec_point a' b'
join_eq e f = rw (e, f)

-- An edge begins at a call's node, in the layer of those, or below it.
met_top : {j : Job} {x y : Point} → MetFrom j x y → eqb x.step (top j) ≡ true
met_top {j} {x} g = eq-eqb x.step (top j) (point_step g.here)

earlier_low : {j : Job} {x y : Point} → Earlier j x y → eqb x.step (top j) ≡ false
earlier_low {j} {x} g = ne_eqb x.step (top j) (λ z. omega (arith, g.in_time))

module _ (j : Job) where
  abbrev byte : List ℕ → Point → ℕ
  byte s v = used_at (grid_of j) s (idx j v)

  -- What the store holds once all is laid.
  pub record Final (s s' : List ℕ) (e : ℕ) : Type 0 where
    pub start : byte s' (pos_in j s 0) ≡ 1
    pub by : (m : ℕ) → m < e → byte s' (via_in j s m) ≡ use_at (grid_of j) s m
    pub kept : (v : Point) → Inside j v → (v ≡ pos_in j s 0 → ⊥) → ((m : ℕ) → m < e → v ≡ via_in j s m → ⊥) → byte s' v ≡ byte s v
    pub next : (m : ℕ) → m < e → next_at (grid_of j) s' (idx j (via_in j s m)) ≡ (pos_in j s m).cell
    pub next_kept : (v : Point) → Inside j v → ((m : ℕ) → m < e → v ≡ via_in j s m → ⊥) → next_at (grid_of j) s' (idx j v) ≡ next_at (grid_of j) s (idx j v)
    pub prev : (m : ℕ) → m < e → prev_at (grid_of j) s' (idx j (pos_in j s m)) ≡ from_at (grid_of j) s m
    pub prev_kept : (v : Point) → Inside j v → ((m : ℕ) → m < e → v ≡ pos_in j s m → ⊥) → prev_at (grid_of j) s' (idx j v) ≡ prev_at (grid_of j) s (idx j v)

  module _ {s : List ℕ} {e : ℕ} (st : Stacked j s e) (s' : List ℕ) (fin : Final s s' e) where
    abbrev x : Point
    x = pos_in j s 0

    -- What is written of the node that a hop goes by: where the hop leads on, that is used then.
    by_byte : {b : Bool} (m : ℕ) → m < e → is_same (pos_in j s m) (via_in j s m) ≡ b → byte s' (via_in j s m) ≡ cond b 0 (cond (eqb (pos_in j s m).step (top j)) meets 1)
    by_byte m l q = fin.by m l ∙ ap (λ b. cond b 0 (cond (eqb (pos_in j s m).step (top j)) meets 1)) q

    leads_used : (m : ℕ) → m < e → is_same (pos_in j s m) (via_in j s m) ≡ false → byte s' (via_in j s m) ≡ 0 → ⊥
    leads_used m l q z = go (eqb (pos_in j s m).step (top j)) (sym (by_byte m l q) ∙ z)
      where
        go : (b : Bool) → cond b meets 1 ≡ 0 → ⊥
        go true f = omega arith
        go false f = omega arith

    -- The bytes of the two nodes of an edge lead from each to the other.
    goes_on : (m : ℕ) → m < e → is_same (pos_in j s m) (via_in j s m) ≡ false → Edge j (pos_in j s m) (via_in j s m) → leads_to (grid_of j) s' (via_in j s m) ≡ pos_in j s m
    goes_on m l q (inl g) =
        let u : byte s' (via_in j s m) ≡ meets = rw (met_top g) at (by_byte m l q) in
        rw (eq-eqb (byte s' (via_in j s m)) meets u) (point_eq (g.there ∙ sym (point_cell g.here)) (sym (point_step g.here)))
    goes_on m l q (inr g) =
        let u : byte s' (via_in j s m) ≡ 1 = rw (earlier_low g) at (by_byte m l q) in
        rw (ne_eqb (byte s' (via_in j s m)) meets (λ z. omega arith)) (point_eq (fin.next m l) (omega (arith, g.falls)))

    comes_back : (m : ℕ) → m < e → Edge j (pos_in j s m) (via_in j s m) → came_from (grid_of j) s' (pos_in j s m) ≡ via_in j s m
    comes_back m l (inl g) = rw (met_top g) (point_eq (point_cell g.here ∙ sym g.there) (rw (met_top g) at (fin.prev m l)))
    comes_back m l (inr g) = rw (earlier_low g) (point_eq (rw (earlier_low g) at (fin.prev m l)) (omega (arith, g.falls)))

    data Via (v : Point) : Type 0 where
      via : (m : ℕ) → m < e → v ≡ via_in j s m → Via v
      none : ((m : ℕ) → m < e → v ≡ via_in j s m → ⊥) → Via v

    look_via : (v : Point) → Via v
    look_via v = go (dec_in dec_point v (vias (hops_in j s e)))
      where
        hop : (u : Point) × (y : Point) × On x (hops_in j s e) u v y → Via v
        hop (u, y, o) = let r = hop_on j s e u v y o in via r.0 r.1 r.3

        go : Dec (In v (vias (hops_in j s e))) → Via v
        go (yes i) = hop (via_on x (hops_in j s e) v i)
        go (no h) = none (λ m l q. h (rw q (via-in st m l)))

    -- A position that was used and is not dropped is used then.
    stays : (i : ℕ) → i ≤ e → (i < e → Edge j (pos_in j s i) (via_in j s i)) → (byte s (pos_in j s i) ≡ 0 → ⊥) → byte s' (pos_in j s i) ≡ 0 → ⊥
    stays i l h u z = go (dec_point (pos_in j s i) x) (look_via (pos_in j s i))
      where
        met : (m : ℕ) → m < e → pos_in j s i ≡ via_in j s m → Form j s m → ⊥
        met m k q (frees f g) =
            let r : i ≡ m = place_once st i m l (omega arith) (q ∙ g) in
            let k' : i < e = omega arith in
            let same : pos_in j s i ≡ via_in j s i = rw r (sym g) in
            omega (arith, edge_falls (h k'), point_step same)
        met m k q (leads f g) = leads_used m k f (sym (ap (byte s') q) ∙ z)

        go : Dec (pos_in j s i ≡ x) → Via (pos_in j s i) → ⊥
        go (yes q) w = let t : byte s' x ≡ 1 = fin.start in omega (arith, ap (byte s') q, z)
        go (no q) (via m k f) = met m k f (form st m k)
        go (no q) (none f) = u (sym (fin.kept (pos_in j s i) (st.known i l) q f) ∙ z)

    -- A hop arrives at an unused node and goes on from there, or at a used one and goes back along the flow.
    entered : (m : ℕ) → m < e → (pos_in j s (suc m) ≡ via_in j s m) ⊎ (on_link j s (via_in j s m) ≡ to (pos_in j s (suc m)))
    entered m l = ⊎_elim (λ (q : (pos_in j s (suc m) ≡ via_in j s m) × (back_link j s (via_in j s m) ≡ off)). inl q.0) inr (hop_arcs st m l).1

    position_used : (i : ℕ) → i ≤ e → (i < e → Edge j (pos_in j s i) (via_in j s i)) → byte s' (pos_in j s i) ≡ 0 → ⊥
    position_used zero l h z = let t : byte s' x ≡ 1 = fin.start in omega arith
    position_used (suc m) l h z = go (form st m l) (entered m l)
      where
        go : Form j s m → (pos_in j s (suc m) ≡ via_in j s m) ⊎ (on_link j s (via_in j s m) ≡ to (pos_in j s (suc m))) → ⊥
        go (frees f g) (inl q) = places_apart st m (suc m) (omega arith) l (sym (q ∙ g))
        go (leads f g) (inl q) = leads_used m l f (sym (ap (byte s') q) ∙ z)
        go f (inr q) =
            let r = st.ok.back (pos_in j s (suc m)) (via_in j s m) q in
            stays (suc m) l h (used_byte j s (pos_in j s (suc m)) (link_used (is_used j s (pos_in j s (suc m))) _ (via_in j s m) r)) z

    -- A node that is no position is used then as it was before.
    other_used : (v : Point) → (In v (x ∷ ats (hops_in j s e)) → ⊥) → is_used j s' v ≡ is_used j s v
    other_used v h = go (look_via v)
      where
        both : (m : ℕ) → m < e → v ≡ via_in j s m → Form j s m → (pos_in j s (suc m) ≡ via_in j s m) ⊎ (on_link j s (via_in j s m) ≡ to (pos_in j s (suc m)))
            → eqb (byte s' v) 0 ≡ eqb (byte s v) 0
        both m l q (frees f g) r = absurd (h (subst (λ (z : Point). In z (x ∷ ats (hops_in j s e))) (sym (q ∙ g)) (place_in st m (omega arith))))
        both m l q (leads f g) (inl r) = absurd (h (subst (λ (z : Point). In z (x ∷ ats (hops_in j s e))) (sym (q ∙ sym r)) (place_in st (suc m) l)))
        both m l q (leads f g) (inr r) =
            let t : byte s' v ≡ 0 → ⊥ = rw q (leads_used m l f) in
            let u : byte s v ≡ 0 → ⊥ = rw q (used_byte j s (via_in j s m) (link_used (is_used j s (via_in j s m)) _ (pos_in j s (suc m)) r)) in
            ne_eqb (byte s' v) 0 t ∙ sym (ne_eqb (byte s v) 0 u)

        go : Via v → is_used j s' v ≡ is_used j s v
        go (via m l q) = used_same j s s' v (λ _. both m l q (form st m l) (entered m l))
        go (none f) = used_same j s s' v (λ k. ap (λ b. eqb b 0) (fin.kept v k (λ q. h (inl q)) f))

    pub back_laid : (v : Point) → back_link j s' v ≡ next_by dec_point x (hops_in j s e) (back_link j s) v
    back_laid v = go (dec_in dec_point v (x ∷ ats (hops_in j s e)))
      where
        kept : (In v (x ∷ ats (hops_in j s e)) → ⊥) → back_link j s' v ≡ back_link j s v
        kept h =
            link_same (is_used j s' v) (is_used j s v) (eqb v.step 0) _ _ (other_used v h)
            (λ u. ap (λ c. cond (eqb v.step (top j)) (point v.cell c) (point c (v.step - 1))) (fin.prev_kept v (used_known j s' v u) (λ m l q. h (subst (λ
            (z : Point). In z (x ∷ ats (hops_in j s e))) (sym q) (place_in st m (omega arith))))))

        last : v ≡ last_at x (hops_in j s e) → back_link j s' v ≡ next_by dec_point x (hops_in j s e) (back_link j s) v
        last q =
            let q' : v ≡ pos_in j s e = q ∙ last_hops j s e in
            let z : v.step ≡ 0 = point_step q ∙ st.way.goal.0 in
            let u : is_used j s' v ≡ true = used j s' v (rw q' (st.known e (omega arith))) (rw q' (position_used e (omega arith) (λ l. absurd (omega arith)))) in
            link_end (is_used j s' v) (eqb v.step 0) _ u (eq-eqb v.step 0 z) ∙ sym (rw q (next_last dec_point (back_link j s) x (hops_in j s e) st.way.once))

        hop : (m : ℕ) → m < e → Form j s m → back_link j s' (pos_in j s m) ≡ join dec_point (pos_in j s m) (via_in j s m)
        hop m l (frees f g) = link_off _ _ (unused j s' (pos_in j s m) (ap (byte s') (sym g) ∙ by_byte m l f)) ∙ sym (join_same dec_point (pos_in j s m) (via_in j s m) (sym g))
        hop m l (leads f g) =
            let t = edge_falls g in
            let u : is_used j s' (pos_in j s m) ≡ true = used j s' (pos_in j s m) (st.known m (omega arith)) (position_used m (omega arith) (λ _. g)) in
            link_to (is_used j s' (pos_in j s m)) (eqb (pos_in j s m).step 0) _ u (ne_eqb (pos_in j s m).step 0 (λ z. omega arith))
            ∙ ap to (comes_back m l g)
            ∙ sym (join_other dec_point (pos_in j s m) (via_in j s m) (λ q. let t' = point_step q in omega arith))

        hops : (w : Point) × (y : Point) × On x (hops_in j s e) v w y → back_link j s' v ≡ next_by dec_point x (hops_in j s e) (back_link j s) v
        hops (w, y, o) =
            let r = hop_on j s e v w y o in
            let g : join dec_point v w ≡ join dec_point (pos_in j s r.0) (via_in j s r.0) = join_eq r.2 r.3 in
            ap (back_link j s') r.2 ∙ hop r.0 r.1 (form st r.0 r.1) ∙ sym g ∙ sym (next_hop dec_point (back_link j s) x (hops_in j s e) v w y st.way.once o)

        go : Dec (In v (x ∷ ats (hops_in j s e))) → back_link j s' v ≡ next_by dec_point x (hops_in j s e) (back_link j s) v
        go (no h) = kept h ∙ sym (next_kept dec_point (back_link j s) x (hops_in j s e) v h)
        go (yes i) = ⊎_elim last hops (on_out x (hops_in j s e) v i)

    pub on_laid : (v : Point) → on_link j s' v ≡ prev_by dec_point x (hops_in j s e) (on_link j s) v
    on_laid v = go (dec_in dec_point v (x ∷ vias (hops_in j s e)))
      where
        kept : (In v (x ∷ vias (hops_in j s e)) → ⊥) → on_link j s' v ≡ on_link j s v
        kept h =
            let no : (m : ℕ) → m < e → v ≡ via_in j s m → ⊥ = λ m l q. h (inr (subst (λ (z : Point). In z (vias (hops_in j s e))) (sym q) (via-in st m l))) in
            let same : Inside j v → byte s' v ≡ byte s v = λ k. fin.kept v k (λ q. h (inl q)) no in
            link_same (is_used j s' v) (is_used j s v) (eqb v.step (top j)) _ _ (used_same j s s' v (λ k. ap (λ b. eqb b 0) (same k)))
            (λ u. let k = used_known j s' v u in λ i. cond (eqb (same k i) meets) (point v.cell (top j)) (point (fin.next_kept v k no i) (v.step + 1)))

        first : on_link j s' x ≡ end
        first =
            let t = fin.start in
            link_end (is_used j s' x) (eqb x.step (top j)) _ (used j s' x (st.known 0 (omega arith)) (λ z. omega arith)) (eq-eqb x.step (top j) (target_top j x st.way.start))

        hop : (m : ℕ) → m < e → Form j s m → on_link j s' (via_in j s m) ≡ join dec_point (via_in j s m) (pos_in j s m)
        hop m l (frees f g) = link_off _ _ (unused j s' (via_in j s m) (by_byte m l f)) ∙ sym (join_same dec_point (via_in j s m) (pos_in j s m) g)
        hop m l (leads f g) =
            let t = edge_falls g in
            let u : is_used j s' (via_in j s m) ≡ true = used j s' (via_in j s m) (via_inside st m l) (leads_used m l f) in
            link_to (is_used j s' (via_in j s m)) (eqb (via_in j s m).step (top j)) _ u (ne_eqb (via_in j s m).step (top j) (λ z. omega (arith, edge_low g)))
            ∙ ap to (goes_on m l f g)
            ∙ sym (join_other dec_point (via_in j s m) (pos_in j s m) (λ q. let t' = point_step q in omega arith))

        hops : (u : Point) × (y : Point) × On x (hops_in j s e) u v y → on_link j s' v ≡ prev_by dec_point x (hops_in j s e) (on_link j s) v
        hops (u, y, o) =
            let r = hop_on j s e u v y o in
            let g : join dec_point v u ≡ join dec_point (via_in j s r.0) (pos_in j s r.0) = join_eq r.3 r.2 in
            ap (on_link j s') r.3 ∙ hop r.0 r.1 (form st r.0 r.1) ∙ sym g ∙ sym (prev_hop dec_point (on_link j s) x (hops_in j s e) u v y (via_once st.ok st.way) o)

        go : Dec (In v (x ∷ vias (hops_in j s e))) → on_link j s' v ≡ prev_by dec_point x (hops_in j s e) (on_link j s) v
        go (no h) = kept h ∙ sym (prev_kept dec_point (on_link j s) x (hops_in j s e) v h)
        go (yes (inl q)) = ap (on_link j s') q ∙ first ∙ sym (rw q (prev_start dec_point (on_link j s) x (hops_in j s e)))
        go (yes (inr i)) = hops (via_on x (hops_in j s e) v i)

    pub flow_laid : FlowIn j s'
    flow_laid = flow_same back_laid on_laid (augmented dec_point st.ok st.way)

    pub serves_laid : (v : Point) → (on_link j s' v ≡ end) ↔ ((on_link j s v ≡ end) ⊎ (v ≡ x))
    serves_laid v = rw (on_laid v) (starts_more dec_point st.ok st.way v)

-- All hops are laid, and then the byte of the way's first node is set and its mark taken away.
module _ {j : Job} {s s' : List ℕ} {e : ℕ} (w : Stacked j s e) (done : Laid (grid_of j) s s' 0 e) where
  abbrev p : ℕ
  p = idx j (pos_in j s 0)

  abbrev s₂ : List ℕ
  s₂ = with_mark (grid_of j) (with_used (grid_of j) s' p 1) p 0

  opened : Opened (grid_of j) s' s₂ p 1 0
  opened = opens (grid_of j) s' (omega (arith, w.room, done.long)) p 1 0 (idx_below j (w.known 0 (omega arith)))

  -- A node that is not the first, or not by way of which a hop goes, or not a position, by its place.
  other : (v : Point) → Inside j v → (v ≡ pos_in j s 0 → ⊥) → idx j v ≡ p → ⊥
  other v k h q = h (idx_one j k (w.known 0 (omega arith)) q)

  not_via : (v : Point) → Inside j v → ((m : ℕ) → m < e → v ≡ via_in j s m → ⊥) → (m : ℕ) → 0 ≤ m → m < e → idx j v ≡ idx j (via_in j s m) → ⊥
  not_via v k h m z l q = h m l (idx_one j k (via_inside w m l) q)

  final : Final j s s₂ e
  final = record {
    start = opened.used.here;
    by = λ m l. let k = via_inside w m l in opened.used.else (idx j (via_in j s m)) (idx_below j k) (other (via_in j s m) k (via_late w m l)) ∙ done.used.new m (omega arith) l;
    kept = λ v k h g. opened.used.else (idx j v) (idx_below j k) (other v k h) ∙ done.used.old (idx j v) (idx_below j k) (not_via v k g);
    next = λ m l. opened.next (idx j (via_in j s m)) (idx_below j (via_inside w m l)) ∙ done.next.new m (omega arith) l;
    next_kept = λ v k g. opened.next (idx j v) (idx_below j k) ∙ done.next.old (idx j v) (idx_below j k) (not_via v k g);
    prev = λ m l. opened.prev (idx j (pos_in j s m)) (idx_below j (w.known m (omega arith))) ∙ done.prev.new m (omega arith) l;
    prev_kept = λ v k g. opened.prev (idx j v) (idx_below j k) ∙ done.prev.old (idx j v) (idx_below j k) (λ m z l q. g m l (idx_one j k (w.known m (omega arith)) q));
  }

  pub all_laid : Augmented j s s₂ (pos_in j s 0)
  all_laid = record {
    long = opened.long ∙ done.long;
    flow = flow_laid j w s₂ final;
    serves = serves_laid j w s₂ final;
    marks = marks_more (grid_of j) s s' s₂ p done.marks opened.mark;
  }
