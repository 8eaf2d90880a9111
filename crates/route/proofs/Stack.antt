-- The hops of the search's stack by their numbers: the i-th leads from position i to the next, and no two go by one node or leave one node.
-- A hop by way of the node that it leaves lets that fall out of the flow; every other follows an edge. Assumes nothing.
use Prim.Native.Nat.{ℕ, zero, suc, ◌<◌, ◌≤◌}
use mathlib.Core.Path.{◌≡◌, refl, sym, ◌∙◌, subst}
use mathlib.Core.List.{List, [], ◌∷◌, ◌++◌, map}
use mathlib.Core.Bool.{Bool, true, false}
use mathlib.Core.Logic.{◌⊎◌, inl, inr, ⊎_elim}
use native.Mathlib.Omega.{arith}
use borrow.Author.Tests.{eqb-true, eq-eqb}
use lib.Dec.{eqb}
use Rattle.model.specs.Lists.{In, NoDup}
use Rattle.model.specs.Job.{Job}
use Rattle.model.specs.Choke.{Point}
use Rattle.model.specs.Ready.{Fit}
use Rattle.model.proofs.Basics.{nope, and_left, and_right, and_both}
use Rattle.model.proofs.Decide.{dec-lt}
use Rattle.flow.specs.Flow.{State, arr, dep, Residual}
use Rattle.flow.specs.Way.{Hop, vias, ats, last_at, Way}
use Rattle.flow.proofs.Hops.{On, on_split, last_split, arcs, via_once}
use Rattle.network.specs.Graph.{graph, Inside, Edge}
use Rattle.network.specs.Store.{grid_of, nodes, Spacious}
use Rattle.network.specs.Links.{FlowIn, back_link, on_link}
use Rattle.route.specs.Stack.{pos_at, via_of, hops_to}
use Rattle.route.specs.Lay.{is_same}
use Rattle.network.proofs.Points.{point_cell, point_step, point_eq}
use Rattle.network.proofs.ChokeTargets.{edge_inside_before}

abbrev pub pos_in : Job → List ℕ → ℕ → Point
pos_in j s i = pos_at (grid_of j) s i

abbrev pub via_in : Job → List ℕ → ℕ → Point
via_in j s i = via_of (grid_of j) s i

abbrev pub hop_in : Job → List ℕ → ℕ → Hop Point
hop_in j s i = record { via = via_in j s i; at = pos_in j s (suc i) }

abbrev pub hops_in : Job → List ℕ → ℕ → List (Hop Point)
hops_in j s m = hops_to (grid_of j) s m

abbrev pub ArcIn : Job → List ℕ → State Point → State Point → Type 0
ArcIn j s a b = Residual (graph j) (back_link j s) (on_link j s) a b

abbrev pub WayIn : Job → List ℕ → ℕ → Type 0
WayIn j s m = Way (graph j) (back_link j s) (on_link j s) (pos_in j s 0) (hops_in j s m)

same_point : (x y : Point) → is_same x y ≡ true → x ≡ y
same_point x y e =
    let a = eqb x.cell y.cell in
    let b = eqb x.step y.step in
    point_eq (eqb-true x.cell y.cell (and_left a b e)) (eqb-true x.step y.step (and_right a b e))

point_same : (x y : Point) → x ≡ y → is_same x y ≡ true
point_same x y e = and_both (eqb x.cell y.cell) (eqb x.step y.step) (eq-eqb x.cell y.cell (point_cell e)) (eq-eqb x.step y.step (point_step e))

module _ {N : Type 0} where
  on_left : (s : N) (hs hs' : List (Hop N)) (v w x : N) → On s hs v w x → On s (hs ++ hs') v w x
  on_left s [] hs' v w x o = absurd o
  on_left s (h ∷ hs) hs' v w x (inl e) = inl e
  on_left s (h ∷ hs) hs' v w x (inr o) = inr (on_left h.at hs hs' v w x o)

  on_either : (s : N) (hs : List (Hop N)) (h : Hop N) (v w x : N) → On s (hs ++ (h ∷ [])) v w x
      → On s hs v w x ⊎ ((v ≡ last_at s hs) × (w ≡ h.via) × (x ≡ h.at))
  on_either s [] h v w x (inl e) = inr e
  on_either s [] h v w x (inr o) = absurd o
  on_either s (k ∷ hs) h v w x (inl e) = inl (inl e)
  on_either s (k ∷ hs) h v w x (inr o) = ⊎_elim (λ a. inl (inr a)) inr (on_either k.at hs h v w x o)

  module _ (f : Hop N → N) (h : Hop N) where
    in_front : (a : N) (hs : List (Hop N)) → In a (map f hs) → In a (map f (hs ++ (h ∷ [])))
    in_front a [] i = absurd i
    in_front a (k ∷ hs) (inl e) = inl e
    in_front a (k ∷ hs) (inr i) = inr (in_front a hs i)

    in_last : (hs : List (Hop N)) → In (f h) (map f (hs ++ (h ∷ [])))
    in_last [] = inl refl
    in_last (k ∷ hs) = inr (in_last hs)

    once_front : (hs : List (Hop N)) → NoDup (map f (hs ++ (h ∷ []))) → NoDup (map f hs) × (In (f h) (map f hs) → ⊥)
    once_front [] nd = (tt, λ i. i)
    once_front (k ∷ hs) nd =
        let r = once_front hs nd.1 in
        ((λ i. nd.0 (in_front (f k) hs i), r.0), ⊎_elim (λ (e : f h ≡ f k). nd.0 (rw e at (in_last hs))) r.1)

module _ (j : Job) (s : List ℕ) where
  pub last_hops : (m : ℕ) → last_at (pos_in j s 0) (hops_in j s m) ≡ pos_in j s m
  last_hops zero = refl
  last_hops (suc m) = last_split (pos_in j s 0) (hops_in j s m) (hop_in j s m) []

  abbrev OnAt : ℕ → ℕ → Type 0
  OnAt m i = On (pos_in j s 0) (hops_in j s m) (pos_in j s i) (via_in j s i) (pos_in j s (suc i))

  on_here : (m : ℕ) → OnAt (suc m) m
  on_here m = rw (last_hops m) at (on_split (pos_in j s 0) (hops_in j s m) (hop_in j s m) [])

  on_hop : (m i : ℕ) → i < m → OnAt m i
  on_hop zero i l = absurd (omega arith)
  on_hop (suc m) i l = go (dec-lt i m) (on_hop m i)
    where
      go : Dec (i < m) → (i < m → OnAt m i) → OnAt (suc m) i
      go (yes k) r = on_left (pos_in j s 0) (hops_in j s m) (hop_in j s m ∷ []) (pos_in j s i) (via_in j s i) (pos_in j s (suc i)) (r k)
      go (no k) r = let e : i ≡ m = omega arith in rw e (on_here m)

  pub hop_on : (m : ℕ) (v w y : Point) → On (pos_in j s 0) (hops_in j s m) v w y
      → (i : ℕ) × (i < m) × (v ≡ pos_in j s i) × (w ≡ via_in j s i) × (y ≡ pos_in j s (suc i))
  hop_on zero v w y o = absurd o
  hop_on (suc m) v w y o =
      ⊎_elim
      (λ a. let r = hop_on m v w y a in (r.0, (let l = r.1 in omega arith), r.2, r.3, r.4))
      (λ (e : (v ≡ last_at (pos_in j s 0) (hops_in j s m)) × (w ≡ via_in j s m) × (y ≡ pos_in j s (suc m))). (m, omega arith, e.0 ∙ last_hops m, e.1, e.2))
      (on_either (pos_in j s 0) (hops_in j s m) (hop_in j s m) v w y o)

  module _ (f : Hop Point → Point) where
    in_hops : (m i : ℕ) → i < m → In (f (hop_in j s i)) (map f (hops_in j s m))
    in_hops zero i l = absurd (omega arith)
    in_hops (suc m) i l = go (dec-lt i m) (in_hops m i)
      where
        go : Dec (i < m) → (i < m → In (f (hop_in j s i)) (map f (hops_in j s m))) → In (f (hop_in j s i)) (map f (hops_in j s (suc m)))
        go (yes k) r = in_front f (hop_in j s m) (f (hop_in j s i)) (hops_in j s m) (r k)
        go (no k) r = let e : i ≡ m = omega arith in rw e (in_last f (hop_in j s m) (hops_in j s m))

    apart : (m : ℕ) → NoDup (map f (hops_in j s m)) → (i l : ℕ) → i < l → l < m → f (hop_in j s i) ≡ f (hop_in j s l) → ⊥
    apart zero nd i l h k e = omega arith
    apart (suc m) nd i l h k e = go (dec-lt l m) (once_front f (hop_in j s m) (hops_in j s m) nd) (λ (o : NoDup (map f (hops_in j s m))). apart m o i l h)
      where
        go : Dec (l < m) → NoDup (map f (hops_in j s m)) × (In (f (hop_in j s m)) (map f (hops_in j s m)) → ⊥)
            → (NoDup (map f (hops_in j s m)) → l < m → f (hop_in j s i) ≡ f (hop_in j s l) → ⊥) → ⊥
        go (yes k') o r = r o.0 k' e
        go (no k') o r = let q : l ≡ m = omega arith in o.1 (rw q at (rw e at (in_hops m i (omega arith))))

  -- What a hop is: the node that it leaves falls out of the flow, or an edge leads on from there.
  pub data Form (m : ℕ) : Type 0 where
    frees : is_same (pos_in j s m) (via_in j s m) ≡ true → via_in j s m ≡ pos_in j s m → Form m
    leads : is_same (pos_in j s m) (via_in j s m) ≡ false → Edge j (pos_in j s m) (via_in j s m) → Form m

-- A way of e hops from nodes of the graph through the flow that the store holds.
pub record Stacked (j : Job) (s : List ℕ) (e : ℕ) : Type 0 where
  pub fit : Fit j
  pub room : Spacious (grid_of j) s
  pub small : suc e ≤ nodes j
  pub known : (i : ℕ) → i ≤ e → Inside j (pos_in j s i)
  pub ok : FlowIn j s
  pub way : WayIn j s e

module _ {j : Job} {s : List ℕ} {e : ℕ} (w : Stacked j s e) where
  pub vias_apart : (i l : ℕ) → i < l → l < e → via_in j s i ≡ via_in j s l → ⊥
  vias_apart = apart j s (λ h. h.via) e (via_once w.ok w.way).1

  pub via_late : (i : ℕ) → i < e → via_in j s i ≡ pos_in j s 0 → ⊥
  via_late i l q = (via_once w.ok w.way).0 (rw q at (in_hops j s (λ h. h.via) e i l))

  pub via-in : (i : ℕ) → i < e → In (via_in j s i) (vias (hops_in j s e))
  via-in i l = in_hops j s (λ h. h.via) e i l

  pub places_apart : (i l : ℕ) → i < l → l ≤ e → pos_in j s i ≡ pos_in j s l → ⊥
  places_apart zero zero h k q = omega arith
  places_apart zero (suc l) h k q = w.way.once.0 (rw (sym q) at (in_hops j s (λ h. h.at) e l (omega arith)))
  places_apart (suc i) zero h k q = omega arith
  places_apart (suc i) (suc l) h k q = apart j s (λ h. h.at) e w.way.once.1 i l (omega arith) (omega arith) q

  pub place_once : (i l : ℕ) → i ≤ e → l ≤ e → pos_in j s i ≡ pos_in j s l → i ≡ l
  place_once i l h k q = go (dec-lt i l) (dec-lt l i)
    where
      go : Dec (i < l) → Dec (l < i) → i ≡ l
      go (yes r) d = absurd (places_apart i l r k q)
      go (no r) (yes t) = absurd (places_apart l i t h (sym q))
      go (no r) (no t) = omega arith

  pub place_in : (i : ℕ) → i ≤ e → In (pos_in j s i) (pos_in j s 0 ∷ ats (hops_in j s e))
  place_in zero k = inl refl
  place_in (suc i) k = inr (in_hops j s (λ h. h.at) e i (omega arith))

  pub hop_arcs : (i : ℕ) → i < e → ArcIn j s (dep (pos_in j s i)) (arr (via_in j s i)) × ArcIn j s (arr (via_in j s i)) (dep (pos_in j s (suc i)))
  hop_arcs i l =
      arcs (graph j) (back_link j s) (on_link j s) (pos_in j s 0) (hops_in j s e) (pos_in j s i) (via_in j s i) (pos_in j s (suc i)) w.way.hops (on_hop j s e i l)

  pub form : (i : ℕ) → i < e → Form j s i
  form i l = go (is_same (pos_in j s i) (via_in j s i)) refl
    where
      edge : is_same (pos_in j s i) (via_in j s i) ≡ false → (pos_in j s i ≡ via_in j s i) ⊎ Edge j (pos_in j s i) (via_in j s i) → Form j s i
      edge q (inl f) = let q' = point_same (pos_in j s i) (via_in j s i) f in nope (cc)
      edge q (inr f) = leads q f

      go : (b : Bool) → is_same (pos_in j s i) (via_in j s i) ≡ b → Form j s i
      go true q = frees q (sym (same_point (pos_in j s i) (via_in j s i) q))
      go false q = edge q (hop_arcs i l).0

  pub via_inside : (i : ℕ) → i < e → Inside j (via_in j s i)
  via_inside i l = go (form i l)
    where
      go : Form j s i → Inside j (via_in j s i)
      go (frees q f) = subst (Inside j) (sym f) (w.known i (omega arith))
      go (leads q f) = edge_inside_before w.fit f
