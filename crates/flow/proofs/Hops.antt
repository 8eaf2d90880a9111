-- The hops of a way: from which node each leaves, and that no two arrive at one node.
-- An arrival leads to one departure only, so that what arrives twice would depart twice. Assumes nothing.
use mathlib.Core.Path.{◌≡◌, refl}
use mathlib.Core.List.{List, [], ◌∷◌, ◌++◌}
use mathlib.Core.Logic.{◌⊎◌, inl, inr, ⊎_elim}
use Rattle.model.specs.Lists.{In, NoDup}
use Rattle.model.proofs.Basics.{nope}
use Rattle.flow.specs.Flow.{Link, arr, dep, Graph, Flow, Residual}
use Rattle.flow.specs.Way.{Hop, vias, ats, last_at, Hops, Way}

-- A hop that leaves v, arrives at w and departs from x.
abbrev pub On : {N : Type 0} → N → List (Hop N) → N → N → N → Type 0
On s [] v w x = ⊥
On s (h ∷ hs) v w x = ((v ≡ s) × (w ≡ h.via) × (x ≡ h.at)) ⊎ On h.at hs v w x

module _ {N : Type 0} where
  pub on_split : (s : N) (hs : List (Hop N)) (h : Hop N) (hs' : List (Hop N)) → On s (hs ++ (h ∷ hs')) (last_at s hs) h.via h.at
  on_split s [] h hs' = inl (refl, refl, refl)
  on_split s (k ∷ hs) h hs' = inr (on_split k.at hs h hs')

  pub last_split : (s : N) (hs : List (Hop N)) (h : Hop N) (hs' : List (Hop N)) → last_at s (hs ++ (h ∷ hs')) ≡ last_at h.at hs'
  last_split s [] h hs' = refl
  last_split s (k ∷ hs) h hs' = last_split k.at hs h hs'

  pub on_from : (s : N) (hs : List (Hop N)) (v w x : N) → On s hs v w x → In v (s ∷ ats hs)
  on_from s [] v w x o = absurd o
  on_from s (h ∷ hs) v w x (inl (e, f, g)) = inl e
  on_from s (h ∷ hs) v w x (inr o) = inr (on_from h.at hs v w x o)

  pub on_via : (s : N) (hs : List (Hop N)) (v w x : N) → On s hs v w x → In w (vias hs)
  on_via s [] v w x o = absurd o
  on_via s (h ∷ hs) v w x (inl (e, f, g)) = inl f
  on_via s (h ∷ hs) v w x (inr o) = inr (on_via h.at hs v w x o)

  pub on_at : (s : N) (hs : List (Hop N)) (v w x : N) → On s hs v w x → In x (ats hs)
  on_at s [] v w x o = absurd o
  on_at s (h ∷ hs) v w x (inl (e, f, g)) = inl g
  on_at s (h ∷ hs) v w x (inr o) = inr (on_at h.at hs v w x o)

  pub via_on : (s : N) (hs : List (Hop N)) (w : N) → In w (vias hs) → (v : N) × (x : N) × On s hs v w x
  via_on s [] w i = absurd i
  via_on s (h ∷ hs) w (inl e) = (s, h.at, inl (refl, e, refl))
  via_on s (h ∷ hs) w (inr i) = let r = via_on h.at hs w i in (r.0, r.1, inr r.2)

  pub at_on : (s : N) (hs : List (Hop N)) (x : N) → In x (ats hs) → (v : N) × (w : N) × On s hs v w x
  at_on s [] x i = absurd i
  at_on s (h ∷ hs) x (inl e) = (s, h.via, inl (refl, refl, e))
  at_on s (h ∷ hs) x (inr i) = let r = at_on h.at hs x i in (r.0, r.1, inr r.2)

  pub last_in : (s : N) (hs : List (Hop N)) → In (last_at s hs) (s ∷ ats hs)
  last_in s [] = inl refl
  last_in s (h ∷ hs) = inr (last_in h.at hs)

  -- A node of the way is its last one, or a hop leaves it.
  pub on_out : (s : N) (hs : List (Hop N)) (v : N) → In v (s ∷ ats hs) → (v ≡ last_at s hs) ⊎ ((w : N) × (x : N) × On s hs v w x)
  on_out s [] v (inl e) = inl e
  on_out s [] v (inr i) = absurd i
  on_out s (h ∷ hs) v (inl e) = inr (h.via, h.at, inl (e, refl, refl))
  on_out s (h ∷ hs) v (inr i) = ⊎_elim inl (λ (r : (w : N) × (x : N) × On h.at hs v w x). inr (r.0, r.1, inr r.2)) (on_out h.at hs v i)

module _ {N : Type 0} (G : Graph N) (next prev : N → Link N) where
  -- The arcs of a hop.
  pub arcs : (s : N) (hs : List (Hop N)) (v w x : N) → Hops G next prev s hs → On s hs v w x
      → Residual G next prev (dep v) (arr w) × Residual G next prev (arr w) (dep x)
  arcs s [] v w x hops o = absurd o
  arcs s (h ∷ hs) v w x (a, b, c) (inl (e, f, g)) = rw (e, f, g) (a, b)
  arcs s (h ∷ hs) v w x (a, b, c) (inr o) = arcs h.at hs v w x c o

  -- Hops are joined at the node where the first ones end.
  pub hops_more : (s : N) (hs hs' : List (Hop N)) → Hops G next prev s hs → Hops G next prev (last_at s hs) hs' → Hops G next prev s (hs ++ hs')
  hops_more s [] hs' a b = b
  hops_more s (h ∷ hs) hs' (a, b, c) d = (a, b, hops_more h.at hs hs' c d)

module _ {N : Type 0} {G : Graph N} {next prev : N → Link N} (ok : Flow G next prev) where
  pub one_dep : (w x x' : N) → Residual G next prev (arr w) (dep x) → Residual G next prev (arr w) (dep x') → x ≡ x'
  one_dep w x x' (inl (e, f)) (inl (e', f')) = cc
  one_dep w x x' (inl (e, f)) (inr g) = nope (cc (ok.off_prev w f))
  one_dep w x x' (inr g) (inl (e, f)) = nope (cc (ok.off_prev w f))
  one_dep w x x' (inr g) (inr g') = cc

  vias_once : (s : N) (hs : List (Hop N)) → Hops G next prev s hs → NoDup (ats hs) → NoDup (vias hs)
  vias_once s [] hops nd = tt
  vias_once s (h ∷ hs) (a, b, c) nd = (λ i. clash (via_on h.at hs h.via i), vias_once h.at hs c nd.1)
    where
      clash : (v : N) × (x : N) × On h.at hs v h.via x → ⊥
      clash (v, x, o) =
          let q : x ≡ h.at = one_dep h.via x h.at (arcs G next prev h.at hs v h.via x c o).1 b in
          nd.0 (rw q at (on_at h.at hs v h.via x o))

  -- The way arrives nowhere twice, and not at its start.
  pub via_once : {s : N} {hs : List (Hop N)} → Way G next prev s hs → NoDup (s ∷ vias hs)
  via_once {s} {hs} way = (λ i. clash (via_on s hs s i), vias_once s hs way.hops way.once.1)
    where
      clash : (v : N) × (x : N) × On s hs v s x → ⊥
      clash (v, x, o) = go (arcs G next prev s hs v s x way.hops o).1
        where
          go : Residual G next prev (arr s) (dep x) → ⊥
          go (inl (e, f)) = way.once.0 (rw e at (on_at s hs v s x o))
          go (inr g) = nope (cc (ok.off_prev s way.unused))
