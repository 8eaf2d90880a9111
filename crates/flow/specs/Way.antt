-- A way of the search: from an unused start, by residual arcs taken two at a time, to a goal.
-- With it come the links that the flow has once the way is added.
use Rattle.std.specs.Prelude.{◌≡◌, List, [], ◌∷◌, map}
use Rattle.model.specs.Lists.{NoDup}
use Rattle.flow.specs.Flow.{Link, off, end, to, arr, dep, Graph, Residual}
use Rattle.flow.specs.Update.{pick, upd}

-- Two arcs: to the arrival at `via`, and on to the departure from `at`.
pub record Hop (N : Type 0) : Type 0 where
  pub via : N
  pub at : N

abbrev pub vias : {N : Type 0} → List (Hop N) → List N
vias hs = map (λ h. h.via) hs

abbrev pub ats : {N : Type 0} → List (Hop N) → List N
ats hs = map (λ h. h.at) hs

abbrev pub last_at : {N : Type 0} → N → List (Hop N) → N
last_at s [] = s
last_at s (h ∷ hs) = last_at h.at hs

-- hops from the departure from v
abbrev pub Hops : {N : Type 0} → Graph N → (N → Link N) → (N → Link N) → N → List (Hop N) → Type 0
Hops G next prev v [] = Unit
Hops G next prev v (h ∷ hs) =
    Residual G next prev (dep v) (arr h.via) × Residual G next prev (arr h.via) (dep h.at) × Hops G next prev h.at hs

pub record Way {N : Type 0} (G : Graph N) (next prev : N → Link N) (s : N) (hs : List (Hop N)) : Type 0 where
  pub start : G.Start s
  pub unused : next s ≡ off
  pub hops : Hops G next prev s hs
  pub once : NoDup (s ∷ ats hs)
  pub goal : G.Goal (last_at s hs)

-- the link of u, once it is joined to w: a node that is joined to itself falls out of use
abbrev pub join : {N : Type 0} → Discrete N → N → N → Link N
join dec u w = pick (dec u w) off (to w)

-- The next links once the way is added: a hop sets that of the node that it leaves.
abbrev pub next_by : {N : Type 0} → Discrete N → N → List (Hop N) → (N → Link N) → N → Link N
next_by dec s [] next = upd dec next s end
next_by dec s (h ∷ hs) next = upd dec (next_by dec h.at hs next) s (join dec s h.via)

-- The same of the prev links: a hop sets that of the node that it arrives at.
abbrev pub back_by : {N : Type 0} → Discrete N → N → List (Hop N) → (N → Link N) → N → Link N
back_by dec s [] prev = prev
back_by dec s (h ∷ hs) prev = upd dec (back_by dec h.at hs prev) h.via (join dec h.via s)

abbrev pub prev_by : {N : Type 0} → Discrete N → N → List (Hop N) → (N → Link N) → N → Link N
prev_by dec s hs prev = upd dec (back_by dec s hs prev) s end
