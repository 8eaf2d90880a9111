-- A flow of vertex-disjoint lines over a graph: each node names the next node of its line and the previous one.
-- A search for one more line walks its residual arcs.
use Rattle.std.specs.Prelude.{◌≡◌, ◌⊎◌}

-- Where a node leads: nowhere, as no line uses it; nowhere further, as its line ends here; or to a node.
pub data Link (N : Type 0) : Type 0 where
  off : Link N
  end : Link N
  to : N → Link N

-- A state of the search: arriving at a node, or departing from it.
pub data State (N : Type 0) : Type 0 where
  arr : N → State N
  dep : N → State N

pub record Graph (N : Type 0) : Type 1 where
  pub Edge : N → N → Type 0
  pub Start : N → Type 0
  pub Goal : N → Type 0

-- The links are each other's inverse and follow edges; a line begins at a start and ends at a goal.
pub record Flow {N : Type 0} (G : Graph N) (next prev : N → Link N) : Type 0 where
  pub forth : (u w : N) → next u ≡ to w → prev w ≡ to u
  pub back : (u w : N) → prev w ≡ to u → next u ≡ to w
  pub edge : (u w : N) → next u ≡ to w → G.Edge u w
  pub off_next : (v : N) → prev v ≡ off → next v ≡ off
  pub off_prev : (v : N) → next v ≡ off → prev v ≡ off
  pub starts : (v : N) → prev v ≡ end → G.Start v
  pub goals : (v : N) → next v ≡ end → G.Goal v

-- The residual arcs. At an unused node the search goes through; at a used one it goes back along the line.
abbrev pub Residual : {N : Type 0} → Graph N → (N → Link N) → (N → Link N) → State N → State N → Type 0
Residual G next prev (arr v) (arr u) = ⊥
Residual G next prev (arr v) (dep u) = ((u ≡ v) × (next v ≡ off)) ⊎ (prev v ≡ to u)
Residual G next prev (dep v) (arr w) = (v ≡ w) ⊎ G.Edge v w
Residual G next prev (dep v) (dep u) = ⊥
