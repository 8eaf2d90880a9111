-- The lines of a flow, followed link by link, and a graph that stands in layers.
use Rattle.std.specs.Prelude.{ℕ, zero, suc, ◌≤◌, ◌<◌, ◌≡◌}
use Rattle.flow.specs.Flow.{Link, to, Graph}

-- Each edge goes down, from layer H at the highest.
pub record Ranked {N : Type 0} (G : Graph N) (rank : N → ℕ) (H : ℕ) : Type 0 where
  pub falls : (u w : N) → G.Edge u w → rank w < rank u
  pub bound : (u w : N) → G.Edge u w → rank u ≤ H

-- y is k links after x
abbrev pub Chain : {N : Type 0} → (N → Link N) → ℕ → N → N → Type 0
Chain next zero x y = x ≡ y
Chain {N} next (suc k) x y = (z : N) × (next x ≡ to z) × Chain next k z y

-- y is x or comes after it
abbrev pub Ahead : {N : Type 0} → (N → Link N) → N → N → Type 0
Ahead next x y = (k : ℕ) × Chain next k x y
