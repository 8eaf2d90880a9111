-- Nodes of a flow that exchange where they lead, two and two: `swap` says with which, and a node that stays out of it is its own.
use Rattle.std.specs.Prelude.{◌≡◌, ◌⊎◌}
use Rattle.flow.specs.Flow.{Link, off, end, to, Graph}

-- the link, to the other node of the two
abbrev pub led : {N : Type 0} → (N → N) → Link N → Link N
led swap off = off
led swap end = end
led swap (to v) = to (swap v)

-- The nodes go in pairs, those that exchange lead on, and the graph has the edges that come of it.
pub record Exchange {N : Type 0} (G : Graph N) (next : N → Link N) (swap : N → N) : Type 0 where
  pub twice : (v : N) → swap (swap v) ≡ v
  pub leads : (v : N) → (swap v ≡ v) ⊎ ((w : N) × (next v ≡ to w))
  pub edge : (u w : N) → next (swap u) ≡ to w → G.Edge u w
