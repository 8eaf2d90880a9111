-- The search's stack in the store: the way so far, hop by hop.
use Rattle.std.specs.Prelude.{ℕ, zero, suc, List, [], ◌∷◌, ◌++◌}
use Rattle.model.specs.Choke.{Point, point}
use Rattle.flow.specs.Way.{Hop}
use Rattle.network.specs.Store.{cell_at, step_at, via_at}
use Rattle.network.specs.declared.planes.Grid.{Grid}

-- the i-th position
abbrev pub pos_at : Grid → List ℕ → ℕ → Point
pos_at g s i = point (cell_at g s i) (step_at g s i)

-- By way of which node a hop goes from there to the next. Where it is the position itself, that falls out of the flow.
abbrev pub via_of : Grid → List ℕ → ℕ → Point
via_of g s i = via_at g s (suc i)

-- the first m hops
abbrev pub hops_to : Grid → List ℕ → ℕ → List (Hop Point)
hops_to g s zero = []
hops_to g s (suc m) = hops_to g s m ++ (record { via = via_of g s m; at = pos_at g s (suc m) } ∷ [])
