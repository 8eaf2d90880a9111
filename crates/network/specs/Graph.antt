-- The graph of a job, back in time. Its nodes are cells at steps; behind the last step comes a layer of the calls, each on its cell, as no cell has two.
-- An edge leads from a node to one where a cart could have stood a step earlier, and from a call to each node of its cell at which it could be met.
-- Paths in it run from the calls to the carts' nodes at step 0.
use Rattle.std.specs.Prelude.{ℕ, suc, ◌<◌, ◌≤◌, ◌≡◌, List, [], ◌∷◌, Bool, true, false, ◌&&◌, ◌||◌, ◌⊎◌, eqb}
use Rattle.model.specs.Lists.{In}
use Rattle.model.specs.Job.{Job, Call, horizon}
use Rattle.model.specs.Walk.{Open, Step, InTime}
use Rattle.model.specs.Choke.{Point, point}
use Rattle.flow.specs.Flow.{Graph}

-- the layer of the calls
abbrev pub top : Job → ℕ
top j = suc (horizon j)

-- The point is a cell of the floor at a step or in the layer of the calls.
abbrev pub Inside : Job → Point → Type 0
Inside j x = (x.cell < j.cells) × (x.step ≤ top j)

-- the call's node
abbrev pub node_of : Job → Call → Point
node_of j q = point q.cell (top j)

-- One of the calls is on the cell c.
abbrev pub call_on : List Call → ℕ → Bool
call_on [] c = false
call_on (q ∷ qs) c = eqb q.cell c || call_on qs c

-- The point is the node of a call.
abbrev pub is_target : Job → Point → Bool
is_target j x = eqb x.step (top j) && call_on j.calls x.cell

-- The cart that met the call x is on its cell then, at the node y.
pub record MetFrom (j : Job) (x y : Point) : Type 0 where
  pub call : Call
  pub listed : In call j.calls
  pub here : x ≡ node_of j call
  pub there : y.cell ≡ call.cell
  pub in_time : InTime call.kind call.deadline y.step

-- From y a cart could have come to x. Nothing comes from a bay's node at its step but the bay's call: the cell must be open at the later step too.
pub record Earlier (j : Job) (x y : Point) : Type 0 where
  pub falls : x.step ≡ suc y.step
  pub moves : Step j y.step y.cell x.cell
  pub leaves : Open j (suc y.step) y.cell
  pub in_time : x.step ≤ horizon j
  pub known : x.cell < j.cells
  pub known_before : y.cell < j.cells

abbrev pub Edge : Job → Point → Point → Type 0
Edge j x y = MetFrom j x y ⊎ Earlier j x y

-- the graph whose lines start at some of its nodes, and that whose lines start at the calls
abbrev pub graph_from : Job → (Point → Type 0) → Graph Point
graph_from j S = record {
  Edge = λ x y. Edge j x y;
  Start = S;
  Goal = λ x. (x.step ≡ 0) × In x.cell j.carts;
}

abbrev pub graph : Job → Graph Point
graph j = graph_from j (λ x. is_target j x ≡ true)
