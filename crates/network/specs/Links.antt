-- The flow that the store holds: from each used node back to where its cart came from, and on to where it goes. A call is met at a step of its cell.
use Rattle.std.specs.Prelude.{ℕ, List, cond, eqb}
use Rattle.model.specs.Job.{Job}
use Rattle.model.specs.Choke.{Point}
use Rattle.flow.specs.Flow.{Link, off, end, to, Flow}
use Rattle.network.specs.Graph.{graph, top}
use Rattle.network.specs.Store.{grid_of, is_used, came_from, leads_to}

abbrev pub back_link : Job → List ℕ → Point → Link Point
back_link j s x = cond (is_used j s x) (cond (eqb x.step 0) end (to (came_from (grid_of j) s x))) off

abbrev pub on_link : Job → List ℕ → Point → Link Point
on_link j s x = cond (is_used j s x) (cond (eqb x.step (top j)) end (to (leads_to (grid_of j) s x))) off

abbrev pub FlowIn : Job → List ℕ → Type 0
FlowIn j s = Flow (graph j) (back_link j s) (on_link j s)
