-- What a search is handed, what it does to the store, and what it finds; the same for the way that is laid after it.
use Rattle.std.specs.Prelude.{ℕ, ◌-◌, ◌<◌, ◌≤◌, ◌≡◌, List, Option, None, Some, true, ◌⊎◌, ◌↔◌, length}
use Rattle.model.specs.Job.{Job}
use Rattle.model.specs.Choke.{Point}
use Rattle.floor.specs.Tables.{Tables}
use Rattle.floor.specs.declared.tables.Tables as floor
use Rattle.flow.specs.Flow.{off, end}
use Rattle.flow.specs.Way.{Way}
use Rattle.network.specs.Graph.{graph, is_target, Inside}
use Rattle.network.specs.Store.{nodes, grid_of, mark_at, is_marked}
use Rattle.network.specs.Links.{FlowIn, back_link, on_link}
use Rattle.network.specs.Holds.{Holds, SameFlow}
use Rattle.network.specs.Stuck.{Stuck}
use Rattle.network.specs.declared.planes.Grid.{Grid}
use Rattle.route.specs.Stack.{pos_at, hops_to}

-- Each mark is as it was, or is b.
abbrev pub MarksOr : Grid → List ℕ → List ℕ → ℕ → Type 0
MarksOr g s s' b = (v : ℕ) → v < g.nodes → (mark_at g s' v ≡ mark_at g s v) ⊎ (mark_at g s' v ≡ b)

-- No mark has the stamp.
abbrev pub Fresh : Job → List ℕ → ℕ → Type 0
Fresh j s stamp = (v : ℕ) → v < nodes j → mark_at (grid_of j) s v ≡ stamp → ⊥

-- The tables are the job's, and the store holds a flow that does not serve the call of the node x yet.
pub record Searching (j : Job) (T : floor.Tables) (s : List ℕ) (g : Grid) (x : Point) : Type 0 where
  pub tables : Tables j T.near.near T.near.begin T.due T.shut T.cart_on
  pub holds : Holds j g s
  pub known : Inside j x
  pub target : is_target j x ≡ true
  pub idle : back_link j s x ≡ off

-- The stack holds a way of that depth through the flow that the store holds.
pub record OnStack (j : Job) (s : List ℕ) (depth : ℕ) : Type 0 where
  pub deep : 0 < depth
  pub fit : depth ≤ nodes j
  pub known : (i : ℕ) → i < depth → Inside j (pos_at (grid_of j) s i)
  pub way : Way (graph j) (back_link j s) (on_link j s) (pos_at (grid_of j) s 0) (hops_to (grid_of j) s (depth - 1))

-- A search from the call's node x failed; or the stack, as deep as it answers, holds a way to a free cart.
abbrev pub Ends : Job → List ℕ → List ℕ → ℕ → Point → Option ℕ → Type 0
Ends j s s' stamp x None = Fresh j s stamp → Stuck j (back_link j s') (on_link j s') (is_marked j s' stamp) x
Ends j s s' stamp x (Some d) = OnStack j s' d × (pos_at (grid_of j) s' 0 ≡ x)

pub record Searched (j : Job) (s s' : List ℕ) (stamp : ℕ) (x : Point) (r : Option ℕ) : Type 0 where
  pub same : SameFlow (grid_of j) s s'
  pub marks : MarksOr (grid_of j) s s' stamp
  pub ends : Ends j s s' stamp x r

-- That way may be laid.
pub record Laying (j : Job) (s : List ℕ) (g : Grid) (depth : ℕ) : Type 0 where
  pub holds : Holds j g s
  pub stack : OnStack j s depth

-- The way from x on the stack was laid into the flow: it serves the call of x too.
pub record Augmented (j : Job) (s s' : List ℕ) (x : Point) : Type 0 where
  pub long : length s' ≡ length s
  pub flow : FlowIn j s'
  pub serves : (v : Point) → (on_link j s' v ≡ end) ↔ ((on_link j s v ≡ end) ⊎ (v ≡ x))
  pub marks : MarksOr (grid_of j) s s' 0
