-- What the planner's calls are served from, what that leaves, and what the planner answers.
use Rattle.std.specs.Prelude.{ℕ, ◌≡◌, List, Result, Ok, Err, length}
use Rattle.model.specs.Lists.{In}
use Rattle.model.specs.Job.{Job, Call}
use Rattle.model.specs.Ready.{Ready}
use Rattle.model.specs.Choke.{Point}
use Rattle.model.specs.Promises.{RightPlan, RightChokes}
use Rattle.job.specs.declared.held.Ride.{Ride}
use Rattle.job.specs.Held.{paths_to, spares_from, as_chokes}
use Rattle.floor.specs.declared.tables.Tables as lent
use Rattle.floor.specs.Tables.{CartOn, Tables}
use Rattle.floor.specs.Order.{Order}
use Rattle.flow.specs.Flow.{end}
use Rattle.network.specs.declared.planes.Grid.{Grid}
use Rattle.network.specs.Graph.{node_of}
use Rattle.network.specs.Store.{grid_of, Spacious, Blank, is_marked}
use Rattle.network.specs.Links.{back_link, on_link}
use Rattle.network.specs.Holds.{Holds}
use Rattle.network.specs.Stuck.{Stuck}
use Rattle.route.specs.declared.serve.Unserved.{Unserved}
use Rattle.planner.specs.declared.solve.Solution.{Solution}
use Rattle.planner.specs.declared.solve.Solution.TheVariants.{Plan, Cannot}

-- The tables and the order are the job's. The store has room for it, and no node is used or marked.
pub record Begun (j : Job) (t : lent.Tables) (order s : List ℕ) (g : Grid) : Type 0 where
  pub ready : Ready j
  pub tables : Tables j t.near.near t.near.begin t.due t.shut t.cart_on
  pub ordered : Order j order
  pub grid : g ≡ grid_of j
  pub room : Spacious g s
  pub blank : Blank g s

-- Every call is served, or one cannot be along with those before it: the marks with the stamp show why.
abbrev pub ServedAll : Job → List ℕ → Result Unit Unserved → Type 0
ServedAll j s (Ok u) = (q : Call) → In q j.calls → on_link j s (node_of j q) ≡ end
ServedAll j s (Err e) = (x : Point) × Stuck j (back_link j s) (on_link j s) (is_marked j s e.stamp) x

-- Every call was.
pub record AllServed (j : Job) (cart_on order : List ℕ) (g : Grid) (s : List ℕ) : Type 0 where
  pub carts : CartOn j cart_on
  pub ordered : Order j order
  pub holds : Holds j g s
  pub full : (q : Call) → In q j.calls → on_link j s (node_of j q) ≡ end

-- A plan in the written order: paths for the calls, and behind them the rides of the carts that are left.
abbrev pub PlanHeld : Job → List Ride → Type 0
PlanHeld j rides = RightPlan j (paths_to rides (length j.calls)) (spares_from rides (length j.calls))

-- That, or a true choke list in the written order.
abbrev pub Solved : Job → Solution → List Ride → Type 0
Solved j Plan rides = PlanHeld j rides
Solved j (Cannot chokes) rides = RightChokes j (as_chokes chokes.items)
