-- The flow that the store holds while the carts that no call gets are given lines too: these begin at any node of the last step.
use Rattle.std.specs.Prelude.{ℕ, ◌≤◌, ◌≡◌, List, true, ◌⊎◌}
use Rattle.model.specs.Lists.{In}
use Rattle.model.specs.Job.{Job, Call, horizon}
use Rattle.model.specs.Choke.{Point}
use Rattle.model.specs.Ready.{Ready}
use Rattle.flow.specs.Flow.{Link, end, to, Flow}
use Rattle.network.specs.declared.planes.Grid.{Grid}
use Rattle.network.specs.Graph.{node_of, is_target, graph_from}
use Rattle.network.specs.Store.{grid_of, Spacious, place_at, next_at}
use Rattle.network.specs.Links.{back_link}

-- Lines begin at the calls and at the last step, and where S says.
abbrev pub BeginsAt : Job → (Point → Type 0) → Point → Type 0
BeginsAt j S x = (is_target j x ≡ true) ⊎ ((x.step ≡ horizon j) ⊎ S x)

-- Every call is served. Where a line goes on from a node to one of a step, the byte of the node tells its cell.
pub record Keeps (j : Job) (g : Grid) (s : List ℕ) (S : Point → Type 0) : Type 0 where
  pub ready : Ready j
  pub grid : g ≡ grid_of j
  pub room : Spacious g s
  pub on : Point → Link Point
  pub flow : Flow (graph_from j (BeginsAt j S)) (back_link j s) on
  pub full : (q : Call) → In q j.calls → on (node_of j q) ≡ end
  pub tells : (x y : Point) → on x ≡ to y → y.step ≤ horizon j → next_at g s (place_at g x) ≡ y.cell

-- No line begins elsewhere.
abbrev pub KeepsAll : Job → Grid → List ℕ → Type 0
KeepsAll j g s = Keeps j g s (λ x. ⊥)

-- One line begins at u as yet.
pub record LooseAt (j : Job) (g : Grid) (s : List ℕ) (u : Point) : Type 0 where
  pub keeps : Keeps j g s (λ x. x ≡ u)
  pub loose : keeps.on u ≡ end

-- The nodes of step 0 have the links that they had.
abbrev pub SameStarts : Job → List ℕ → List ℕ → Type 0
SameStarts j s s' = (x : Point) → x.step ≡ 0 → back_link j s' x ≡ back_link j s x
