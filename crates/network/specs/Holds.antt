-- What the store holds: a flow of a job.
use Rattle.std.specs.Prelude.{◌≡◌, List, ℕ, ◌<◌, length}
use Rattle.model.specs.Job.{Job}
use Rattle.model.specs.Ready.{Ready}
use Rattle.network.specs.declared.planes.Grid.{Grid}
use Rattle.network.specs.Store.{grid_of, Spacious, used_at, next_at, prev_at}
use Rattle.network.specs.Links.{FlowIn}

pub record Holds (j : Job) (g : Grid) (s : List ℕ) : Type 0 where
  pub ready : Ready j
  pub grid : g ≡ grid_of j
  pub room : Spacious g s
  pub flow : FlowIn j s

-- The planes of the flow are the same: used, on and back.
pub record SameFlow (g : Grid) (s s' : List ℕ) : Type 0 where
  pub long : length s' ≡ length s
  pub used : (v : ℕ) → v < g.nodes → used_at g s' v ≡ used_at g s v
  pub next : (v : ℕ) → v < g.nodes → next_at g s' v ≡ next_at g s v
  pub prev : (v : ℕ) → v < g.nodes → prev_at g s' v ≡ prev_at g s v
