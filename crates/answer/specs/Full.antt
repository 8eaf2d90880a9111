-- A flow that serves every call of a job that is known by its lists, and gives every cart a line; and the paths that are read off it.
use Rattle.std.specs.Prelude.{ℕ, ◌<◌, ◌≡◌, List, map, length, get_or}
use Rattle.model.specs.Job.{Job}
use Rattle.job.specs.declared.state.Call.{Call}
use Rattle.job.specs.declared.held.Ride.{Ride}
use Rattle.job.specs.Lists.{cells_of}
use Rattle.job.specs.Held.{as_path}
use Rattle.floor.specs.Tables.{CartOn}
use Rattle.floor.specs.Order.{Order}
use Rattle.network.specs.declared.planes.Grid.{Grid}
use Rattle.network.specs.Traced.{Traced}
use Rattle.answer.specs.Trail.{back_from}
use Rattle.answer.specs.Spares.{AllKept, ride_at}

-- The calls' cells, the table of carts and the order are the job's.
pub record FullFlow (j : Job) (calls : List Call) (cart_on order : List ℕ) (grid : Grid) (s : List ℕ) : Type 0 where
  pub listed : map (λ q. q.cell) j.calls ≡ cells_of calls
  pub carts : CartOn j cart_on
  pub ordered : Order j order
  pub kept : AllKept j grid s

-- The first i rides are the paths of the first i calls in the order, traced.
pub record PathsTraced (j : Job) (order s : List ℕ) (rides : List Ride) (i : ℕ) : Type 0 where
  pub calls : (m : ℕ) → m < i → (ride_at rides m).call ≡ get_or order m 0
  pub traced : (m : ℕ) → m < i → Traced j (back_from j s) (as_path (ride_at rides m))

-- All paths are, and the carts that are left are still to be; there is a ride for each cart.
pub record PathsWritten (j : Job) (carts : List ℕ) (calls : ℕ) (order : List ℕ) (grid : Grid) (s : List ℕ) (rides : List Ride) : Type 0 where
  pub listed : j.carts ≡ carts
  pub counted : length j.calls ≡ calls
  pub room : length rides ≡ length carts
  pub ordered : Order j order
  pub kept : AllKept j grid s
  pub paths : PathsTraced j order s rides calls
