-- Paths that follow a flow of the graph back in time, and a flow in which no two carts trade cells.
use Rattle.std.specs.Prelude.{ℕ, suc, ◌<◌, ◌≡◌, length, get_or}
use Rattle.model.specs.Job.{Job, cart_cell, call_of}
use Rattle.model.specs.Plan.{Path, Ride, ride_of}
use Rattle.model.specs.Choke.{Point, point}
use Rattle.flow.specs.Flow.{Link, to}
use Rattle.network.specs.Graph.{node_of}

-- The ride follows the links from its last cell down to its cart's cell at step 0.
pub record RideTraced (j : Job) (back : Point → Link Point) (r : Ride) : Type 0 where
  pub known_cart : r.cart < length j.carts
  pub follows : (t : ℕ) → suc t < length r.cells → back (point (get_or r.cells (suc t) 0) (suc t)) ≡ to (point (get_or r.cells t 0) t)
  pub starts : cart_cell j r.cart ≡ get_or r.cells 0 0

-- So does the path, from where its call is met at its last step.
pub record Traced (j : Job) (back : Point → Link Point) (p : Path) : Type 0 where
  pub ride : RideTraced j back (ride_of p)
  pub known_call : p.call < length j.calls
  pub last : ℕ
  pub size : length p.cells ≡ suc last
  pub ends : back (node_of j (call_of j p.call)) ≡ to (point (get_or p.cells last 0) last)

-- No two carts trade the ends of a track.
abbrev pub Calm : (Point → Link Point) → Type 0
Calm back = (u w t : ℕ) → back (point u (suc t)) ≡ to (point w t) → back (point w (suc t)) ≡ to (point u t) → u ≡ w
