-- Paths, spare carts and choke points as they are held. A path and a spare cart's ride have one form: the cells are those of the row up to the last step. The spare carts stand behind
-- the paths.
use Rattle.std.specs.Prelude.{ℕ, suc, ◌<◌, ◌≡◌, List, Bool, true, false, map, take, drop}
use Rattle.model.specs.Plan as plan
use Rattle.model.specs.Plan.{Path}
use Rattle.model.specs.Choke as choke
use Rattle.model.specs.Choke.{point, cell_step, whole_call}
use Rattle.job.specs.declared.held.Ride.{Ride}
use Rattle.job.specs.declared.held.Choke.{Choke}
use Rattle.job.specs.declared.held.Choke.TheVariants as variant

abbrev pub as_path : Ride → Path
as_path r = record { cart = r.cart; call = r.call; cells = take (suc r.last) r.cells }

abbrev pub as_ride : Ride → plan.Ride
as_ride r = record { cart = r.cart; cells = take (suc r.last) r.cells }

-- the first n are paths, those behind them spare carts
abbrev pub paths_to : List Ride → ℕ → List Path
paths_to rides n = map as_path (take n rides)

abbrev pub spares_from : List Ride → ℕ → List plan.Ride
spares_from rides n = map as_ride (drop n rides)

abbrev pub as_choke : Choke → choke.Choke
as_choke (variant.Cell t v) = cell_step (point v t)
as_choke (variant.Call k) = whole_call k

abbrev pub as_chokes : List Choke → List choke.Choke
as_chokes = map as_choke

-- P holds of a number below n.
abbrev pub Some : ℕ → (ℕ → Type 0) → Type 0
Some n P = (k : ℕ) × (k < n) × P k

-- What a test of P answers.
abbrev pub Decides : Bool → Type 0 → Type 0
Decides r P = (r ≡ true → P) × (r ≡ false → P → ⊥)
