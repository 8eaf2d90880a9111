-- What the tests of a plan decide, of the rides of a sheet's lines: first those of the paths, which have a call too, behind them those of the spare carts. A ride's cart is on its cells from
-- step 0 to its last.
use Rattle.std.specs.Prelude.{ℕ, suc, ◌+◌, ◌<◌, ◌≡◌, List, [], ◌⊎◌, true, Option, None, Some, get_or, length}
use Rattle.model.specs.Limits.{max_cells}
use Rattle.model.specs.Lists.{In}
use Rattle.model.specs.Job as model
use Rattle.model.specs.Job.{track}
use Rattle.model.specs.Walk.{At}
use Rattle.model.specs.Plan.{Sooner, Share, Trade}
use Rattle.job.specs.declared.state.CallKind.TheVariants.{Lift}
use Rattle.job.specs.declared.state.Call.{Call}
use Rattle.job.specs.declared.held.Ride.{Ride}
use Rattle.job.specs.Bits.{bit_at, pair_at}
use Rattle.job.specs.Lists.{as_call}
use Rattle.job.specs.Held.{as_ride}
use Rattle.floor.specs.Tables.{OpenAt, Shut}
use Rattle.planjudge.specs.declared.walks.Floor.{Floor}

-- ride k of a list
abbrev pub ride_at : List Ride → ℕ → Ride
ride_at rides k = get_or rides k (record { cart = 0; call = 0; last = 0; cells = [] })

-- its cells
abbrev pub walk_at : List Ride → ℕ → List ℕ
walk_at rides k = (as_ride (ride_at rides k)).cells

-- the call of a path
abbrev pub call_at : List Call → Ride → Call
call_at calls path = get_or calls path.call (record { kind = Lift; cell = 0; deadline = 0 })

-- Each path's call is one of these, each ride's cart has a cell here.
abbrev pub CallsKnown : List Call → List Ride → Type 0
CallsKnown calls paths = (k : ℕ) → k < length paths → (ride_at paths k).call < length calls

abbrev pub CartsKnown : List ℕ → List Ride → Type 0
CartsKnown carts rides = (k : ℕ) → k < length rides → (ride_at rides k).cart < length carts

-- Each path's call stands before the next one's.
abbrev pub Ordered : List Call → List Ride → Type 0
Ordered calls paths = (k : ℕ) → k + 1 < length paths → Sooner (as_call (call_at calls (ride_at paths k))) (as_call (call_at calls (ride_at paths (k + 1))))

-- Each spare cart has a smaller number than the next.
abbrev pub SparesRise : List Ride → Type 0
SparesRise spares = (k : ℕ) → k + 1 < length spares → (ride_at spares k).cart < (ride_at spares (k + 1)).cart

-- The table's bit is set for the two cells of each track, either way round, and for no other two.
pub record Marks (tracks : List model.Track) (table : List ℕ) : Type 0 where
  pub all : (u v : ℕ) → u < max_cells → v < max_cells → In (track u v) tracks → bit_at table (pair_at u v) ≡ true
  pub only : (u v : ℕ) → u < max_cells → v < max_cells → bit_at table (pair_at u v) ≡ true → In (track u v) tracks ⊎ In (track v u) tracks

-- The tables are those of the job.
pub record IsFloor (j : model.Job) (floor : Floor) : Type 0 where
  pub marks : Marks j.tracks floor.joined.bytes
  pub shuts : Shut j floor.shut

-- By the tables, a cart may go from u to v in a step.
abbrev pub Goes : Floor → ℕ → ℕ → Type 0
Goes floor u v = (u ≡ v) ⊎ (bit_at floor.joined.bytes (pair_at u v) ≡ true)

-- By the tables, it may do so from the step t to the next: `shut` has for each cell the first step at which it is closed.
abbrev pub Allowed : Floor → ℕ → ℕ → ℕ → Type 0
Allowed floor t u v = Goes floor u v × OpenAt floor.shut (suc t) v

-- By the tables, w is a walk from the cell a.
pub record Walks (floor : Floor) (a : ℕ) (w : List ℕ) : Type 0 where
  pub starts : At w 0 a
  pub steps : (t : ℕ) → suc t < length w → Allowed floor t (get_or w t 0) (get_or w (suc t) 0)

-- It is one that ends on the cell b.
pub record Led (floor : Floor) (a b : ℕ) (w : List ℕ) : Type 0 where
  pub walks : Walks floor a w
  pub ends : (t : ℕ) → length w ≡ suc t → get_or w t 0 ≡ b

-- Each path goes from its cart's start to its call's cell.
abbrev pub AllLed : Floor → List ℕ → List Call → List Ride → Type 0
AllLed floor carts calls paths =
    (k : ℕ) → k < length paths → Led floor (get_or carts (ride_at paths k).cart 0) (call_at calls (ride_at paths k)).cell (walk_at paths k)

-- Each spare cart walks from its start.
abbrev pub AllStay : Floor → List ℕ → List Ride → Type 0
AllStay floor carts spares = (k : ℕ) → k < length spares → Walks floor (get_or carts (ride_at spares k).cart 0) (walk_at spares k)

-- No two carts share a cell at the step t.
abbrev pub Unshared : List Ride → ℕ → Type 0
Unshared rides t = (k m : ℕ) → k < length rides → m < length rides → Share (walk_at rides k) (walk_at rides m) t → k ≡ m

-- Another cart trades places with ride k's from the step t to the next.
abbrev pub Trades : List Ride → ℕ → ℕ → Type 0
Trades rides t k = (m : ℕ) × (m < length rides) × (m ≡ k → ⊥) × Trade (walk_at rides k) (walk_at rides m) t

-- No cart trades places from the step t to the next.
abbrev pub Untraded : List Ride → ℕ → Type 0
Untraded rides t = (k : ℕ) → k < length rides → Trades rides t k → ⊥

-- At the step t the carts are in nobody's way.
abbrev pub Clear : List Ride → ℕ → Type 0
Clear rides t = Unshared rides t × Untraded rides t

-- `on` has for each cell the number of the ride whose cart is on it at the step t, of the first n.
pub record Standing (rides : List Ride) (n t : ℕ) (on : List (Option ℕ)) : Type 0 where
  pub there : (k c : ℕ) → k < n → At (walk_at rides k) t c → get_or on c None ≡ Some k
  pub back : (k c : ℕ) → get_or on c None ≡ Some k → (k < n) × At (walk_at rides k) t c
