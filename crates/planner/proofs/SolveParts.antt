-- What each part of the planner hands to the next: the store that a job is lent has room for its grid, and what serving the calls leaves is what the paths and the choke list ask for.
-- Assumes nothing.
use Prim.Native.Nat.{ℕ, ◌+◌, ◌*◌, ◌≤◌}
use mathlib.Core.Path.{◌≡◌, refl, ap, ◌∙◌}
use mathlib.Core.List.{List}
use native.Mathlib.Nat.{mul-le-mul_left}
use native.Mathlib.Numerals.{add-one}
use native.Mathlib.Omega.{arith}
use lib.ListN.{length}
use Rattle.std.specs.Prelude.{Err}
use Rattle.model.specs.Job.{Job, horizon, store_least}
use Rattle.job.specs.Lists.{job_of}
use Rattle.job.specs.declared.state.Job as lists
use Rattle.job.specs.declared.held.Ride.{Ride}
use Rattle.job.proofs.Lists.{calls_count}
use Rattle.network.specs.declared.planes.Grid.{Grid}
use Rattle.network.specs.Store.{grid_of, Spacious}
use Rattle.network.specs.Holds.{Holds}
use Rattle.route.specs.declared.serve.Unserved.{Unserved}
use Rattle.answer.specs.Cut.{Failed}
use Rattle.answer.specs.Full.{FullFlow, PathsTraced, PathsWritten}
use Rattle.answer.specs.Spares.{Unkept, AllKept}
use Rattle.answer.proofs.Calls.{cells_listed}
use Rattle.planner.specs.Solved.{ServedAll, AllServed}

-- The grid that is made of the last step.
abbrev pub grid_to : Job → ℕ → Grid
grid_to j last = record { cells = j.cells; top = last + 1; nodes = (last + 1 + 1) * j.cells }

pub grid_is : (j : Job) {last : ℕ} → last ≡ horizon j → grid_to j last ≡ grid_of j
grid_is j e = ap (grid_to j) e ∙ ap (λ t. record { cells = j.cells; top = t; nodes = (t + 1) * j.cells }) (add-one (horizon j))

pub roomy : (j : Job) (s : List ℕ) {g : Grid} → g ≡ grid_of j → store_least j ≤ length s → Spacious g s
roomy j s e room =
    let less : j.cells ≤ j.cells + 2 * length j.tracks = omega arith in
    rw e (omega (arith, mul-le-mul_left ((horizon j + 1) * 32) less))

-- A search that failed shows why.
pub stuck : (a : lists.Job) {g : Grid} {s : List ℕ} → Holds (job_of a) g s → {e : Unserved} → ServedAll (job_of a) s (Err e) → Failed (job_of a) a.calls.items g s e.stamp
stuck a holds one = record { listed = refl; holds = holds; from = one.0; stuck = one.1 }

-- The carts that are left are given lines, then the paths are read off, then the rides.
module _ (a : lists.Job) {cart_on order : List ℕ} {g : Grid} {s : List ℕ} (h : AllServed (job_of a) cart_on order g s) where
  pub unkept : Unkept (job_of a) a.carts.items g s
  unkept = record { listed = refl; holds = h.holds; full = h.full }

  module _ {s' : List ℕ} (k : AllKept (job_of a) g s') where
    pub kept_flow : FullFlow (job_of a) a.calls.items cart_on order g s'
    kept_flow = record { listed = cells_listed (job_of a) a.calls.items refl; carts = h.carts; ordered = h.ordered; kept = k }

    pub paths_written : {rides : List Ride} → length rides ≡ length a.carts.items → PathsTraced (job_of a) order s' rides (length a.calls.items)
        → PathsWritten (job_of a) a.carts.items (length a.calls.items) order g s' rides
    paths_written room w = record { listed = refl; counted = calls_count a; room = room; ordered = h.ordered; kept = k; paths = w }
