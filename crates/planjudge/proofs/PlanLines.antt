-- The lines of a sheet: its rides are those of the paths and, behind them, those of the spare carts. What is known of either is known of every ride: its cart, its cells, and that it ends by
-- the last step. Assumes nothing.
use Prim.Native.Nat.{ℕ, suc, ◌+◌, ◌≤◌, ◌<◌}
use mathlib.Core.Path.{◌≡◌, refl, sym, ap, ◌∙◌}
use mathlib.Core.List.{List, [], ◌++◌, map}
use mathlib.Core.Bool.{true}
use mathlib.Core.Logic.{◌⊎◌, inl, inr}
use native.Mathlib.Omega.{arith}
use lib.ListN.{length, get_or}
use Rattle.std.proofs.Math.ListN.{get_or-map}
use Rattle.std.proofs.lemmas.List.{map-append}
use Rattle.std.proofs.lemmas.Simd.{map-map}
use Rattle.model.specs.Lists.{In}
use Rattle.model.specs.Job.{call_of, horizon}
use Rattle.model.specs.Plan as plan
use Rattle.model.specs.Plan.{Path, ride_of}
use Rattle.model.specs.Ready.{Ready}
use Rattle.model.specs.ReadSheet.{known_path, known_spare}
use Rattle.model.proofs.Lists.{in_part, in_unmap}
use Rattle.job.specs.Lists.{as_call, job_of}
use Rattle.job.specs.declared.state.Job.{Job}
use Rattle.job.specs.declared.held.Ride.{Ride}
use Rattle.job.specs.Held.{as_path, as_ride}
use Rattle.job.proofs.Lists.{no_call, calls_count, deadline_by, deadline_at, in_mapped}
use Rattle.planjudge.specs.PlanTests.{ride_at, call_at, CallsKnown, CartsKnown}
use Rattle.planjudge.proofs.PlanLaws.{no_later, Ranged, known_ranged, RangedSpare, spare_ranged}

-- What is given: the job as its lists have it, and lines whose numbers are known.
pub record Given (s : Job) (paths spares : List Ride) : Type 0 where
  pub ready : Ready (job_of s)
  pub calls : length paths ≡ length s.calls.items
  pub carts : length paths + length spares ≡ length s.carts.items
  pub known_paths : (p : Path) → In p (map as_path paths) → known_path (job_of s) p ≡ true
  pub known_spares : (r : plan.Ride) → In r (map as_ride spares) → known_spare (job_of s) r ≡ true

-- what every line keeps to
pub record LineKnown (s : Job) (r : plan.Ride) : Type 0 where
  pub cart : r.cart < length s.carts.items
  pub ends : length r.cells ≤ suc (horizon (job_of s))
  pub cells : (t : ℕ) → t < length r.cells → get_or r.cells t 0 < s.cells

-- what stands behind the end of a list
abbrev pub no_ride : Ride
no_ride = record { cart = 0; call = 0; last = 0; cells = [] }

-- ride k of a list is one of them
pub ride_in : (rides : List Ride) (k : ℕ) → k < length rides → In (as_ride (ride_at rides k)) (map as_ride rides)
ride_in rides k h = (in_mapped as_ride rides no_ride (as_ride (ride_at rides k))).1 (k, h, refl)

pub path_in : (paths : List Ride) (k : ℕ) → k < length paths → In (as_path (ride_at paths k)) (map as_path paths)
path_in paths k h = (in_mapped as_path paths no_ride (as_path (ride_at paths k))).1 (k, h, refl)

-- a path's call, in the job
pub call_is : (s : Job) (path : Ride) → call_of (job_of s) path.call ≡ as_call (call_at s.calls.items path)
call_is s path = get_or-map as_call s.calls.items path.call no_call

pub all_rides : (paths spares : List Ride) → map ride_of (map as_path paths) ++ map as_ride spares ≡ map as_ride (paths ++ spares)
all_rides paths spares = ap (λ l. l ++ map as_ride spares) (map-map ride_of as_path paths) ∙ sym (map-append as_ride paths spares)

module _ {s : Job} {paths spares : List Ride} (g : Given s paths spares) where
  pub ranged : (p : Path) → In p (map as_path paths) → Ranged (job_of s) p
  ranged p i = known_ranged (job_of s) p (g.known_paths p i)

  pub ranged_spare : (r : plan.Ride) → In r (map as_ride spares) → RangedSpare (job_of s) r
  ranged_spare r i = spare_ranged (job_of s) r (g.known_spares r i)

  pub path_known : (p : Path) → In p (map as_path paths) → LineKnown s (ride_of p)
  path_known p i =
      let r = ranged p i in
      let q = call_of (job_of s) p.call in
      let c : p.call < length s.calls.items = omega (arith, r.call, calls_count s) in
      let met = no_later q.kind q.deadline r.last r.in_time in
      record { cart = r.cart; ends = omega (arith, r.size, met, deadline_at s p.call, deadline_by s p.call c); cells = r.cells }

  pub spare_known : (r : plan.Ride) → In r (map as_ride spares) → LineKnown s r
  spare_known r i = let k = ranged_spare r i in record { cart = k.cart; ends = omega (arith, k.size); cells = k.cells }

  pub ride_known : (r : plan.Ride) → In r (map as_ride (paths ++ spares)) → LineKnown s r
  ride_known r i = go (in_part r (map ride_of (map as_path paths)) (map as_ride spares) (rw (← all_rides paths spares) at i))
    where
      go : In r (map ride_of (map as_path paths)) ⊎ In r (map as_ride spares) → LineKnown s r
      go (inl m) = let (p, n, e) = in_unmap ride_of r (map as_path paths) m in rw (← e) (path_known p n)
      go (inr m) = spare_known r m

  pub calls_known : CallsKnown s.calls.items paths
  calls_known k h = omega (arith, (ranged _ (path_in paths k h)).call, calls_count s)

  pub paths_carts : CartsKnown s.carts.items paths
  paths_carts k h = (path_known _ (path_in paths k h)).cart

  pub spares_carts : CartsKnown s.carts.items spares
  spares_carts k h = (spare_known _ (ride_in spares k h)).cart
