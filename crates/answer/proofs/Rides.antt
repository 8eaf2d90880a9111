-- A ride written into the list of rides, and the paths and spare carts that the list has, one by one. Assumes nothing.
use Prim.Native.Nat.{ℕ, ◌+◌, ◌-◌, ◌<◌, ◌≤◌}
use mathlib.Core.Path.{◌≡◌, ◌∙◌, ap}
use mathlib.Core.List.{List, []}
use lib.ListN.{length, get_or, take, drop, set, length-drop}
use lib.Seq.{length-take-le, get_or-take, get_or-set_same, get_or-set_other}
use Rattle.std.proofs.Math.ListN.{get_or-map}
use Rattle.std.proofs.lemmas.List.{length-map, get_or-drop}
use Rattle.model.specs.Lists.{In}
use Rattle.model.specs.Plan as plan
use Rattle.model.specs.Plan.{Path}
use Rattle.model.proofs.Lists.{in_place}
use Rattle.job.specs.declared.held.Ride.{Ride}
use Rattle.job.specs.Held.{as_path, as_ride, paths_to, spares_from}
use Rattle.answer.specs.Spares.{ride_at}

-- what stands behind the end of a list
abbrev pub no_ride : Ride
no_ride = record { cart = 0; call = 0; last = 0; cells = [] }

abbrev pub no_path : Path
no_path = as_path no_ride

abbrev pub no_spare : plan.Ride
no_spare = as_ride no_ride

module _ (rides : List Ride) where
  pub ride_new : (k : ℕ) (ride : Ride) → k < length rides → ride_at (set rides k ride) k ≡ ride
  ride_new k ride h = get_or-set_same rides k ride no_ride h

  pub ride_kept : (k m : ℕ) (ride : Ride) → (m ≡ k → ⊥) → ride_at (set rides k ride) m ≡ ride_at rides m
  ride_kept k m ride ne = get_or-set_other rides k m ride no_ride ne

  module _ (n : ℕ) where
    pub ride_first : (k : ℕ) → k < n → ride_at (take n rides) k ≡ ride_at rides k
    ride_first k l = get_or-take n rides k no_ride l

    pub path_read : (k : ℕ) → k < n → get_or (paths_to rides n) k no_path ≡ as_path (ride_at rides k)
    path_read k l = get_or-map as_path (take n rides) k no_ride ∙ ap as_path (ride_first k l)

    pub spare_read : (k : ℕ) → get_or (spares_from rides n) k no_spare ≡ as_ride (ride_at rides (n + k))
    spare_read k = get_or-map as_ride (drop n rides) k no_ride ∙ ap as_ride (get_or-drop n rides k no_ride)

    pub spare_count : length (spares_from rides n) ≡ length rides - n
    spare_count = length-map (drop n rides) as_ride ∙ length-drop n rides

    pub spare_in : (r : plan.Ride) → In r (spares_from rides n) → (k : ℕ) × (k < length rides - n) × (r ≡ as_ride (ride_at rides (n + k)))
    spare_in r i = let (k, l, e) = in_place r (spares_from rides n) no_spare i in (k, rw spare_count at l, e ∙ spare_read k)

    module _ (h : n ≤ length rides) where
      pub path_count : length (paths_to rides n) ≡ n
      path_count = length-map (take n rides) as_path ∙ length-take-le n rides h

      pub path_in : (p : Path) → In p (paths_to rides n) → (k : ℕ) × (k < n) × (p ≡ as_path (ride_at rides k))
      path_in p i = let (k, l, e) = in_place p (paths_to rides n) no_path i in let m = rw path_count at l in (k, m, e ∙ path_read k m)
