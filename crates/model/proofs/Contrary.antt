-- A job whose calls can be served has no true choke list: each path stands on a choke point, and no two on the same one: on a cell since no two share it, on a whole call since
-- no two have it. A plan serves the calls, whatever its spare carts do.
use Prim.Native.Nat.{ℕ, ◌≤◌, ◌<◌}
use mathlib.Core.Path.{◌≡◌, sym, ◌∙◌}
use mathlib.Core.List.{List, [], map}
use native.Mathlib.Omega.{arith}
use lib.ListN.{length, get_or}
use Rattle.model.specs.Job.{Job}
use Rattle.model.specs.Plan.{Path, Ride, ride_of, CallsServed, Apart, Plan}
use Rattle.model.specs.Choke.{Choke, cell_step, whole_call, TrueChokes, Stops, StandsOn}
use Rattle.model.proofs.Lists.{in_get_or, in_map, pigeon, place_of}
use Rattle.model.proofs.Rides.{apart_left, own_carts}
use Rattle.model.specs.Lists.{In}

pub no_paths : (j : Job) (xs : List Choke) (ps : List Path) → TrueChokes j xs → CallsServed j ps → Apart (map ride_of ps) → ⊥
no_paths j xs ps tc sv free = omega (arith, fits, tc.few, sv.size)
  where
    p0 : Path
    p0 = record { cart = 0; call = 0; cells = [] }

    path : ℕ → Path
    path i = get_or ps i p0

    listed : (i : ℕ) → i < length ps → In (ride_of (path i)) (map ride_of ps)
    listed i h = in_map ride_of (path i) ps (in_get_or ps i p0 h)

    stands : (i : ℕ) → i < length ps → StandsOn (path i).cells (path i).call xs
    stands i h =
        let l = sv.leads (path i) (in_get_or ps i p0 h) in
        tc.chokes _ (in_get_or j.carts _ 0 l.known_cart) _ l.known_call _ l.walks l.serves

    one : (i k : ℕ) (x : Choke) → i < length ps → k < length ps → Stops (path i).cells (path i).call x → Stops (path k).cells (path k).call x → i ≡ k
    one i k (cell_step x) h h' a b =
        place_of (λ p. p.cart) ps (own_carts ps free) i k p0 h h'
        (free.no_share (ride_of (path i)) (ride_of (path k)) (listed i h) (listed k h') x.step (x.cell, a, b))
    one i k (whole_call m) h h' a b = place_of (λ p. p.call) ps sv.own_call i k p0 h h' (sym a ∙ b)

    fits : length ps ≤ length xs
    fits = pigeon (λ i x. Stops (path i).cells (path i).call x) (length ps) xs stands one

pub weak : (j : Job) (xs : List Choke) (ps : List Path) (ss : List Ride) → TrueChokes j xs → Plan j ps ss → ⊥
weak j xs ps ss tc pl = no_paths j xs ps tc pl.served (apart_left (map ride_of ps) ss pl.apart)
