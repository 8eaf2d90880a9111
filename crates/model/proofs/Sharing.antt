-- A plan is a sharing out: every call has its path, and every cart its ride, to a call or as a spare cart. There are as many as are to be shared out to, and no two have one call
-- or one cart, so none is missed.
use Prim.Native.Nat.{ℕ, ◌≤◌, ◌<◌}
use mathlib.Core.Path.{◌≡◌, refl, sym, ◌∙◌}
use mathlib.Core.List.{List, [], ◌∷◌, ◌++◌, map}
use mathlib.Core.Logic.{inl, inr}
use native.Mathlib.Omega.{arith}
use lib.ListN.{length, get_or}
use Rattle.model.specs.Lists.{In, NoDup}
use Rattle.model.specs.Job.{Job}
use Rattle.model.specs.Plan.{Path, Ride, ride_of, CallsServed, Plan}
use Rattle.model.proofs.Lists.{in_get_or, in_unmap, pigeon, place_of}
use Rattle.model.proofs.Rides.{ride_known, rides_all}
use Rattle.model.proofs.Decide.{dec_in, dec_eq}
use Rattle.model.proofs.Listed.{below, length_below, in_below}

-- n members whose numbers are below n, no two the same: a number below n, that of x, is the number of a member.
pub every : {A : Type 0} (f : A → ℕ) (n : ℕ) (l : List A) → length l ≡ n → NoDup (map f l) → ((a : A) → In a l → f a < n)
    → (x : A) → f x < n → (a : A) × In a l × (f a ≡ f x)
every {A} f n l size own known x h = go (dec_in dec_eq (f x) (map f l))
  where
    go : Dec (In (f x) (map f l)) → (a : A) × In a l × (f a ≡ f x)
    go (yes m) = in_unmap f (f x) l m
    go (no out) = absurd (omega (arith, fits, length_below n))
      where
        small : (a : A) → In a (x ∷ l) → f a < n
        small a (inl e) = rw e h
        small a (inr m) = known a m

        fits : length (x ∷ l) ≤ length (below n)
        fits = pigeon (λ i y. f (get_or (x ∷ l) i x) ≡ y) (length (x ∷ l)) (below n)
            (λ i k. (f (get_or (x ∷ l) i x), in_below n (f (get_or (x ∷ l) i x)) (small (get_or (x ∷ l) i x) (in_get_or (x ∷ l) i x k)), refl))
            (λ a b y k m e g. place_of f (x ∷ l) (out, own) a b x k m (e ∙ sym g))

pub every_call : (j : Job) (ps : List Path) → CallsServed j ps → (k : ℕ) → k < length j.calls → (p : Path) × In p ps × (p.call ≡ k)
every_call j ps sv k h =
    every (λ p. p.call) (length j.calls) ps sv.size sv.own_call (λ p m. (sv.leads p m).known_call) (record { cart = 0; call = k; cells = [] }) h

pub every_cart : (j : Job) (ps : List Path) (ss : List Ride) → Plan j ps ss → (k : ℕ) → k < length j.carts → (r : Ride) × In r (map ride_of ps ++ ss) × (r.cart ≡ k)
every_cart j ps ss pl k h =
    every (λ r. r.cart) (length j.carts) (map ride_of ps ++ ss) (rides_all j ps ss pl) pl.apart.own_cart (ride_known j ps ss pl) (record { cart = k; cells = [] }) h
