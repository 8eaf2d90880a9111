-- The tests of a plan, put together, are what makes paths and spare carts a plan in the written order, both ways. Different rides stand for different carts: on one side because they do not
-- share a cell at step 0, on the other because no cart has two rides. Assumes nothing.
use Prim.Native.Nat.{ℕ, suc, ◌≤◌, ◌<◌}
use mathlib.Core.Path.{◌≡◌, sym, ap, ◌∙◌}
use mathlib.Core.List.{List, ◌++◌, map}
use native.Mathlib.Omega.{arith}
use native.Mathlib.Numerals.{add-one}
use lib.ListN.{length, get_or}
use Rattle.std.proofs.lemmas.List.{length-map}
use Rattle.model.specs.Lists.{In}
use Rattle.model.specs.Job.{horizon}
use Rattle.model.specs.Plan as plan
use Rattle.model.specs.Plan.{Plan, Before, PlanInOrder, SparesInOrder, Share, Trade, Apart}
use Rattle.model.specs.Promises.{RightPlan}
use Rattle.model.proofs.Decide.{dec_eq}
use Rattle.job.specs.Lists.{job_of}
use Rattle.job.specs.declared.state.Job.{Job}
use Rattle.job.specs.declared.held.Ride.{Ride}
use Rattle.job.specs.Held.{as_path, as_ride}
use Rattle.job.proofs.Lists.{calls_count, in_mapped}
use Rattle.planjudge.specs.declared.walks.Floor.{Floor}
use Rattle.planjudge.specs.PlanTests.{ride_at, walk_at, Ordered, SparesRise, IsFloor, AllLed, AllStay, Clear}
use Rattle.planjudge.proofs.PlanLaws.{own_of, own_at, rise_of, rise_at, own_calls}
use Rattle.planjudge.proofs.PlanLines.{no_ride, Given, ride_in, call_is, ride_known, all_rides}
use Rattle.planjudge.proofs.PlanWalks.{led_leads, stayed_stays, starts_on}

-- Order.
pub plan_ordered : (s : Job) (paths : List Ride) → PlanInOrder (job_of s) (map as_path paths) → Ordered s.calls.items paths
plan_ordered s paths r k h = rw add-one (rw (call_is s (ride_at paths k), call_is s (ride_at paths (suc k))) at (rise_at as_path paths no_ride (Before (job_of s)) r k (omega arith)))

ordered_plan : (s : Job) (paths : List Ride) → Ordered s.calls.items paths → PlanInOrder (job_of s) (map as_path paths)
ordered_plan s paths o = rise_of as_path paths no_ride (Before (job_of s)) (λ k h. rw (call_is s (ride_at paths k), call_is s (ride_at paths (suc k))) (rw add-one at (o k (omega arith))))

pub spares_rising : (spares : List Ride) → SparesInOrder (map as_ride spares) → SparesRise spares
spares_rising spares r k h = rw add-one (rise_at as_ride spares no_ride (λ r x. r.cart < x.cart) r k (omega arith))

rising_spares : (spares : List Ride) → SparesRise spares → SparesInOrder (map as_ride spares)
rising_spares spares o = rise_of as_ride spares no_ride (λ r x. r.cart < x.cart) (λ k h. rw add-one at (o k (omega arith)))

-- No two rides in one place.
pub apart_clear : (rides : List Ride) → Apart (map as_ride rides) → (t : ℕ) → Clear rides t
apart_clear rides p t = (
  (λ i k a b c. one i k a b (p.no_share _ _ (ride_in rides i a) (ride_in rides k b) t c)),
  λ k a (i, b, other, c). other (one i k b a (sym (p.no_trade _ _ (ride_in rides k a) (ride_in rides i b) t c))),
)
  where
    one : (i k : ℕ) → i < length rides → k < length rides → (ride_at rides i).cart ≡ (ride_at rides k).cart → i ≡ k
    one = own_at as_ride rides no_ride (λ r. r.cart) p.own_cart

module _ (carts : List ℕ) (rides : List Ride) (h : ℕ) (late : (r : plan.Ride) → In r (map as_ride rides) → length r.cells ≤ suc h) (clear : (t : ℕ) → t ≤ h → Clear rides t) where
  one_share : (i k t : ℕ) → i < length rides → k < length rides → Share (walk_at rides i) (walk_at rides k) t → i ≡ k
  one_share i k t a b (v, x, y) =
      let l = x.0 in
      (clear t (omega (arith, late _ (ride_in rides i a)))).0 i k a b (v, x, y)

  one_trade : (i k t : ℕ) → i < length rides → k < length rides → Trade (walk_at rides i) (walk_at rides k) t → i ≡ k
  one_trade i k t a b c = go (dec_eq k i)
    where
      go : Dec (k ≡ i) → i ≡ k
      go (yes e) = sym e
      go (no other) =
          let (u, v, x, x', y, y') = c in
          let l = x.0 in
          absurd ((clear t (omega (arith, late _ (ride_in rides i a)))).1 i a (k, b, other, c))

  -- what is one ride has one cart
  no_pair : (C : List ℕ → List ℕ → ℕ → Type 0) → ((i k t : ℕ) → i < length rides → k < length rides → C (walk_at rides i) (walk_at rides k) t → i ≡ k)
      → (p q : plan.Ride) → In p (map as_ride rides) → In q (map as_ride rides) → (t : ℕ) → C p.cells q.cells t → p.cart ≡ q.cart
  no_pair C one p q x y t w =
      let (i, a, e) = (in_mapped as_ride rides no_ride p).0 x in
      let (k, b, f) = (in_mapped as_ride rides no_ride q).0 y in
      ap (λ p. p.cart) e ∙ ap (λ x. (ride_at rides x).cart) (one i k t a b (rw (e, f) at w)) ∙ sym (ap (λ p. p.cart) f)

  clear_apart : ((r : plan.Ride) → In r (map as_ride rides) → (0 < length r.cells) × (get_or r.cells 0 0 ≡ get_or carts r.cart 0)) → Apart (map as_ride rides)
  clear_apart f = record {
    own_cart = own_of as_ride rides no_ride (λ r. r.cart) (λ i k a b e.
        let x = f _ (ride_in rides i a) in
        let y = f _ (ride_in rides k b) in
        one_share i k 0 a b (_, x, (y.0, y.1 ∙ ap (λ c. get_or carts c 0) (sym e))));
    no_share = no_pair Share one_share;
    no_trade = no_pair Trade one_trade;
  }

module _ {s : Job} {paths spares : List Ride} (g : Given s paths spares) where
  pub plan_clear : Plan (job_of s) (map as_path paths) (map as_ride spares) → (t : ℕ) → Clear (paths ++ spares) t
  plan_clear p = apart_clear (paths ++ spares) (rw (all_rides paths spares) at p.apart)

  pub tests_right : {floor : Floor} → IsFloor (job_of s) floor → Ordered s.calls.items paths → SparesRise spares
      → AllLed floor s.carts.items s.calls.items paths → AllStay floor s.carts.items spares
      → ((t : ℕ) → t ≤ horizon (job_of s) → Clear (paths ++ spares) t) → RightPlan (job_of s) (map as_path paths) (map as_ride spares)
  tests_right made order rise led stayed clear = (
    record {
      served = record { size = omega (arith, length-map paths as_path, calls_count s, g.calls); leads = led_leads g made led; own_call = own_calls (job_of s) _ in_order };
      stay = stayed_stays g made stayed;
      size = omega (arith, length-map paths as_path, length-map spares as_ride, g.carts);
      apart = rw (all_rides paths spares) (clear_apart s.carts.items (paths ++ spares) (horizon (job_of s)) (λ r i. (ride_known g r i).ends) clear (starts_on g made led stayed));
    },
    (in_order, rising_spares spares rise),
  )
    where
      in_order : PlanInOrder (job_of s) (map as_path paths)
      in_order = ordered_plan s paths order
