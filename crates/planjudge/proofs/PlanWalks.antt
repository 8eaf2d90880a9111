-- A list of cells is a walk by the job if and only if it is one by the tables: of the tracks, and of the steps at which cells close. A path that ends on its call's cell serves the call, since by
-- the number of its cells a known path ends at a step at which its call is met. Assumes nothing.
use Prim.Native.Nat.{ℕ, suc, ◌≤◌, ◌<◌}
use mathlib.Core.Path.{◌≡◌, sym, ap, ◌∙◌}
use mathlib.Core.List.{List, ◌++◌, map}
use mathlib.Core.Logic.{◌⊎◌, inl, inr}
use native.Mathlib.Omega.{arith}
use lib.ListN.{length, get_or}
use Rattle.std.proofs.lemmas.List.{map-append}
use Rattle.model.specs.Lists.{In}
use Rattle.model.specs.Limits.{max_cells, max_steps}
use Rattle.model.specs.Job as model
use Rattle.model.specs.Walk.{At, Move, Step, Walk}
use Rattle.model.specs.Plan as plan
use Rattle.model.specs.Plan.{Path, Leads, StaysOn}
use Rattle.model.proofs.Lists.{in_part}
use Rattle.model.proofs.Written.{few_steps}
use Rattle.job.specs.Lists.{job_of}
use Rattle.job.specs.declared.state.Job.{Job}
use Rattle.job.specs.declared.held.Ride.{Ride}
use Rattle.job.specs.Held.{as_path, as_ride}
use Rattle.job.proofs.Triangle.{pair_back}
use Rattle.job.proofs.Lists.{in_mapped}
use Rattle.planjudge.specs.declared.walks.Floor.{Floor}
use Rattle.planjudge.specs.PlanTests.{ride_at, IsFloor, Goes, Allowed, Walks, AllLed, AllStay}
use Rattle.planjudge.proofs.PlanLines.{no_ride, Given, LineKnown, ride_in, path_in, call_is, ranged, ranged_spare, path_known, spare_known}

-- Steps.
module _ {j : model.Job} {floor : Floor} (made : IsFloor j floor) (u v : ℕ) (a : u < max_cells) (b : v < max_cells) where
  goes : Move j u v → Goes floor u v
  goes (inl e) = inl e
  goes (inr (inl x)) = inr (made.marks.all u v a b x)
  goes (inr (inr x)) = inr (rw (pair_back u v) (made.marks.all v u b a x))

  move : Goes floor u v → Move j u v
  move (inl e) = inl e
  move (inr x) = inr (made.marks.only u v a b x)

  module _ (t : ℕ) (early : suc t ≤ max_steps) where
    allowed : Step j t u v → Allowed floor t u v
    allowed (m, o) = (goes m, (made.shuts.opens v (suc t) b early).1 o)

    step : Allowed floor t u v → Step j t u v
    step (x, l) = (move x, (made.shuts.opens v (suc t) b early).0 l)

-- Walks, over known cells and no more steps than there are.
module _ {j : model.Job} {floor : Floor} (made : IsFloor j floor) (w : List ℕ) (few : length w ≤ max_steps) (small : (t : ℕ) → t < length w → get_or w t 0 < max_cells) where
  walked : (c : ℕ) → Walk j c w → Walks floor c w
  walked c k = record {
    starts = k.starts;
    steps = λ t l. allowed made (get_or w t 0) (get_or w (suc t) 0) (small t (omega arith)) (small (suc t) l) t (omega arith) (k.steps t l);
  }

  walk : (c : ℕ) → Walks floor c w → Walk j c w
  walk c k = record {
    starts = k.starts;
    steps = λ t l. step made (get_or w t 0) (get_or w (suc t) 0) (small t (omega arith)) (small (suc t) l) t (omega arith) (k.steps t l);
  }

module _ {s : Job} {paths spares : List Ride} {floor : Floor} (g : Given s paths spares) (made : IsFloor (job_of s) floor) where
  -- a known line has no more cells than there are steps, and they are cells of the job
  pub few : {r : plan.Ride} → LineKnown s r → length r.cells ≤ max_steps
  few k = omega (arith, k.ends, few_steps (job_of s) g.ready.fit)

  pub small : {r : plan.Ride} → LineKnown s r → (t : ℕ) → t < length r.cells → get_or r.cells t 0 < max_cells
  small k t h = omega (arith, k.cells t h, g.ready.fit.few_cells)

  -- The paths.
  pub plan_led : ((p : Path) → In p (map as_path paths) → Leads (job_of s) p) → AllLed floor s.carts.items s.calls.items paths
  plan_led f k h =
      let p = as_path (ride_at paths k) in
      let i = path_in paths k h in
      let known = path_known g p i in
      let l = f p i in
      record {
        walks = walked made p.cells (few known) (small known) _ l.walks;
        ends = λ t e.
            let m : t ≡ l.serves.last = omega (arith, l.serves.size) in
            rw m (l.serves.ends ∙ ap (λ q. q.cell) (call_is s (ride_at paths k)));
      }

  pub led_leads : AllLed floor s.carts.items s.calls.items paths → (p : Path) → In p (map as_path paths) → Leads (job_of s) p
  led_leads f p i =
      let (k, h, e) = (in_mapped as_path paths no_ride p).0 i in
      rw e (leads k h)
    where
      leads : (k : ℕ) → k < length paths → Leads (job_of s) (as_path (ride_at paths k))
      leads k h =
          let p = as_path (ride_at paths k) in
          let i = path_in paths k h in
          let known = path_known g p i in
          let r = ranged g p i in
          record {
            known_cart = r.cart;
            known_call = r.call;
            walks = walk made p.cells (few known) (small known) _ (f k h).walks;
            serves = record { last = r.last; size = r.size; in_time = r.in_time; ends = (f k h).ends r.last r.size ∙ sym (ap (λ q. q.cell) (call_is s (ride_at paths k))) };
          }

  -- The spare carts.
  pub plan_stayed : ((r : plan.Ride) → In r (map as_ride spares) → StaysOn (job_of s) r) → AllStay floor s.carts.items spares
  plan_stayed f k h =
      let r = as_ride (ride_at spares k) in
      let i = ride_in spares k h in
      let known = spare_known g r i in
      walked made r.cells (few known) (small known) _ (f r i).walks

  pub stayed_stays : AllStay floor s.carts.items spares → (r : plan.Ride) → In r (map as_ride spares) → StaysOn (job_of s) r
  stayed_stays f r i = let (k, h, e) = (in_mapped as_ride spares no_ride r).0 i in rw e (stays k h)
    where
      stays : (k : ℕ) → k < length spares → StaysOn (job_of s) (as_ride (ride_at spares k))
      stays k h =
          let r = as_ride (ride_at spares k) in
          let i = ride_in spares k h in
          let known = spare_known g r i in
          let n = ranged_spare g r i in
          record { known_cart = n.cart; walks = walk made r.cells (few known) (small known) _ (f k h); size = n.size }

  -- Both: every line starts on its cart's cell.
  pub starts_on : AllLed floor s.carts.items s.calls.items paths → AllStay floor s.carts.items spares
      → (r : plan.Ride) → In r (map as_ride (paths ++ spares)) → At r.cells 0 (get_or s.carts.items r.cart 0)
  starts_on f v r i = go (in_part r (map as_ride paths) (map as_ride spares) (rw (map-append as_ride paths spares) at i))
    where
      go : In r (map as_ride paths) ⊎ In r (map as_ride spares) → At r.cells 0 (get_or s.carts.items r.cart 0)
      go (inl m) = let (k, h, e) = (in_mapped as_ride paths no_ride r).0 m in rw e (f k h).walks.starts
      go (inr m) = let (k, h, e) = (in_mapped as_ride spares no_ride r).0 m in rw e (v k h).starts
