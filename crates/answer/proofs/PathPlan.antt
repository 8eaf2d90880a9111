-- The planner's paths, one after the other: each is traced back from the step at which its call is met, through the flow in which no two carts trade. Assumes nothing.
use Prim.Native.Nat.{ℕ, suc, ◌+◌, ◌-◌, ◌<◌, ◌≤◌}
use mathlib.Core.Path.{◌≡◌, refl, sym, ap, ◌∙◌, subst}
use mathlib.Core.List.{List}
use native.Mathlib.Omega.{arith}
use lib.ListN.{length, get_or, take, set}
use lib.Seq.{length-take-le, get_or-take}
use Rattle.model.specs.Limits.{max_cells, max_steps}
use Rattle.model.specs.Lists.{In}
use Rattle.model.specs.Job.{Job, lift, call, call_of}
use Rattle.model.specs.Choke.{Point, point}
use Rattle.model.specs.Plan.{Path}
use Rattle.model.proofs.Decide.{dec-lt}
use Rattle.model.proofs.Lists.{in_get_or}
use Rattle.job.specs.declared.state.Call.{Call}
use Rattle.job.specs.declared.held.Ride.{Ride}
use Rattle.job.specs.Held.{as_path}
use Rattle.job.proofs.Lists.{no_call}
use Rattle.flow.specs.Flow.{to}
use Rattle.network.specs.declared.planes.Grid.{Grid}
use Rattle.network.specs.Graph.{top, Inside, node_of}
use Rattle.network.specs.Store.{place_at, prev_at}
use Rattle.network.specs.Traced.{Traced}
use Rattle.network.proofs.Plans as plans
use Rattle.network.proofs.Plans.{starts_on_cart}
use Rattle.network.proofs.Points.{point_cell, point_step, point_eq, to_eq}
use Rattle.network.proofs.ChokeTargets.{by_horizon}
use Rattle.network.proofs.Calm.{stood_flow, stood_ends}
use Rattle.answer.specs.Spares.{ride_at}
use Rattle.answer.specs.Full.{FullFlow, PathsTraced}
use Rattle.answer.specs.Trail.{back_from, HasCart, Trail}
use Rattle.answer.proofs.Rides.{ride_new, ride_kept}
use Rattle.answer.proofs.Calls.{counted, node_read}
use Rattle.answer.proofs.PathLinks.{call_met}

pub traced_all : {j : Job} {order s : List ℕ} {rides : List Ride} {n m : ℕ} → m ≡ n → PathsTraced j order s rides m → PathsTraced j order s rides n
traced_all e w = rw (← e) w

module _ {j : Job} {calls : List Call} {cart_on order : List ℕ} {grid : Grid} {s : List ℕ} (g : FullFlow j calls cart_on order grid s) where
  abbrev q : ℕ → ℕ
  q i = get_or order i 0

  count : length j.calls ≡ length calls
  count = counted j calls g.listed

  -- The order has each call.
  pub each : length order ≡ length calls
  each = omega (arith, g.ordered.size, count)

  is_call : {i : ℕ} → i < length order → q i < length j.calls
  is_call {i} more = g.ordered.known i (omega (arith, each, count))

  abbrev last : grid.top ≡ top j
  last = ap (λ g. g.top) g.kept.keeps.grid

  -- The next call. The code has its number and cell in locals.
  module _ {i : ℕ} (more : i < length order) {u p : ℕ} (number : u ≡ get_or order i 0) (target : p ≡ (get_or calls u no_call).cell) where
    abbrev node : Point
    node = point p grid.top

    is_node : node ≡ node_of j (call_of j (q i))
    is_node = node_read j calls g.listed g.kept.keeps.grid (q i) (target ∙ ap (λ k. (get_or calls k no_call).cell) number)

    listed : In (call_of j (q i)) j.calls
    listed = in_get_or j.calls (q i) (call lift 0 0) (is_call more)

    on_cell : p ≡ (call_of j (q i)).cell
    on_cell = point_cell is_node

    pub node_known : Inside j (point p grid.top)
    node_known = (omega (arith, on_cell, (g.kept.keeps.ready.fit.known_calls (call_of j (q i)) listed).0), omega (arith, last))

    served : HasCart j s (node_of j (call_of j (q i)))
    served =
        let k = g.kept.keeps in
        plans.targets (stood_flow k.flow) (node_of j (call_of j (q i))) (stood_ends k.flow (node_of j (call_of j (q i))) (k.full (call_of j (q i)) listed))

    -- Where it is met. The code has in locals where its node stands and the step.
    module _ {v d : ℕ} (here : v ≡ place_at grid (point p grid.top)) (step : d ≡ prev_at grid s v) where
      met : back_from j s (node_of j (call_of j (q i))) ≡ to (point p d)
      met = ap (back_from j s) (sym is_node) ∙ call_met g.kept.keeps node (λ e. served (ap (back_from j s) (sym is_node) ∙ e)) here step refl

      at_step : (d ≤ (call_of j (q i)).deadline) × HasCart j s (point p d)
      at_step =
          let (t, b, l, c) = plans.met (stood_flow g.kept.keeps.flow) g.kept.keeps.ready.fit (call_of j (q i)) listed served in
          let e : point (call_of j (q i)).cell t ≡ point p d = to_eq (sym b ∙ met) in
          (omega (arith, point_step e), subst (HasCart j s) e c)

      pub can_follow : HasCart j s (point p d)
      can_follow = at_step.1

      by_last : d < max_steps
      by_last = omega (arith, at_step.0, (g.kept.keeps.ready.fit.known_calls (call_of j (q i)) listed).1)

      pub below_top : d < grid.top
      below_top = omega (arith, at_step.0, by_horizon j.calls (call_of j (q i)) listed, last)

      module _ {row row₀ : List ℕ} {r : ℕ} (tr : Trail j s (point p d) row₀ row r) where
        on_cart : In r j.carts
        on_cart = starts_on_cart (stood_flow g.kept.keeps.flow) (point r 0) tr.starts

        pub has_cart : (r < max_cells) × (0 < get_or cart_on r 0)
        has_cart = (omega (arith, g.kept.keeps.ready.fit.known_carts r on_cart, g.kept.keeps.ready.fit.few_cells), g.carts.has_cart r on_cart)

        abbrev cart : ℕ
        cart = get_or cart_on r 0 - 1

        abbrev path : Path
        path = record { cart = cart; call = q i; cells = take (suc d) row }

        traces : length row ≡ max_steps → Traced j (back_from j s) path
        traces long =
            let c = g.carts.cart r (g.kept.keeps.ready.fit.known_carts r on_cart) has_cart.1 in
            let size : length (take (suc d) row) ≡ suc d = length-take-le (suc d) row (omega (arith, by_last, long)) in
            record {
              ride = record {
                known_cart = c.0;
                follows = λ t l. rw (get_or-take (suc d) row (suc t) 0 (omega (arith, size)), get_or-take (suc d) row t 0 (omega (arith, size))) (tr.follows t (omega (arith, size)));
                starts = c.1 ∙ tr.begins ∙ sym (get_or-take (suc d) row 0 0 (omega arith));
              };
              known_call = is_call more;
              last = d;
              size = size;
              ends = met ∙ ap to (point_eq (sym (get_or-take (suc d) row d 0 (omega arith) ∙ tr.ends)) refl);
            }

        -- The ride as it is written.
        module _ (long : length row ≡ max_steps) (rides : List Ride) (few : i < length rides) where
          abbrev ride : Ride
          ride = record { cart = cart; call = q i; last = d; cells = row }

          pub traced_more : PathsTraced j order s rides i → PathsTraced j order s (set rides i (record { cart = get_or cart_on r 0 - 1; call = get_or order i 0; last = d; cells = row })) (i + 1)
          traced_more w = record { calls = λ m h. numbered m h (dec-lt m i); traced = λ m h. traced m h (dec-lt m i) }
            where
              numbered : (m : ℕ) → m < i + 1 → Dec (m < i) → (ride_at (set rides i ride) m).call ≡ get_or order m 0
              numbered m h (yes l) = rw (ride_kept rides i m ride (λ e. omega arith)) (w.calls m l)
              numbered m h (no l) = let z : m ≡ i = omega arith in rw (z, ride_new rides i ride few) refl

              traced : (m : ℕ) → m < i + 1 → Dec (m < i) → Traced j (back_from j s) (as_path (ride_at (set rides i ride) m))
              traced m h (yes l) = rw (ride_kept rides i m ride (λ e. omega arith)) (w.traced m l)
              traced m h (no l) = let z : m ≡ i = omega arith in rw (z, ride_new rides i ride few) (traces long)
