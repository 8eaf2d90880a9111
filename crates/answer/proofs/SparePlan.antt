-- The walks of the spare carts, one after the other behind the paths, each traced on from its cart's cell through the flow in which no two carts trade; with the paths they are a right plan.
-- A cart without a path meets no call: the line of a call leads down to the cart of its path. Assumes nothing.
use Prim.Native.Nat.{ℕ, zero, suc, ◌+◌, ◌-◌, ◌<◌, ◌≤◌}
use mathlib.Core.Path.{◌≡◌, refl, sym, ap, ◌∙◌, subst}
use mathlib.Core.List.{List, [], map}
use mathlib.Core.Bool.{Bool, true, false}
use native.Mathlib.Omega.{arith}
use lib.ListN.{length, get_or, take, set}
use lib.Seq.{length-take-le, get_or-take}
use Rattle.model.specs.Limits.{max_carts, max_steps}
use Rattle.model.specs.Lists.{In, NoDup, Rising}
use Rattle.model.specs.Job.{Job, Call, lift, call, cart_cell, call_of, horizon}
use Rattle.model.specs.Choke.{point}
use Rattle.model.specs.Plan as plan
use Rattle.model.specs.Plan.{Path, Before, Plan, SparesInOrder}
use Rattle.model.specs.Promises.{RightPlan}
use Rattle.model.proofs.Basics.{nope}
use Rattle.model.proofs.Decide.{dec-lt}
use Rattle.model.proofs.Lists.{in_get_or, in_place, place_of, place_in, rising_of}
use Rattle.model.proofs.Lex.{lex_on}
use Rattle.model.proofs.Sharing.{every}
use Rattle.model.proofs.Written.{few_steps}
use Rattle.job.specs.declared.held.Ride.{Ride}
use Rattle.job.specs.Held.{as_path, as_ride, paths_to, spares_from, Some}
use Rattle.flow.specs.Flow.{Link, end}
use Rattle.flow.specs.Line.{Chain, Ahead}
use Rattle.network.specs.declared.planes.Grid.{Grid}
use Rattle.network.specs.Graph.{top, node_of}
use Rattle.network.specs.Links.{back_link}
use Rattle.network.specs.Stand.{stood_on}
use Rattle.network.specs.Traced.{RideTraced, Traced}
use Rattle.network.proofs.Plans.{began, down, path_carts, flow_plan}
use Rattle.network.proofs.Points.{point_cell}
use Rattle.network.proofs.ChokeTargets.{edge_falls}
use Rattle.network.proofs.Calm.{Meets, trades, passes, meets, stood_flow, stood_calm, stood_ends}
use Rattle.answer.specs.Spares.{ride_at, cart_at, CartsTaken}
use Rattle.answer.specs.Full.{PathsTraced, PathsWritten}
use Rattle.answer.specs.Trail.{back_from, HasCart, MeetsNone, WalkRow}
use Rattle.answer.proofs.Rides.{no_path, no_spare, ride_new, ride_kept, ride_first, path_read, path_count, path_in, spare_read, spare_count, spare_in}
use Rattle.answer.proofs.SpareList.{OwnCarts, Listing, listing_skip, listing_room, listing_take, listing_full}
use Rattle.answer.proofs.Rising.{rising_once, precedes_apart}

-- Links followed from one node end at one node.
same_end : {N : Type 0} (next : N → Link N) (k m : ℕ) (x y z : N) → next y ≡ end → next z ≡ end → Chain next k x y → Chain next m x z → y ≡ z
same_end next zero zero x y z e f c d = cc
same_end next zero (suc m) x y z e f c (w, g, d) = nope (cc)
same_end next (suc k) zero x y z e f (w, g, c) d = nope (cc)
same_end next (suc k) (suc m) x y z e f (v, g, c) (w, h, d) = let q : v ≡ w = cc in same_end next k m w y z e f (rw q at c) d

-- The ride is traced, up to the last step.
abbrev pub Rode : Job → List ℕ → plan.Ride → Type 0
Rode j s r = RideTraced j (back_from j s) r × (length r.cells ≡ suc (horizon j))

-- Behind the first n rides, which are the paths as they were, those up to k are the rides of the carts below c that no path has.
pub record RidesTraced (j : Job) (order s : List ℕ) (rides₀ rides : List Ride) (n k c : ℕ) : Type 0 where
  pub paths : PathsTraced j order s rides n
  pub listing : Listing (cart_at rides₀) (cart_at rides) n k c
  pub rode : (m : ℕ) → n ≤ m → m < k → Rode j s (as_ride (ride_at rides m))

module _ {j : Job} {carts : List ℕ} {calls : ℕ} {order : List ℕ} {grid : Grid} {s : List ℕ} {rides : List Ride} (g : PathsWritten j carts calls order grid s rides) where
  count : length j.carts ≡ length carts
  count = ap length g.listed

  pub written_so : {rides' : List Ride} {k c : ℕ} → length rides' ≡ length rides → RidesTraced j order s rides rides' calls k c → PathsWritten j carts calls order grid s rides'
  written_so same w = record { listed = g.listed; counted = g.counted; room = same ∙ g.room; ordered = g.ordered; kept = g.kept; paths = w.paths }

  abbrev n : ℕ
  n = length j.calls

  abbrev ps : List Path
  ps = paths_to rides n

  pub calls_few : calls ≤ length rides
  calls_few = omega (arith, g.counted, g.room, count, g.kept.keeps.ready.enough)

  pub carts_few : length carts ≤ max_carts
  carts_few = omega (arith, count, g.kept.keeps.ready.fit.few_carts)

  fits : n ≤ length rides
  fits = omega (arith, calls_few, g.counted)

  in_order : Rising (Before j) ps
  in_order = rising_of no_path (Before j) ps (λ k l.
      let b : suc k < n = omega (arith, path_count rides n fits) in
      rw (path_read rides n k (omega arith), path_read rides n (suc k) b, g.paths.calls k (omega (arith, g.counted)), g.paths.calls (suc k) (omega (arith, g.counted))) (g.ordered.rises k b))

  own_calls : NoDup (map (λ p. p.call) ps)
  own_calls = rising_once (λ p. p.call) (Before j) (λ x y z. lex_on) (λ x y. precedes_apart j x.call y.call) ps in_order

  path_traced : (p : Path) → In p ps → Traced j (back_from j s) p
  path_traced p i = let (k, l, e) = path_in rides n fits p i in rw e (g.paths.traced k (omega (arith, g.counted)))

  full : (q : Call) → In q j.calls → stood_on (back_link j s) g.kept.keeps.on (node_of j q) ≡ end
  full q i = stood_ends g.kept.keeps.flow (node_of j q) (g.kept.keeps.full q i)

  own_carts : OwnCarts (cart_at rides) calls (length carts)
  own_carts = record {
    known = λ k l. let h = (g.paths.traced k l).ride.known_cart in omega (arith, count);
    own = λ i k l m e. place_of (λ p. p.cart) ps carts_own i k no_path (omega (arith, size)) (omega (arith, size)) (ap (λ p. p.cart) (at i l) ∙ e ∙ ap (λ p. p.cart) (sym (at k m)));
  }
    where
      size : length ps ≡ calls
      size = path_count rides n fits ∙ g.counted

      at : (i : ℕ) → i < calls → get_or ps i no_path ≡ as_path (ride_at rides i)
      at i l = path_read rides n i (omega (arith, g.counted))

      carts_own : NoDup (map (λ p. p.cart) ps)
      carts_own = path_carts j g.kept.keeps.ready (stood_flow g.kept.keeps.flow) full ps own_calls path_traced

  -- A cart's node at step 0 ends a line.
  ends_at : (c : ℕ) → In c j.carts → back_from j s (point c 0) ≡ end
  ends_at c i = began (stood_flow g.kept.keeps.flow) (point c 0) used refl
    where
      used : HasCart j s (point c 0)
      used f = go (meets (back_link j s) (point c 0))
        where
          go : Meets (back_link j s) (point c 0) → ⊥
          go (trades u (e, _) q) = omega (arith, edge_falls (g.kept.keeps.flow.edge (point c 0) u e))
          go (passes apart q) = g.kept.all c i (ap (back_link j s) (sym q) ∙ f)

  -- A cart without a path meets no call.
  module _ {a : ℕ} (known : a < length carts) (spare : (k : ℕ) → k < calls → cart_at rides k ≡ a → ⊥) where
    listed : In (cart_cell j a) j.carts
    listed = in_get_or j.carts a 0 (omega (arith, count))

    spare_unmet : MeetsNone j s (point (cart_cell j a) 0)
    spare_unmet = record { cart = λ f. nope (cc (ends_at (cart_cell j a) listed)); free = free }
      where
        free : (q : Call) → In q j.calls → Ahead (back_from j s) (node_of j q) (point (cart_cell j a) 0) → ⊥
        free q i (k, c) =
            let (m, l, e) = in_place q j.calls (call lift 0 0) i in
            let (p, h, f) = every (λ p. p.call) n ps (path_count rides n fits) own_calls (λ p h. (path_traced p h).known_call) (record { cart = 0; call = m; cells = [] }) l in
            let tr = path_traced p h in
            let (r, d) = down j g.kept.keeps.ready (stood_flow g.kept.keeps.flow) full p tr in
            let same : node_of j (call_of j p.call) ≡ node_of j q = ap (node_of j) (ap (call_of j) f ∙ sym e) in
            let start : In (cart_cell j p.cart) j.carts = in_get_or j.carts p.cart 0 tr.ride.known_cart in
            let one : point (cart_cell j p.cart) 0 ≡ point (cart_cell j a) 0 =
            same_end (back_from j s) r k (node_of j q) (point (cart_cell j p.cart) 0) (point (cart_cell j a) 0) (ends_at (cart_cell j p.cart) start) (ends_at (cart_cell j a) listed)
            (rw same at d) c in
            let cart : p.cart ≡ a = place_in j.carts g.kept.keeps.ready.fit.own_cells p.cart a tr.ride.known_cart (omega (arith, count)) (point_cell one) in
            let (t, u, z) = path_in rides n fits p h in
            spare t (omega (arith, g.counted)) (sym (ap (λ p. p.cart) z) ∙ cart)

  last_step : grid.top - 1 ≡ horizon j
  last_step = omega (arith, ap (λ g. g.top) g.kept.keeps.grid)

  -- The next cart, whose cell the code has in a local.
  module _ {rides' : List Ride} {k c cell : ℕ} (w : RidesTraced j order s rides rides' calls k c) (more : c < length carts) (told : cell ≡ get_or carts c 0) where
    -- It has a path.
    pub rides_skip : Some calls (λ i. cart_at rides i ≡ c) → RidesTraced j order s rides rides' calls k (c + 1)
    rides_skip had = record { paths = w.paths; listing = listing_skip own_carts w.listing more had; rode = w.rode }

    module _ (free : (i : ℕ) → i < calls → cart_at rides i ≡ c → ⊥) where
      on_cell : cell ≡ cart_cell j c
      on_cell = told ∙ ap (λ cs. get_or cs c 0) (sym g.listed)

      pub line_unmet : MeetsNone j s (point cell 0)
      line_unmet = rw on_cell (spare_unmet more free)

      pub room_left : k < length rides
      room_left = omega (arith, listing_room own_carts w.listing more free, g.room)

      -- Its row and the last step, as the code has them.
      module _ {row : List ℕ} {last : ℕ} (on : WalkRow j s cell grid.top row) (long : length row ≡ max_steps) (at_last : last ≡ grid.top - 1) (same : length rides' ≡ length rides) (q : ℕ) where
        few : last < max_steps
        few = omega (arith, last_step, few_steps j g.kept.keeps.ready.fit)

        abbrev ride : Ride
        ride = record { cart = c; call = q; last = last; cells = row }

        rode : Rode j s (as_ride ride)
        rode =
            let size : length (take (suc last) row) ≡ suc last = length-take-le (suc last) row (omega (arith, few, long)) in
            let high : grid.top ≡ top j = ap (λ g. g.top) g.kept.keeps.grid in (
              record {
                known_cart = omega (arith, count);
                follows = λ t l. rw (get_or-take (suc last) row (suc t) 0 (omega (arith, size)), get_or-take (suc last) row t 0 (omega (arith, size))) (on.follows t (omega (arith, size, high)));
                starts = sym on_cell ∙ sym (get_or-take (suc last) row 0 0 (omega arith) ∙ on.begins);
              },
              size ∙ ap suc (at_last ∙ last_step),
            )

        kept : (m : ℕ) → (m ≡ k → ⊥) → ride_at (set rides' k ride) m ≡ ride_at rides' m
        kept m ne = ride_kept rides' k m ride ne

        new : ride_at (set rides' k ride) k ≡ ride
        new = ride_new rides' k ride (omega (arith, room_left, same))

        pub rides_more : RidesTraced j order s rides (set rides' k (record { cart = c; call = q; last = last; cells = row })) calls (k + 1) (c + 1)
        rides_more = record {
          paths = record {
            calls = λ m l. rw (kept m (before m l)) (w.paths.calls m l);
            traced = λ m l. rw (kept m (before m l)) (w.paths.traced m l);
          };
          listing = listing_take own_carts w.listing more free (ap (λ r. r.cart) new) (λ i ne. ap (λ r. r.cart) (kept i ne));
          rode = λ m l h. traced m l h (dec-lt m k);
        }
          where
            before : (m : ℕ) → m < calls → m ≡ k → ⊥
            before m l e = let from = w.listing.from in omega arith

            traced : (m : ℕ) → calls ≤ m → m < k + 1 → Dec (m < k) → Rode j s (as_ride (ride_at (set rides' k ride) m))
            traced m l h (yes b) = rw (kept m (λ e. omega arith)) (w.rode m l b)
            traced m l h (no b) = let z : m ≡ k = omega arith in rw (z, new) rode

  -- All rides are written.
  module _ {rides₀ : List Ride} {k c : ℕ} (w : RidesTraced j order s rides₀ rides calls k c) (all : length carts ≤ c) where
    abbrev ss : List plan.Ride
    ss = spares_from rides calls

    size : length ss ≡ length rides - calls
    size = spare_count rides calls

    full_list : length rides ≤ k
    full_list = omega (arith, listing_full w.listing, all, g.room)

    by_number : SparesInOrder ss
    by_number = rising_of no_spare (λ r s. r.cart < s.cart) ss (λ i h.
        rw (spare_read rides calls i, spare_read rides calls (suc i)) (w.listing.rises (calls + i) (calls + suc i) (omega arith) (omega arith) (omega (arith, size, full_list, calls_few))))

    rode_all : (r : plan.Ride) → In r ss → Rode j s r
    rode_all r i = let (m, h, e) = spare_in rides calls r i in rw e (w.rode (calls + m) (omega arith) (omega (arith, full_list)))

    apart : (p : Path) (r : plan.Ride) → In p ps → In r ss → p.cart ≡ r.cart → ⊥
    apart p r i m e =
        let (a, h, f) = path_in rides n fits p i in
        let (b, h', f') = spare_in rides calls r m in
        w.listing.spare a (calls + b) (omega (arith, g.counted)) (omega arith) (omega (arith, full_list)) (sym (ap (λ p. p.cart) f) ∙ e ∙ ap (λ r. r.cart) f')

    planned : Plan j ps ss
    planned = flow_plan j g.kept.keeps.ready (stood_flow g.kept.keeps.flow) (stood_calm (back_link j s)) full ps ss (record {
      size = path_count rides n fits;
      own = own_calls;
      traced = path_traced;
      rides = rode_all;
      spare = apart;
      own_spares = rising_once (λ r. r.cart) (λ r s. r.cart < s.cart) (λ x y z a b. omega arith) (λ x y a e. omega arith) ss by_number;
      all = omega (arith, path_count rides n fits, size, g.counted, count, g.room, calls_few);
    })

    pub right_plan : RightPlan j (paths_to rides calls) (spares_from rides calls)
    right_plan = subst (λ m. RightPlan j (paths_to rides m) ss) g.counted (planned, (in_order, by_number))

  -- What the table of the carts with paths says of the cart c.
  module _ {table : List Bool} (marks : CartsTaken (take calls rides) table) (c : ℕ) where
    pub none_has : get_or table c false ≡ false → (i : ℕ) → i < calls → cart_at rides i ≡ c → ⊥
    none_has e i l q =
        let m = marks.marked i (omega (arith, length-take-le calls rides calls_few)) in
        nope (cc (e, m, q, ap (λ r. r.cart) (ride_first rides calls i l)))

    pub one_has : get_or table c false ≡ true → Some calls (λ i. cart_at rides i ≡ c)
    one_has e =
        let (i, l, q) = marks.only c e in
        let m : i < calls = omega (arith, length-take-le calls rides calls_few) in
        (i, m, ap (λ r. r.cart) (sym (ride_first rides calls i m)) ∙ q)
