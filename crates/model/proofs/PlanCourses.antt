-- Courses and plans: paths that serve the calls and are apart are courses, each numbered as its call, which end as they must; and courses of all carts that do so are a plan, of a path for each
-- number of a call and a walk to the step H for each other. Assumes nothing.
use Prim.Native.Nat.{ℕ, suc, ◌+◌, ◌-◌, ◌≤◌, ◌<◌}
use mathlib.Core.Path.{◌≡◌, refl, sym, ◌∙◌, ap, subst}
use mathlib.Core.List.{List, [], map}
use native.Mathlib.Omega.{arith}
use lib.ListN.{length, get_or}
use Rattle.model.specs.Lists.{In}
use Rattle.model.specs.Job.{Job, cart_cell, call_of}
use Rattle.model.specs.Walk.{At, Step, Walk, InTime}
use Rattle.model.specs.Plan.{Path, Ride, ride_of, Leads, StaysOn, Share, Trade, Apart, CallsServed, Plan}
use Rattle.model.proofs.Lists.{in_map, one_of}
use Rattle.model.proofs.Rides.{own_carts}
use Rattle.model.proofs.Sharing.{every_call}
use Rattle.model.proofs.Decide.{dec_eq, dec-lt}
use Rattle.model.proofs.Tabled.{table, length_table, get_or_table, in_table, nodup_table, table_append, map_table}
use Rattle.model.proofs.Courses.{Course, Driven, Aside, Orderly}
use Rattle.model.proofs.LooseCart.{Finishes}

module _ (j : Job) (ps : List Path) (sv : CallsServed j ps) (free : Apart (map ride_of ps)) where
  pick : (k : ℕ) → Dec (k < length j.calls) → Path
  pick k (yes h) = (every_call j ps sv k h).0
  pick k (no h) = record { cart = 0; call = 0; cells = [] }

  path : ℕ → Path
  path k = pick k (dec-lt k (length j.calls))

  picked : (k : ℕ) → k < length j.calls → In (path k) ps × ((path k).call ≡ k)
  unfolding path pick
  picked k h = go (dec-lt k (length j.calls))
    where
      go : (d : Dec (k < length j.calls)) → In (pick k d) ps × ((pick k d).call ≡ k)
      go (yes l) = ((every_call j ps sv k l).1, (every_call j ps sv k l).2)
      go (no l) = absurd (l h)

  pub courses : ℕ → Course
  courses k = record { cart = (path k).cart; cell = λ t. get_or (path k).cells t 0; last = length (path k).cells - 1 }

  leads : (k : ℕ) → k < length j.calls → Leads j (path k)
  leads k h = sv.leads (path k) (picked k h).0

  pub courses_orderly : Orderly j (length j.calls) courses
  unfolding courses
  courses_orderly = record { driven = driven; aside = aside }
    where
      driven : (k : ℕ) → k < length j.calls → Driven j (courses k)
      driven k h = record {
        known = (leads k h).known_cart;
        starts = (leads k h).walks.starts.1;
        steps = λ t l. (leads k h).walks.steps t (omega arith);
      }

      aside : (k m : ℕ) → k < length j.calls → m < length j.calls → (k ≡ m → ⊥) → Aside (courses k) (courses m)
      aside k m h l ne = record {
        own = own;
        no_share = λ t a b e. own (free.no_share (ride_of (path k)) (ride_of (path m)) in_k in_m t
            (get_or (path m).cells t 0, (omega (arith, (leads k h).serves.size), e), (omega (arith, (leads m l).serves.size), refl)));
        no_trade = λ t a b e g. own (free.no_trade (ride_of (path k)) (ride_of (path m)) in_k in_m t
            (get_or (path k).cells t 0, get_or (path m).cells t 0, (omega arith, refl), (omega arith, sym g), (omega arith, refl), (omega arith, sym e)));
      }
        where
          in_k : In (ride_of (path k)) (map ride_of ps)
          in_k = in_map ride_of (path k) ps (picked k h).0

          in_m : In (ride_of (path m)) (map ride_of ps)
          in_m = in_map ride_of (path m) ps (picked m l).0

          own : (path k).cart ≡ (path m).cart → ⊥
          own e = ne (sym (picked k h).1 ∙ ap (λ p. p.call) (one_of (λ p. p.cart) ps (own_carts ps free) (path k) (path m) (picked k h).0 (picked m l).0 e) ∙ (picked m l).1)

  pub courses_finish : (k : ℕ) → k < length j.calls → Finishes j k (courses k)
  unfolding courses
  courses_finish k h = record { met = λ l. ends; stays = λ l. absurd (omega arith) }
    where
      same : (leads k h).serves.last ≡ length (path k).cells - 1
      same = omega (arith, (leads k h).serves.size)

      ends : InTime (call_of j k).kind (call_of j k).deadline (length (path k).cells - 1) × (get_or (path k).cells (length (path k).cells - 1) 0 ≡ (call_of j k).cell)
      ends = subst (λ i. InTime (call_of j i).kind (call_of j i).deadline (length (path k).cells - 1) × (get_or (path k).cells (length (path k).cells - 1) 0 ≡ (call_of j i).cell))
          (picked k h).1 (rw same at (leads k h).serves.in_time, rw same at (leads k h).serves.ends)

-- a course as a ride
abbrev pub ride_by : Course → Ride
ride_by c = record { cart = c.cart; cells = table (suc c.last) c.cell }

abbrev pub path_by : (ℕ → Course) → ℕ → Path
path_by f k = record { cart = (f k).cart; call = k; cells = table (suc (f k).last) (f k).cell }

at_course : (c : Course) (t v : ℕ) → At (ride_by c).cells t v → (t ≤ c.last) × (c.cell t ≡ v)
at_course c t v (h, e) =
    let l : t < suc c.last = omega (arith, length_table (suc c.last) c.cell) in
    (omega arith, sym (get_or_table (suc c.last) c.cell t 0 l) ∙ e)

walk_by : (j : Job) (c : Course) → Driven j c → Walk j (cart_cell j c.cart) (ride_by c).cells
walk_by j c d = record { starts = (omega (arith, size), d.starts); steps = step }
  where
    size : length (table (suc c.last) c.cell) ≡ suc c.last
    size = length_table (suc c.last) c.cell

    step : (t : ℕ) → suc t < length (table (suc c.last) c.cell) → Step j t (get_or (table (suc c.last) c.cell) t 0) (get_or (table (suc c.last) c.cell) (suc t) 0)
    step t h =
        rw (get_or_table (suc c.last) c.cell t 0 (omega (arith, size)), get_or_table (suc c.last) c.cell (suc t) 0 (omega (arith, size))) (d.steps t (omega (arith, size)))

module _ (j : Job) (f : ℕ → Course) (ord : Orderly j (length j.carts) f) where
  apart_by : Apart (table (length j.carts) (λ k. ride_by (f k)))
  apart_by = record {
    own_cart = rw (map_table (λ r. r.cart) (length j.carts) (λ k. ride_by (f k))) (nodup_table (length j.carts) (λ k. (f k).cart) (λ i k h l e. own i k h l e (dec_eq i k)));
    no_share = λ r s a b t. let (i, h, e) = in_table n rs r a in let (k, l, g) = in_table n rs s b in rw (e, g) (λ m. share i k h l t m (dec_eq i k));
    no_trade = λ r s a b t. let (i, h, e) = in_table n rs r a in let (k, l, g) = in_table n rs s b in rw (e, g) (λ m. trade i k h l t m (dec_eq i k));
  }
    where
      n : ℕ
      n = length j.carts

      rs : ℕ → Ride
      rs k = ride_by (f k)

      own : (i k : ℕ) → i < n → k < n → (f i).cart ≡ (f k).cart → Dec (i ≡ k) → i ≡ k
      own i k h l e (yes q) = q
      own i k h l e (no q) = absurd ((ord.aside i k h l q).own e)

      share : (i k : ℕ) → i < n → k < n → (t : ℕ) → Share (rs i).cells (rs k).cells t → Dec (i ≡ k) → (f i).cart ≡ (f k).cart
      share i k h l t m (yes q) = ap (λ x. (f x).cart) q
      share i k h l t (v, a, b) (no q) =
          let (x, e) = at_course (f i) t v a in
          let (y, g) = at_course (f k) t v b in
          absurd ((ord.aside i k h l q).no_share t x y (e ∙ sym g))

      trade : (i k : ℕ) → i < n → k < n → (t : ℕ) → Trade (rs i).cells (rs k).cells t → Dec (i ≡ k) → (f i).cart ≡ (f k).cart
      trade i k h l t m (yes q) = ap (λ x. (f x).cart) q
      trade i k h l t (u, v, a, b, c, d) (no q) =
          let (x₁, e₁) = at_course (f i) t u a in
          let (x₂, e₂) = at_course (f i) (suc t) v b in
          let (x₃, e₃) = at_course (f k) t v c in
          let (x₄, e₄) = at_course (f k) (suc t) u d in
          absurd ((ord.aside i k h l q).no_trade t (omega arith) (omega arith) (e₁ ∙ sym e₄) (e₃ ∙ sym e₂))

  -- the courses behind those of the calls, as many as carts
  pub plan_by : length j.calls ≤ length j.carts → ((k : ℕ) → k < length j.carts → Finishes j k (f k)) → (qs : List Path) × (ss : List Ride) × Plan j qs ss
  plan_by enough fin = (
    qs,
    ss,
    record {
      served = record {
        size = length_table m (path_by f);
        leads = λ p a. let (k, h, e) = in_table m (path_by f) p a in rw e (leads_by k h);
        own_call = rw (map_table (λ p. p.call) m (path_by f)) (nodup_table m (λ k. k) (λ i k h l e. e));
      };
      stay = λ s a. let (k, h, e) = in_table d (λ k. ride_by (f (k + m))) s a in rw e (stays_by (k + m) (omega arith) (omega arith));
      size = omega (arith, length_table m (path_by f), length_table d (λ k. ride_by (f (k + m))));
      apart = rw (map_table ride_of m (path_by f), table_append m d (λ k. ride_by (f k)), all) apart_by;
    },
  )
    where
      m : ℕ
      m = length j.calls

      d : ℕ
      d = length j.carts - length j.calls

      all : d + m ≡ length j.carts
      all = omega arith

      qs : List Path
      qs = table m (path_by f)

      ss : List Ride
      ss = table d (λ k. ride_by (f (k + m)))

      leads_by : (k : ℕ) → k < m → Leads j (path_by f k)
      leads_by k h =
          let l : k < length j.carts = omega arith in
          let (a, b) = (fin k l).met h in
          record {
            known_cart = (ord.driven k l).known;
            known_call = h;
            walks = walk_by j (f k) (ord.driven k l);
            serves = record {
              last = (f k).last;
              size = length_table (suc (f k).last) (f k).cell;
              in_time = a;
              ends = get_or_table (suc (f k).last) (f k).cell (f k).last 0 (omega arith) ∙ b;
            };
          }

      stays_by : (k : ℕ) → m ≤ k → k < length j.carts → StaysOn j (ride_by (f k))
      stays_by k h l = record {
        known_cart = (ord.driven k l).known;
        walks = walk_by j (f k) (ord.driven k l);
        size = length_table (suc (f k).last) (f k).cell ∙ ap suc ((fin k l).stays h);
      }
