-- A spare cart that finds no way out is never why a job cannot be: if the calls can be served, lifts and bays, with no two of their carts in each other's way, there is a plan, in which the other
-- carts walk to the step H. They are put onto the floor one at a time, each on its own cell at step 0, and each goes on step by step as a loose cart; who serves a call may change with it.
use Prim.Native.Nat.{ℕ, zero, suc, ◌+◌, ◌-◌, ◌≤◌, ◌<◌}
use mathlib.Core.Path.{◌≡◌, refl, sym, ◌∙◌, subst}
use mathlib.Core.List.{List, map, map-id}
use mathlib.Core.Logic.{◌⊎◌, inl, inr}
use native.Mathlib.Omega.{arith}
use lib.ListN.{length}
use Rattle.model.specs.Job.{Job, cart_cell, horizon}
use Rattle.model.specs.Ready.{Ready}
use Rattle.model.specs.Plan.{Path, Ride, ride_of, Apart, CallsServed, Plan}
use Rattle.model.proofs.Lists.{pigeon, place_of}
use Rattle.model.proofs.Rides.{apart_left}
use Rattle.model.proofs.Decide.{dec_eq}
use Rattle.model.proofs.Listed.{below, length_below, in_below}
use Rattle.model.proofs.Tabled.{put, put_at, put_off, some_or_all}
use Rattle.model.proofs.Courses.{Course, Aside, Orderly, placed}
use Rattle.model.proofs.LooseCart.{Finishes, Loose, decide, next_step}
use Rattle.model.proofs.PlanCourses.{courses, courses_orderly, courses_finish, plan_by}

-- None of the first n courses is of the cart c.
abbrev Unused : (ℕ → Course) → ℕ → ℕ → Type 0
Unused f n c = (k : ℕ) → k < n → (f k).cart ≡ c → ⊥

-- n courses do not have all of more than n carts
left_over : (f : ℕ → Course) (n size : ℕ) → n < size → (c : ℕ) × (c < size) × Unused f n c
left_over f n size h = go (some_or_all {P = Unused f n} (λ c. other (some_or_all (λ k. decide (dec_eq (f k).cart c)) n)) size)
  where
    other : {P Q : Type 0} → P ⊎ Q → Q ⊎ P
    other (inl p) = inr p
    other (inr q) = inl q

    go : ((c : ℕ) × (c < size) × Unused f n c) ⊎ ((c : ℕ) → c < size → (k : ℕ) × (k < n) × ((f k).cart ≡ c)) → (c : ℕ) × (c < size) × Unused f n c
    go (inl x) = x
    go (inr used) = absurd (omega (arith, fits, length_below n))
      where
        fits : size ≤ length (below n)
        fits = pigeon (λ c k. (f k).cart ≡ c) size (below n) (λ c l. let (k, a, e) = used c l in (k, in_below n k a, e)) (λ a b k x y e g. sym e ∙ g)

module _ (j : Job) (ready : Ready j) where
  own_cell : (a b : ℕ) → a < length j.carts → b < length j.carts → cart_cell j a ≡ cart_cell j b → a ≡ b
  own_cell a b h l e = place_of (λ x. x) j.carts (rw map-id ready.fit.own_cells) a b 0 h l e

  -- the courses of n carts, each of which ends as it must
  abbrev Underway : ℕ → (ℕ → Course) → Type 0
  Underway n f = Orderly j n f × ((k : ℕ) → k < n → Finishes j k (f k))

  -- the cart c at step 0
  abbrev at_start : ℕ → Course
  at_start c = record { cart = c; cell = λ t. cart_cell j c; last = 0 }

  put_on : (n : ℕ) (f : ℕ → Course) → Underway n f → (c : ℕ) → c < length j.carts → Unused f n c → Loose j n 0 (put f n (at_start c))
  put_on n f (ord, fin) c h free = record {
    orderly = placed j (suc n) n f (at_start c) (record { known = h; starts = refl; steps = λ t l. absurd (omega arith) })
        (λ k a ne. ord.driven k (omega arith))
        (λ k a ne. aside k (omega arith))
        (λ k m a b ne me. ord.aside k m (omega arith) (omega arith));
    finish = λ k a. rw (put_off f n (at_start c) k (λ e. omega arith)) (fin k a);
    now = rw (put_at f n (at_start c) n refl) refl;
  }
    where
      aside : (k : ℕ) → k < n → Aside (f k) (at_start c)
      aside k a = record {
        own = free k a;
        no_share = λ t b l e. let z : t ≡ 0 = omega arith in
            free k a (own_cell (f k).cart c (ord.driven k a).known h (sym (ord.driven k a).starts ∙ (rw z at e)));
        no_trade = λ t b l. absurd (omega arith);
      }

  onward : (n : ℕ) → length j.calls ≤ n → (d t : ℕ) (f : ℕ → Course) → Loose j n t f → t + d ≡ horizon j → (f' : ℕ → Course) × Loose j n (horizon j) f'
  onward n many zero t f lo e = let q : t ≡ horizon j = omega arith in (f, rw q at lo)
  onward n many (suc d) t f lo e = let (f', lo') = next_step j n many t f lo in onward n many d (suc t) f' lo' (omega arith)

  one_more : (n : ℕ) → length j.calls ≤ n → n < length j.carts → (f : ℕ → Course) → Underway n f → (f' : ℕ → Course) × Underway (suc n) f'
  one_more n many h f r =
      let (c, l, free) = left_over f n (length j.carts) h in
      let (f', lo) = onward n many (horizon j) 0 (put f n (at_start c)) (put_on n f r c l free) (omega arith) in
      (f', (lo.orderly, λ k a. ends f' lo k a (dec_eq k n)))
    where
      ends : (f' : ℕ → Course) → Loose j n (horizon j) f' → (k : ℕ) → k < suc n → Dec (k ≡ n) → Finishes j k (f' k)
      ends f' lo k a (yes e) = rw e (record { met = λ b. absurd (omega arith); stays = λ b. lo.now })
      ends f' lo k a (no e) = lo.finish k (omega arith)

  all_carts : (d n : ℕ) → n + d ≡ length j.carts → length j.calls ≤ n → (f : ℕ → Course) → Underway n f → (f' : ℕ → Course) × Underway (length j.carts) f'
  all_carts zero n e many f r = let q : n ≡ length j.carts = omega arith in (f, subst (λ x. Underway x f) q r)
  all_carts (suc d) n e many f r = let (f', r') = one_more n many (omega arith) f r in all_carts d (suc n) (omega arith) (omega arith) f' r'

pub spares_kept : (j : Job) → Ready j → (ps : List Path) → CallsServed j ps → Apart (map ride_of ps) → (qs : List Path) × (ss : List Ride) × Plan j qs ss
spares_kept j ready ps sv free =
    let (f, (ord, fin)) = all_carts j ready (length j.carts - length j.calls) (length j.calls) (omega (arith, ready.enough)) (omega arith)
    (courses j ps sv free) (courses_orderly j ps sv free, courses_finish j ps sv free) in
    plan_by j f ord ready.enough fin

-- The other way round it holds of any plan.
pub calls_kept : (j : Job) (ps : List Path) (ss : List Ride) → Plan j ps ss → CallsServed j ps × Apart (map ride_of ps)
calls_kept j ps ss pl = (pl.served, apart_left (map ride_of ps) ss pl.apart)
