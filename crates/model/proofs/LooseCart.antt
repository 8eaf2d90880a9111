-- A loose cart, one more than the calls and spare carts ask for, can always go on to the next step. It stands on its cell x if no other comes there: x is open, since a bay on it with an earlier step
-- was closed to the loose cart before, or has the cart on it that parks. If another comes to x, from y, the two change parts: the cart on x stands and goes on as the other would have, and the
-- other, on y, is the loose one. The cells taken at each step are the same as before, and one cart less moves from this step to the next, so that the changes end. Assumes nothing.
use Prim.Native.Nat.{ℕ, zero, suc, ◌≤◌, ◌<◌}
use mathlib.Core.Path.{◌≡◌, refl, sym, ◌∙◌, subst, ap}
use mathlib.Core.Logic.{◌⊎◌, inl, inr}
use mathlib.Core.Bool.{cond}
use native.Mathlib.Omega.{arith}
use lib.Dec.{eqb}
use lib.ListN.{length}
use borrow.Author.Tests.{eq-eqb, ne_eqb}
use Rattle.model.specs.Job.{Job, lift, call, call_of, horizon}
use Rattle.model.specs.Walk.{Open, InTime}
use Rattle.model.proofs.Lists.{in_place}
use Rattle.model.proofs.Decide.{dec_eq, dec-lt, dec_le, dec_and}
use Rattle.model.proofs.Tabled.{put, put_at, put_off, total, total_falls, some_or_all}
use Rattle.model.proofs.Courses.{Course, Driven, Aside, aside_sym, Orderly, placed, up-to, from_on, go_on_as, cut, driven_on, aside_on, driven_cut, aside_cut}

-- The course k ends as it must: those numbered as calls at their calls, the others at the step H.
pub record Finishes (j : Job) (k : ℕ) (c : Course) : Type 0 where
  pub met : k < length j.calls → InTime (call_of j k).kind (call_of j k).deadline c.last × (c.cell c.last ≡ (call_of j k).cell)
  pub stays : length j.calls ≤ k → c.last ≡ horizon j

-- The course n is that of the loose cart, which has come to the step t.
pub record Loose (j : Job) (n t : ℕ) (f : ℕ → Course) : Type 0 where
  pub orderly : Orderly j (suc n) f
  pub finish : (k : ℕ) → k < n → Finishes j k (f k)
  pub now : (f n).last ≡ t

pub decide : {P : Type 0} → Dec P → P ⊎ (P → ⊥)
decide (yes p) = inl p
decide (no n) = inr n

open_now : (j : Job) (c : Course) (t : ℕ) → Driven j c → c.last ≡ t → 0 < t → Open j t (c.cell t)
open_now j c zero d e h = absurd (omega arith)
open_now j c (suc t) d e h = (d.steps t (omega arith)).1

module _ (j : Job) (n : ℕ) (many : length j.calls ≤ n) (t : ℕ) where
  still_open : (f : ℕ → Course) → Loose j n t f → Open j (suc t) ((f n).cell t)
  still_open f lo q m b e = go (dec-lt t q.deadline)
    where
      d : Driven j (f n)
      d = lo.orderly.driven n (omega arith)

      parked : (k : ℕ) → k < length j.calls → q ≡ call_of j k → ((f k).last ≡ q.deadline) × ((f k).cell (f k).last ≡ q.cell)
      parked k l g =
          let (a, at-end) = subst (λ c. InTime c.kind c.deadline (f k).last × ((f k).cell (f k).last ≡ c.cell)) (sym g) ((lo.finish k (omega arith)).met l) in
          (rw b at a, at-end)

      late : q.deadline ≤ t → (k : ℕ) → k < length j.calls → ((f k).last ≡ q.deadline) × ((f k).cell (f k).last ≡ q.cell) → Dec (q.deadline < t) → ⊥
      late h k l (a, c) (yes lt) = omega (arith, open_now j (f n) t d lo.now (omega arith) q m b e)
      late h k l (a, c) (no nl) =
          let same : (f k).last ≡ t = omega arith in
          (lo.orderly.aside k n (omega arith) (omega arith) (λ r. omega arith)).no_share t (omega arith) (omega (arith, lo.now)) (sym (ap (f k).cell same) ∙ c ∙ e)

      go : Dec (t < q.deadline) → suc t ≤ q.deadline
      go (yes h) = h
      go (no h) = let (k, l, g) = in_place q j.calls (call lift 0 0) m in absurd (late (omega arith) k l (parked k l g) (dec-lt q.deadline t))

  -- The cart i comes to the loose cart's cell.
  abbrev Displaces : (ℕ → Course) → ℕ → Type 0
  Displaces f i = (suc t ≤ (f i).last) × ((f i).cell (suc t) ≡ (f n).cell t)

  -- the loose cart stands
  still : Course → Course
  still c = record { cart = c.cart; cell = λ s. c.cell t; last = suc t }

  stands : (f : ℕ → Course) → Loose j n t f → ((k : ℕ) → k < n → Displaces f k → ⊥) → Loose j n (suc t) (put f n (go_on_as t (f n) (still (f n))))
  unfolding still
  stands f lo free = record {
    orderly = placed j (suc n) n f c (driven_on t (f n) (still (f n)) lo.now refl j (lo.orderly.driven n (omega arith)) (still_open f lo) (λ s h l. absurd (omega arith)))
        (λ k h ne. lo.orderly.driven k h)
        (λ k h ne. aside_on t (f n) (still (f n)) lo.now refl (f k) (lo.orderly.aside k n h (omega arith) ne) (share k (omega arith)) (λ s a b l. absurd (omega arith)))
        (λ k m h l ne me. lo.orderly.aside k m h l);
    finish = λ k h. rw (put_off f n c k (λ e. omega arith)) (lo.finish k h);
    now = ap (λ x. x.last) (put_at f n c n refl);
  }
    where
      c : Course
      c = go_on_as t (f n) (still (f n))

      share : (k : ℕ) → k < n → (s : ℕ) → t < s → s ≤ (f k).last → s ≤ suc t → (f k).cell s ≡ (f n).cell t → ⊥
      share k h s a b l e = let q : s ≡ suc t = omega arith in free k h (omega arith, sym (ap (f k).cell q) ∙ e)

  -- The loose cart stands and goes on as the cart i would have, which is the loose one then.
  abbrev instead : (ℕ → Course) → ℕ → Course
  instead f i = go_on_as t (f n) (f i)

  swapped : (ℕ → Course) → ℕ → ℕ → Course
  swapped f i = put (put f i (instead f i)) n (cut t (f i))

  -- 1 if the cart moves from the step t to the next, and how many of the first n do
  moves : Course → ℕ
  moves c = cond (eqb (c.cell t) (c.cell (suc t))) 0 1

  movers : (ℕ → Course) → ℕ
  movers f = total (λ k. moves (f k)) n

  module _ (f : ℕ → Course) (lo : Loose j n t f) (i : ℕ) (h : i < n) (l : suc t ≤ (f i).last) (e : (f i).cell (suc t) ≡ (f n).cell t) where
    not_last : i ≡ n → ⊥
    not_last q = omega arith

    aside_of : (k : ℕ) → k < suc n → (k ≡ n → ⊥) → (k ≡ i → ⊥) → Aside (f k) (instead f i)
    aside_of k a ne me =
        aside_on t (f n) (f i) lo.now (sym e) (f k) (lo.orderly.aside k n a (omega arith) ne)
        (λ s b. (lo.orderly.aside k i a (omega arith) me).no_share s)
        (λ s b. (lo.orderly.aside k i a (omega arith) me).no_trade s)

    inner : Orderly j n (put f i (instead f i))
    inner = placed j n i f (instead f i)
        (driven_on t (f n) (f i) lo.now (sym e) j (lo.orderly.driven n (omega arith)) ((lo.orderly.driven i (omega arith)).steps t (omega arith)).1
        (λ s b. (lo.orderly.driven i (omega arith)).steps s))
        (λ k a ne. lo.orderly.driven k (omega arith))
        (λ k a ne. aside_of k (omega arith) (λ q. omega arith) ne)
        (λ k m a b ne me. lo.orderly.aside k m (omega arith) (omega arith))

    loose_aside : (k : ℕ) → k < n → Dec (k ≡ i) → Aside (put f i (instead f i) k) (cut t (f i))
    loose_aside k a (yes q) = rw (put_at f i (instead f i) k q) (aside_sym (cut t (f i)) (instead f i)
        (aside_on t (f n) (f i) lo.now (sym e) (cut t (f i))
        (aside_sym (f n) (cut t (f i)) (aside_cut t (f n) (f i) (omega arith) (lo.orderly.aside n i (omega arith) (omega arith) (λ q. omega arith))))
        (λ s b c. absurd (omega arith)) (λ s b c. absurd (omega arith))))
    loose_aside k a (no q) = rw (put_off f i (instead f i) k q) (aside_cut t (f k) (f i) (omega arith) (lo.orderly.aside k i (omega arith) (omega arith) q))

    finish_on : Finishes j i (instead f i)
    finish_on = record {
      met = λ a. let (b, c) = (lo.finish i h).met a in (b, from_on t (f n).cell (f i).cell (f i).last l ∙ c);
      stays = (lo.finish i h).stays;
    }

    finish_kept : (k : ℕ) → k < n → Dec (k ≡ i) → Finishes j k (put f i (instead f i) k)
    finish_kept k a (yes q) = rw (put_at f i (instead f i) k q, q) finish_on
    finish_kept k a (no q) = rw (put_off f i (instead f i) k q) (lo.finish k a)

    exchanged : Loose j n t (swapped f i)
    unfolding swapped
    exchanged = record {
      orderly = placed j (suc n) n g (cut t (f i)) (driven_cut j t (f i) (omega arith) (lo.orderly.driven i (omega arith)))
          (λ k a ne. inner.driven k (omega arith))
          (λ k a ne. loose_aside k (omega arith) (dec_eq k i))
          (λ k m a b ne me. inner.aside k m (omega arith) (omega arith));
      finish = λ k a. rw (put_off g n (cut t (f i)) k (λ q. omega arith)) (finish_kept k a (dec_eq k i));
      now = ap (λ x. x.last) (put_at g n (cut t (f i)) n refl);
    }
      where
        g : ℕ → Course
        g = put f i (instead f i)

    fewer : movers (swapped f i) < movers f
    unfolding swapped moves movers
    fewer = total_falls (λ k. moves (swapped f i k)) (λ k. moves (f k)) i n h less
        (λ k a ne. ap moves (put_off g n (cut t (f i)) k (λ q. omega arith) ∙ put_off f i (instead f i) k ne))
      where
        g : ℕ → Course
        g = put f i (instead f i)

        stood : moves (instead f i) ≡ 0
        stood = rw (up-to t (f n).cell (f i).cell t (omega arith), from_on t (f n).cell (f i).cell (suc t) (omega arith), e, eq-eqb ((f n).cell t) ((f n).cell t) refl)

        moved : moves (f i) ≡ 1
        moved = rw (ne_eqb ((f i).cell t) ((f i).cell (suc t))
            (λ q. (lo.orderly.aside i n (omega arith) (omega arith) not_last).no_share t (omega arith) (omega (arith, lo.now)) (q ∙ e)))

        less : moves (swapped f i i) < moves (f i)
        less = omega (arith, ap moves (put_off g n (cut t (f i)) i not_last ∙ put_at f i (instead f i) i refl), stood, moved)

  onward : (g : ℕ) (f : ℕ → Course) → Loose j n t f → movers f < g → (f' : ℕ → Course) × Loose j n (suc t) f'
  onward zero f lo h = absurd (omega arith)
  onward (suc g) f lo h = go (some_or_all (λ i. decide (dec_and (dec_le (suc t) (f i).last) (dec_eq ((f i).cell (suc t)) ((f n).cell t)))) n) (λ f' lo' l. onward g f' lo' l)
    where
      go : ((i : ℕ) × (i < n) × Displaces f i) ⊎ ((i : ℕ) → i < n → Displaces f i → ⊥)
          → ((f' : ℕ → Course) → Loose j n t f' → movers f' < g → (f'' : ℕ → Course) × Loose j n (suc t) f'')
          → (f' : ℕ → Course) × Loose j n (suc t) f'
      go (inl (i, a, (l, e))) next = next (swapped f i) (exchanged f lo i a l e) (omega (arith, fewer f lo i a l e))
      go (inr free) next = (put f n (go_on_as t (f n) (still (f n))), stands f lo free)

  pub next_step : (f : ℕ → Course) → Loose j n t f → (f' : ℕ → Course) × Loose j n (suc t) f'
  next_step f lo = onward (suc (movers f)) f lo (omega arith)
