-- Courses: what a cart does, as a function of the step. Courses of many carts keep aside if no two are on one cell or trade cells. A course that has come to its last step, and stands to the next,
-- may go on as another course does: it keeps aside of all that kept aside of the first up to there and of the second from there on. Assumes nothing.
use Prim.Native.Nat.{ℕ, suc, ◌≤◌, ◌<◌}
use mathlib.Core.Path.{◌≡◌, sym, ◌∙◌}
use mathlib.Core.Logic.{inl}
use mathlib.Core.Bool.{cond}
use native.Mathlib.Omega.{arith}
use lib.Dec.{leb}
use lib.ListN.{length}
use borrow.Author.Tests.{le-leb, lt-leb}
use Rattle.model.specs.Job.{Job, cart_cell}
use Rattle.model.specs.Walk.{Open, Step}
use Rattle.model.proofs.Decide.{dec_eq, dec-lt}
use Rattle.model.proofs.Tabled.{put, put_at, put_off}

-- the number of a cart, its cell at each step, and its last step, past which the cells do not count
pub record Course : Type 0 where
  pub cart : ℕ
  pub cell : ℕ → ℕ
  pub last : ℕ

-- The course is a walk of a known cart.
pub record Driven (j : Job) (c : Course) : Type 0 where
  pub known : c.cart < length j.carts
  pub starts : c.cell 0 ≡ cart_cell j c.cart
  pub steps : (t : ℕ) → t < c.last → Step j t (c.cell t) (c.cell (suc t))

-- The courses are of two carts, which are not in each other's way.
pub record Aside (c d : Course) : Type 0 where
  pub own : c.cart ≡ d.cart → ⊥
  pub no_share : (t : ℕ) → t ≤ c.last → t ≤ d.last → c.cell t ≡ d.cell t → ⊥
  pub no_trade : (t : ℕ) → t < c.last → t < d.last → c.cell t ≡ d.cell (suc t) → d.cell t ≡ c.cell (suc t) → ⊥

pub aside_sym : (c d : Course) → Aside c d → Aside d c
aside_sym c d a = record {
  own = λ e. a.own (sym e);
  no_share = λ t h l e. a.no_share t l h (sym e);
  no_trade = λ t h l e f. a.no_trade t l h f e;
}

-- the first n of the courses
pub record Orderly (j : Job) (n : ℕ) (f : ℕ → Course) : Type 0 where
  pub driven : (k : ℕ) → k < n → Driven j (f k)
  pub aside : (k m : ℕ) → k < n → m < n → (k ≡ m → ⊥) → Aside (f k) (f m)

-- one of them replaced, or one put behind them
pub placed : (j : Job) (n i : ℕ) (f : ℕ → Course) (c : Course) → Driven j c
    → ((k : ℕ) → k < n → (k ≡ i → ⊥) → Driven j (f k))
    → ((k : ℕ) → k < n → (k ≡ i → ⊥) → Aside (f k) c)
    → ((k m : ℕ) → k < n → m < n → (k ≡ i → ⊥) → (m ≡ i → ⊥) → (k ≡ m → ⊥) → Aside (f k) (f m))
    → Orderly j n (put f i c)
placed j n i f c dc df ac af = record { driven = λ k h. one k h (dec_eq k i); aside = λ k m h l ne. two k m h l ne (dec_eq k i) (dec_eq m i) }
  where
    one : (k : ℕ) → k < n → Dec (k ≡ i) → Driven j (put f i c k)
    one k h (yes e) = rw (put_at f i c k e) dc
    one k h (no e) = rw (put_off f i c k e) (df k h e)

    two : (k m : ℕ) → k < n → m < n → (k ≡ m → ⊥) → Dec (k ≡ i) → Dec (m ≡ i) → Aside (put f i c k) (put f i c m)
    two k m h l ne (yes e) (yes g) = absurd (ne (e ∙ sym g))
    two k m h l ne (yes e) (no g) = rw (put_at f i c k e, put_off f i c m g) (aside_sym (f m) c (ac m l g))
    two k m h l ne (no e) (yes g) = rw (put_off f i c k e, put_at f i c m g) (ac k h e)
    two k m h l ne (no e) (no g) = rw (put_off f i c k e, put_off f i c m g) (af k m h l e g ne)

-- a up to the step t, b from there on
abbrev pub up_to : ℕ → (ℕ → ℕ) → (ℕ → ℕ) → ℕ → ℕ
up_to t a b s = cond (leb s t) (a s) (b s)

pub up-to : (t : ℕ) (a b : ℕ → ℕ) (s : ℕ) → s ≤ t → up_to t a b s ≡ a s
up-to t a b s h = rw (le-leb s t h)

pub from_on : (t : ℕ) (a b : ℕ → ℕ) (s : ℕ) → t < s → up_to t a b s ≡ b s
from_on t a b s h = rw (lt-leb s t h)

-- the cart of c, on its course up to the step t and then on that of d
abbrev pub go_on_as : ℕ → Course → Course → Course
go_on_as t c d = record { cart = c.cart; cell = up_to t c.cell d.cell; last = d.last }

-- the course up to the step t alone
abbrev pub cut : ℕ → Course → Course
cut t c = record { cart = c.cart; cell = c.cell; last = t }

module _ (t : ℕ) (c d : Course) (end : c.last ≡ t) (stands : c.cell t ≡ d.cell (suc t)) where
  pub driven_on : (j : Job) → Driven j c → Open j (suc t) (d.cell (suc t)) → ((s : ℕ) → t < s → s < d.last → Step j s (d.cell s) (d.cell (suc s))) → Driven j (go_on_as t c d)
  driven_on j dr open-then rest = record {
    known = dr.known;
    starts = up-to t c.cell d.cell 0 (omega arith) ∙ dr.starts;
    steps = λ s h. step s h (dec-lt s t) (dec_eq s t);
  }
    where
      step : (s : ℕ) → s < d.last → Dec (s < t) → Dec (s ≡ t) → Step j s (up_to t c.cell d.cell s) (up_to t c.cell d.cell (suc s))
      step s h (yes l) q = rw (up-to t c.cell d.cell s (omega arith), up-to t c.cell d.cell (suc s) (omega arith)) (dr.steps s (omega arith))
      step s h (no l) (yes q) = rw (q, up-to t c.cell d.cell t (omega arith), from_on t c.cell d.cell (suc t) (omega arith)) (inl stands, open-then)
      step s h (no l) (no q) =
          let m : t < s = omega arith in
          rw (from_on t c.cell d.cell s m, from_on t c.cell d.cell (suc s) (omega arith)) (rest s m h)

  pub aside_on : (o : Course) → Aside o c
      → ((s : ℕ) → t < s → s ≤ o.last → s ≤ d.last → o.cell s ≡ d.cell s → ⊥)
      → ((s : ℕ) → t < s → s < o.last → s < d.last → o.cell s ≡ d.cell (suc s) → d.cell s ≡ o.cell (suc s) → ⊥)
      → Aside o (go_on_as t c d)
  aside_on o a share trade = record {
    own = a.own;
    no_share = λ s h l e. one s h l e (dec-lt t s);
    no_trade = λ s h l e g. two s h l e g (dec-lt s t) (dec_eq s t);
  }
    where
      one : (s : ℕ) → s ≤ o.last → s ≤ d.last → o.cell s ≡ up_to t c.cell d.cell s → Dec (t < s) → ⊥
      one s h l e (yes m) = share s m h l (e ∙ from_on t c.cell d.cell s m)
      one s h l e (no m) = a.no_share s h (omega arith) (e ∙ up-to t c.cell d.cell s (omega arith))

      two : (s : ℕ) → s < o.last → s < d.last → o.cell s ≡ up_to t c.cell d.cell (suc s) → up_to t c.cell d.cell s ≡ o.cell (suc s)
          → Dec (s < t) → Dec (s ≡ t) → ⊥
      two s h l e g (yes m) q = a.no_trade s h (omega arith) (e ∙ up-to t c.cell d.cell (suc s) (omega arith)) (sym (up-to t c.cell d.cell s (omega arith)) ∙ g)
      two s h l e g (no m) (yes q) = a.no_share s (omega arith) (omega arith) (e ∙ from_on t c.cell d.cell (suc s) (omega arith) ∙ back q)
        where
          back : s ≡ t → d.cell (suc s) ≡ c.cell s
          back e = rw e (sym stands)
      two s h l e g (no m) (no q) =
          let k : t < s = omega arith in
          trade s k h l (e ∙ from_on t c.cell d.cell (suc s) (omega arith)) (sym (from_on t c.cell d.cell s k) ∙ g)

pub driven_cut : (j : Job) (t : ℕ) (c : Course) → t ≤ c.last → Driven j c → Driven j (cut t c)
driven_cut j t c h d = record { known = d.known; starts = d.starts; steps = λ s l. d.steps s (omega arith) }

pub aside_cut : (t : ℕ) (o c : Course) → t ≤ c.last → Aside o c → Aside o (cut t c)
aside_cut t o c h a = record { own = a.own; no_share = λ s k l. a.no_share s k (omega arith); no_trade = λ s k l. a.no_trade s k (omega arith) }
