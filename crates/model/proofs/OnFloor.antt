-- The carts on the floor at a step up to H are the spare ones and those not yet lifted or parked: the latter as many as the calls still to be met then, and so at most as many as the
-- calls with that deadline or a later one. Both are as many as the rides that have the step: each has a cart of its own, and a path a call of its own, and there are as many rides as
-- carts and as many paths as calls, so that none of these is without. Assumes nothing.
use Prim.Native.Nat.{ℕ, zero, suc, ◌+◌, ◌≤◌, ◌<◌}
use mathlib.Core.Path.{◌≡◌, refl, sym, ◌∙◌}
use mathlib.Core.List.{List, [], ◌∷◌, ◌++◌, map}
use mathlib.Core.Logic.{◌↔◌, inl, inr, ⊎_elim}
use native.Mathlib.Omega.{arith}
use lib.ListN.{length, get_or}
use Rattle.model.specs.Lists.{In, NoDup}
use Rattle.model.specs.Job.{Job, Call, lift, call, call_of, horizon}
use Rattle.model.specs.Walk.{InTime}
use Rattle.model.specs.Plan.{Path, Ride, ride_of, Plan, OnFloor}
use Rattle.model.proofs.Floor.{time_due}
use Rattle.model.proofs.Lists.{remove, remove_length, remove_keeps, in_map, one_of}
use Rattle.model.proofs.Rides.{ride_known, rides_all}
use Rattle.model.proofs.Decide.{dec_by, dec_and, dec_eq, dec_le, dec-lt, any_in}
use Rattle.model.proofs.Decisions.{dec_at}
use Rattle.model.proofs.Listed.{below, length_below, in_below}

-- The cart c is on the floor at the step t: a ride has it on some cell then.
abbrev pub CartOnFloor : List Ride → ℕ → ℕ → Type 0
CartOnFloor rs t c = (r : Ride) × In r rs × ((r.cart ≡ c) × ((v : ℕ) × OnFloor r.cells t v))

abbrev pub dec_on_floor : (rs : List Ride) (t c : ℕ) → Dec (CartOnFloor rs t c)
dec_on_floor rs t c = any_in (λ r. dec_and (dec_eq r.cart c) (somewhere r.cells)) rs
  where
    somewhere : (w : List ℕ) → Dec ((v : ℕ) × OnFloor w t v)
    somewhere w = dec_by (λ h. (get_or w t 0, h)) (λ h. (h.1.0, refl)) (dec_at w t (get_or w t 0))

-- The call k is still to be met at the step t: its path has that step.
abbrev pub Awaited : List Path → ℕ → ℕ → Type 0
Awaited ps t k = (p : Path) × In p ps × ((p.call ≡ k) × (t < length p.cells))

abbrev pub dec_awaited : (ps : List Path) (t k : ℕ) → Dec (Awaited ps t k)
dec_awaited ps t k = any_in (λ p. dec_and (dec_eq p.call k) (dec-lt t (length p.cells))) ps

-- The call's deadline is the step t or a later one.
abbrev pub dec_due : (t : ℕ) (q : Call) → Dec (t ≤ q.deadline)
dec_due t q = dec_le t q.deadline

-- how many of a list are so: yes adds one, no adds none
abbrev pub one : {P : Type 0} → Dec P → ℕ
one (yes p) = 1
one (no n) = 0

abbrev pub count : {A : Type 0} {P : A → Type 0} → ((a : A) → Dec (P a)) → List A → ℕ
count d [] = 0
count d (a ∷ l) = one (d a) + count d l

one_same : {P Q : Type 0} (x : Dec P) (y : Dec Q) → P ↔ Q → one x ≡ one y
one_same (yes p) (yes q) h = refl
one_same (yes p) (no n) h = absurd (n (h.0 p))
one_same (no n) (yes q) h = absurd (n (h.1 q))
one_same (no n) (no m) h = refl

one_less : {P Q : Type 0} (x : Dec P) (y : Dec Q) → (P → Q) → one x ≤ one y
one_less (yes p) (yes q) h = omega arith
one_less (yes p) (no n) h = absurd (n (h p))
one_less (no n) y h = omega arith

count_less : {A : Type 0} {P Q : A → Type 0} (d : (a : A) → Dec (P a)) (e : (a : A) → Dec (Q a)) (l : List A) → ((a : A) → P a → Q a) → count d l ≤ count e l
count_less d e [] h = omega arith
count_less d e (a ∷ l) h = omega (arith, one_less (d a) (e a) (h a), count_less d e l h)

count_remove : {A : Type 0} {P : A → Type 0} (d : (a : A) → Dec (P a)) (y : A) (l : List A) (h : In y l) → count d l ≡ one (d y) + count d (remove y l h)
unfolding remove
count_remove d y [] h = absurd h
count_remove d y (b ∷ l) (inl e) = rw e
count_remove d y (b ∷ l) (inr h) = omega (arith, count_remove d y l h)

-- Two lists are of one length, and f takes each member of the one to a member of the other, no two to the same: where f keeps what is asked, as many are so in both.
module _ {A B : Type 0} {P : A → Type 0} {Q : B → Type 0} (d : (a : A) → Dec (P a)) (e : (b : B) → Dec (Q b)) (f : A → B) where
  count_along : (l : List A) (m : List B) → NoDup (map f l) → length l ≡ length m → ((a : A) → In a l → In (f a) m × (P a ↔ Q (f a))) → count d l ≡ count e m
  count_along [] [] own size to = refl
  count_along [] (b ∷ m) own size to = absurd (omega arith)
  count_along (a ∷ l) m own size to =
      omega (
        arith,
        one_same (d a) (e (f a)) (to a (inl refl)).1,
        count_remove e (f a) m here,
        count_along l (remove (f a) m here) own.1 (omega (arith, remove_length (f a) m here)) (λ b k. (left b k, (to b (inr k)).1)),
      )
    where
      here : In (f a) m
      here = (to a (inl refl)).0

      left : (b : A) → In b l → In (f b) (remove (f a) m here)
      left b k = ⊎_elim (λ q. absurd (own.0 (rw q at (in_map f b l k)))) (λ i. i) (remove_keeps (f a) m here (f b) (to b (inr k)).0)

-- As many members of a list are so as places of it.
count_below : {P : ℕ → Type 0} (d : (k : ℕ) → Dec (P k)) (n : ℕ) → count d (below (suc n)) ≡ one (d 0) + count (λ k. d (suc k)) (below n)
count_below d zero = refl
count_below d (suc n) = omega (arith, count_below d n)

count_places : {A : Type 0} {P : A → Type 0} (d : (a : A) → Dec (P a)) (x : A) (l : List A) → count (λ k. d (get_or l k x)) (below (length l)) ≡ count d l
count_places d x [] = refl
count_places d x (a ∷ l) = omega (arith, count_below (λ k. d (get_or (a ∷ l) k x)) (length l), count_places d x l)

abbrev has : {A : Type 0} (cells : A → List ℕ) (t : ℕ) (a : A) → Dec (t < length (cells a))
has cells t a = dec-lt t (length (cells a))

-- Of n members, each with a number of its own below n, as many have the step t as numbers below n are those of such a member.
module _ {A : Type 0} (cells : A → List ℕ) (l : List A) (t : ℕ) (f : A → ℕ) (n : ℕ) (size : length l ≡ n) (own : NoDup (map f l)) (known : (a : A) → In a l → f a < n) where
  count_having : {R : A → Type 0} (d : (k : ℕ) → Dec ((a : A) × In a l × ((f a ≡ k) × R a))) → ((a : A) → (t < length (cells a)) ↔ R a) → count (has cells t) l ≡ count d (below n)
  count_having {R} d on = count_along (has cells t) d f l (below n) own (size ∙ sym (length_below n)) (λ a m. (in_below n (f a) (known a m), (λ h. (a, m, (refl, (on a).0 h)), back a m)))
    where
      back : (a : A) → In a l → (b : A) × In b l × ((f b ≡ f a) × R b) → t < length (cells a)
      back a m (b, k, (e, h)) = (on a).1 (rw (one_of f l own b a k m e) at h)

-- The rides that have the step t are those of the paths that have it, and all of the spare carts.
count_staying : (t : ℕ) (ss : List Ride) → ((s : Ride) → In s ss → t < length s.cells) → count (has (λ s. s.cells) t) ss ≡ length ss
count_staying t [] h = refl
count_staying t (s ∷ ss) h = omega (arith, one_yes (has (λ s. s.cells) t s) (h s (inl refl)), count_staying t ss (λ x m. h x (inr m)))
  where
    one_yes : {P : Type 0} (x : Dec P) → P → one x ≡ 1
    one_yes (yes p) h = refl
    one_yes (no n) h = absurd (n h)

count_rides : (t : ℕ) (ps : List Path) (ss : List Ride) → ((s : Ride) → In s ss → t < length s.cells)
    → count (has (λ r. r.cells) t) (map ride_of ps ++ ss) ≡ count (has (λ p. p.cells) t) ps + length ss
count_rides t [] ss h = omega (arith, count_staying t ss h)
count_rides t (p ∷ ps) ss h = omega (arith, count_rides t ps ss h)

module _ (j : Job) (ps : List Path) (ss : List Ride) (pl : Plan j ps ss) (t : ℕ) (during : t ≤ horizon j) where
  pub as_many : count (dec_on_floor (map ride_of ps ++ ss) t) (below (length j.carts)) ≡ count (dec_awaited ps t) (below (length j.calls)) + length ss
  as_many =
      omega (
        arith,
        count_having (λ r. r.cells) (map ride_of ps ++ ss) t (λ r. r.cart) (length j.carts) (rides_all j ps ss pl) pl.apart.own_cart (ride_known j ps ss pl)
            (dec_on_floor (map ride_of ps ++ ss) t)
            (λ r. (λ h. (get_or r.cells t 0, (h, refl)), λ h. h.1.0)),
        count_rides t ps ss (λ s m. omega (arith, (pl.stay s m).size)),
        count_having (λ p. p.cells) ps t (λ p. p.call) (length j.calls) pl.served.size pl.served.own_call (λ p m. (pl.served.leads p m).known_call) (dec_awaited ps t)
            (λ p. (λ h. h, λ h. h)),
      )

  due : (k : ℕ) → Awaited ps t k → t ≤ (call_of j k).deadline
  due k (p, m, (e, h)) =
      let s = (pl.served.leads p m).serves in
      rw e at (below_end (call_of j p.call) s.last s.in_time (omega (arith, s.size)))
    where
      below_end : (q : Call) (last : ℕ) → InTime q.kind q.deadline last → t ≤ last → t ≤ q.deadline
      below_end q last i l = omega (arith, time_due q.kind q.deadline last i)

  pub no_more : count (dec_on_floor (map ride_of ps ++ ss) t) (below (length j.carts)) ≤ count (dec_due t) j.calls + length ss
  no_more =
      omega (
        arith,
        as_many,
        count_less (dec_awaited ps t) (λ k. dec_due t (call_of j k)) (below (length j.calls)) due,
        count_places (dec_due t) (call lift 0 0) j.calls,
      )
