-- Decisions that compute, for facts about closed jobs. Assumes nothing.
use Prim.Native.Nat.{ℕ, zero, suc, ◌≤◌, ◌<◌}
use mathlib.Core.Path.{◌≡◌, refl, sym, subst}
use mathlib.Core.List.{List, [], ◌∷◌}
use mathlib.Core.Logic.{◌⊎◌, inl, inr}
use mathlib.Core.Bool.{Bool, true, false}
use native.Mathlib.Omega.{arith}
use lib.Dec.{T, leb, eqb}
use borrow.Author.Tests.{leb-true, leb-false, eqb-true, eqb-false}
use Rattle.model.specs.Lists.{In}

-- a decision that came out
abbrev pub is_yes : {P : Type 0} → Dec P → Bool
is_yes (yes p) = true
is_yes (no n) = false

pub decided : {P : Type 0} (d : Dec P) → T (is_yes d) → P
decided (yes p) t = p
decided (no n) t = absurd t

abbrev pub dec_by : {P Q : Type 0} → (P → Q) → (Q → P) → Dec P → Dec Q
dec_by f g (yes p) = yes (f p)
dec_by f g (no n) = no (λ q. n (g q))

abbrev pub dec_and : {P Q : Type 0} → Dec P → Dec Q → Dec (P × Q)
dec_and (yes p) (yes q) = yes (p, q)
dec_and (yes p) (no n) = no (λ h. n h.1)
dec_and (no n) d = no (λ h. n h.0)

pub neither : {P Q : Type 0} → (P → ⊥) → (Q → ⊥) → P ⊎ Q → ⊥
neither n m (inl p) = n p
neither n m (inr q) = m q

abbrev pub dec_or : {P Q : Type 0} → Dec P → Dec Q → Dec (P ⊎ Q)
dec_or (yes p) d = yes (inl p)
dec_or (no n) (yes q) = yes (inr q)
dec_or (no n) (no m) = no (neither n m)

abbrev pub dec_not : {P : Type 0} → Dec P → Dec (P → ⊥)
dec_not (yes p) = no (λ n. n p)
dec_not (no n) = yes n

abbrev pub dec_imp : {P Q : Type 0} → Dec P → Dec Q → Dec (P → Q)
dec_imp (no n) d = yes (λ p. absurd (n p))
dec_imp (yes p) (yes q) = yes (λ h. q)
dec_imp (yes p) (no n) = no (λ f. n (f p))

-- the numbers
abbrev pub by_eqb : (a b : ℕ) (t : Bool) → eqb a b ≡ t → Dec (a ≡ b)
by_eqb a b true e = yes (eqb-true a b e)
by_eqb a b false e = no (eqb-false a b e)

abbrev pub dec_eq : (a b : ℕ) → Dec (a ≡ b)
dec_eq a b = by_eqb a b (eqb a b) refl

abbrev pub by_leb : (a b : ℕ) (t : Bool) → leb a b ≡ t → Dec (a ≤ b)
by_leb a b true e = yes (leb-true a b e)
by_leb a b false e = no (λ h. omega (arith, leb-false a b e))

abbrev pub dec_le : (a b : ℕ) → Dec (a ≤ b)
dec_le a b = by_leb a b (leb a b) refl

abbrev pub dec-lt : (a b : ℕ) → Dec (a < b)
dec-lt a b = dec_le (suc a) b

-- every number below n
pub none_below : (P : ℕ → Type 0) (t : ℕ) → t < 0 → P t
none_below P t h = absurd (omega arith)

pub one_below : {P : ℕ → Type 0} (n : ℕ) → P n × ((t : ℕ) → t < n → P t) → (t : ℕ) → t < suc n → P t
one_below {P} n h t l = go (leb (suc t) n) refl
  where
    go : (b : Bool) → leb (suc t) n ≡ b → P t
    go true e = h.1 t (leb-true (suc t) n e)
    go false e = let q : n ≡ t = omega (arith, leb-false (suc t) n e) in subst P q h.0

pub less_below : {P : ℕ → Type 0} (n : ℕ) → ((t : ℕ) → t < suc n → P t) → P n × ((t : ℕ) → t < n → P t)
less_below n h = (h n (omega arith), λ t l. h t (omega arith))

abbrev pub all-below : {P : ℕ → Type 0} → ((t : ℕ) → Dec (P t)) → (n : ℕ) → Dec ((t : ℕ) → t < n → P t)
all-below {P} d zero = yes (none_below P)
all-below {P} d (suc n) = dec_by (one_below {P = P} n) (less_below {P = P} n) (dec_and (d n) (all-below d n))

-- every member, some member
abbrev pub all_in : {A : Type 0} {P : A → Type 0} → ((a : A) → Dec (P a)) → (l : List A) → Dec ((a : A) → In a l → P a)
all_in d [] = yes (λ a h. absurd h)
all_in {A} {P} d (b ∷ l) = dec_by both (λ h. (h b (inl refl), λ a m. h a (inr m))) (dec_and (d b) (all_in d l))
  where
    both : P b × ((a : A) → In a l → P a) → (a : A) → (a ≡ b) ⊎ In a l → P a
    both h a (inl e) = subst P (sym e) h.0
    both h a (inr m) = h.1 a m

abbrev pub any_in : {A : Type 0} {P : A → Type 0} → ((a : A) → Dec (P a)) → (l : List A) → Dec ((a : A) × In a l × P a)
any_in d [] = no (λ h. absurd h.1)
any_in {A} {P} d (b ∷ l) = dec_by one other (dec_or (d b) (any_in d l))
  where
    one : P b ⊎ ((a : A) × In a l × P a) → (a : A) × In a (b ∷ l) × P a
    one (inl p) = (b, inl refl, p)
    one (inr (a, m, p)) = (a, inr m, p)

    other : (a : A) × In a (b ∷ l) × P a → P b ⊎ ((a : A) × In a l × P a)
    other (a, inl e, p) = inl (subst P e p)
    other (a, inr m, p) = inr (a, m, p)

abbrev pub dec_in : {A : Type 0} → ((a b : A) → Dec (a ≡ b)) → (a : A) (l : List A) → Dec (In a l)
dec_in d a [] = no (λ h. h)
dec_in d a (b ∷ l) = dec_or (d a b) (dec_in d a l)

pub nil_cons : {A : Type 0} {a : A} {l : List A} → [] ≡ a ∷ l → ⊥
nil_cons e = let z : ◌≡◌ {A = ℕ} 0 1 = cc in omega arith

pub cons_nil : {A : Type 0} {a : A} {l : List A} → a ∷ l ≡ [] → ⊥
cons_nil e = let z : ◌≡◌ {A = ℕ} 0 1 = cc in omega arith

pub cons_eq : {A : Type 0} {a b : A} {l m : List A} → (a ≡ b) × (l ≡ m) → a ∷ l ≡ b ∷ m
cons_eq h = cc (h.0, h.1)

pub cons_parts : {A : Type 0} {a b : A} {l m : List A} → a ∷ l ≡ b ∷ m → (a ≡ b) × (l ≡ m)
cons_parts e = (cc, cc)

abbrev pub dec_list : {A : Type 0} → ((a b : A) → Dec (a ≡ b)) → (l m : List A) → Dec (l ≡ m)
dec_list d [] [] = yes refl
dec_list d [] (b ∷ m) = no nil_cons
dec_list d (a ∷ l) [] = no cons_nil
dec_list d (a ∷ l) (b ∷ m) = dec_by cons_eq cons_parts (dec_and (d a b) (dec_list d l m))
