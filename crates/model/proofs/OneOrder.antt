-- No plan, no list of spare carts and no choke list has two right orders: one that is in order is told by its members. And of two calls of a job that was read one stands before the other, since a
-- cell has one call at most. Assumes nothing.
use Prim.Native.Nat.{ℕ, ◌<◌}
use mathlib.Core.Path.{◌≡◌, refl, sym, ◌∙◌}
use mathlib.Core.List.{List, [], ◌∷◌}
use mathlib.Core.Logic.{◌⊎◌, ◌↔◌, inl, inr, ⊎_elim}
use native.Mathlib.Omega.{arith}
use lib.ListN.{length}
use Rattle.model.specs.Lists.{In, Rising}
use Rattle.model.specs.Job.{Job, lift, call, call_of}
use Rattle.model.specs.Plan.{Path, Ride, Sooner, Before, PlanInOrder, SparesInOrder}
use Rattle.model.specs.Choke.{Choke, cell_step, whole_call, Rises, ChokesInOrder}
use Rattle.model.specs.Ready.{Ready}
use Rattle.model.proofs.Lists.{place_of, rising_first}
use Rattle.model.proofs.Lex.{lex_on, lex_apart, lex_else}
use Rattle.model.proofs.Decisions.{dec_sooner}

pub one_sooner : (j : Job) → Ready j → (p q : ℕ) → p < length j.calls → q < length j.calls → (p ≡ q → ⊥)
    → Sooner (call_of j p) (call_of j q) ⊎ Sooner (call_of j q) (call_of j p)
one_sooner j r p q h g apart = go (dec_sooner (call_of j p) (call_of j q))
  where
    go : Dec (Sooner (call_of j p) (call_of j q)) → Sooner (call_of j p) (call_of j q) ⊎ Sooner (call_of j q) (call_of j p)
    go (yes s) = inl s
    go (no s) = ⊎_elim inr (λ e. absurd (apart (place_of (λ c. c.cell) j.calls r.fit.own_targets p q (call lift 0 0) h g e.1))) (lex_else _ _ _ _ s)

module _ {A : Type 0} (R : A → A → Type 0) (on : (x y z : A) → R x y → R y z → R x z) (not_itself : (x : A) → R x x → ⊥) where
  behind : (x : A) (xs : List A) → Rising R (x ∷ xs) → Rising R xs
  behind x [] r = tt
  behind x (y ∷ xs) r = r.1

  -- what is behind the first is not the first
  rest : (x y : A) (xs ys : List A) → x ≡ y → Rising R (x ∷ xs) → ((z : A) → In z (x ∷ xs) → In z (y ∷ ys)) → (z : A) → In z xs → In z ys
  rest x y xs ys e r f z m = go (f z (inr m))
    where
      go : In z (y ∷ ys) → In z ys
      go (inl k) = absurd (not_itself z (rw (e ∙ sym k) at (rising_first R on x xs r z m)))
      go (inr k) = k

  rising_same : (xs ys : List A) → Rising R xs → Rising R ys → ((z : A) → In z xs → In z ys) → ((z : A) → In z ys → In z xs) → xs ≡ ys
  rising_same [] [] r s f g = refl
  rising_same [] (y ∷ ys) r s f g = absurd (g y (inl refl))
  rising_same (x ∷ xs) [] r s f g = absurd (f x (inl refl))
  rising_same (x ∷ xs) (y ∷ ys) r s f g =
      let e = first (f x (inl refl)) (g y (inl refl)) in
      let t = rising_same xs ys (behind x xs r) (behind y ys s) (rest x y xs ys e r f) (rest y x ys xs (sym e) s g) in
      λ i. e i ∷ t i
    where
      first : In x (y ∷ ys) → In y (x ∷ xs) → x ≡ y
      first (inl e) k = e
      first (inr m) (inl e) = sym e
      first (inr m) (inr k) = absurd (not_itself x (on x y x (rising_first R on x xs r y k) (rising_first R on y ys s x m)))

pub one_plan_order : (j : Job) (ps qs : List Path) → PlanInOrder j ps → PlanInOrder j qs → ((p : Path) → In p ps ↔ In p qs) → ps ≡ qs
one_plan_order j ps qs r s m = rising_same (Before j) (λ x y z. lex_on) (λ x h. lex_apart h refl refl) ps qs r s (λ p. (m p).0) (λ p. (m p).1)

pub one_spare_order : (rs ss : List Ride) → SparesInOrder rs → SparesInOrder ss → ((r : Ride) → In r rs ↔ In r ss) → rs ≡ ss
one_spare_order rs ss h k m = rising_same (λ r s. r.cart < s.cart) (λ x y z h k. omega arith) (λ x h. omega arith) rs ss h k (λ r. (m r).0) (λ r. (m r).1)

pub rises_on : (x y z : Choke) → Rises x y → Rises y z → Rises x z
rises_on (cell_step x) (cell_step y) (cell_step z) h k = lex_on h k
rises_on (cell_step x) y (whole_call m) h k = tt
rises_on (cell_step x) (whole_call l) (cell_step z) h k = absurd k
rises_on (whole_call l) (cell_step y) z h k = absurd h
rises_on (whole_call l) (whole_call m) (cell_step z) h k = absurd k
rises_on (whole_call l) (whole_call m) (whole_call n) h k = omega arith

pub rises_apart : (x : Choke) → Rises x x → ⊥
rises_apart (cell_step x) h = lex_apart h refl refl
rises_apart (whole_call k) h = omega arith

pub one_choke_order : (xs ys : List Choke) → ChokesInOrder xs → ChokesInOrder ys → ((x : Choke) → In x xs ↔ In x ys) → xs ≡ ys
one_choke_order xs ys r s m = rising_same Rises rises_on rises_apart xs ys r s (λ x. (m x).0) (λ x. (m x).1)
