-- Lists that have everything of a kind: the numbers below one, and the walks of a job. Assumes nothing.
use Prim.Native.Nat.{ℕ, zero, suc, ◌<◌}
use mathlib.Core.Path.{◌≡◌, refl, sym, ap, subst}
use mathlib.Core.List.{List, [], ◌∷◌, ◌++◌, map}
use mathlib.Core.Logic.{inl, inr}
use mathlib.Core.Bool.{Bool, true, false}
use native.Mathlib.Omega.{arith}
use lib.ListN.{length, get_or}
use lib.Dec.{leb}
use borrow.Author.Tests.{leb-true, leb-false}
use Rattle.model.specs.Lists.{In}
use Rattle.model.specs.Job.{Job, Call, CallKind, lift, bay, track}
use Rattle.model.specs.Walk.{Move, Walk, InTime, Serves}
use Rattle.model.proofs.Lists.{in_map, in_left, in_right}

abbrev pub each : {A B : Type 0} → (A → List B) → List A → List B
each f [] = []
each f (a ∷ l) = f a ++ each f l

pub in_each : {A B : Type 0} (f : A → List B) (a : A) (b : B) (l : List A) → In a l → In b (f a) → In b (each f l)
in_each f a b [] h k = absurd h
in_each f a b (c ∷ l) (inl e) k = in_left b (f c) (each f l) (subst (λ x. In b (f x)) e k)
in_each f a b (c ∷ l) (inr h) k = in_right b (f c) (each f l) (in_each f a b l h k)

-- the numbers below n
abbrev pub below : ℕ → List ℕ
below zero = []
below (suc n) = n ∷ below n

pub length_below : (n : ℕ) → length (below n) ≡ n
length_below zero = refl
length_below (suc n) = ap suc (length_below n)

pub in_below : (n a : ℕ) → a < n → In a (below n)
in_below zero a h = absurd (omega arith)
in_below (suc n) a h = go (leb (suc a) n) refl (λ l. in_below n a l)
  where
    go : (b : Bool) → leb (suc a) n ≡ b → (a < n → In a (below n)) → In a (n ∷ below n)
    go true e ih = inr (ih (leb-true (suc a) n e))
    go false e ih = inl (omega (arith, leb-false (suc a) n e))

-- the walks of n steps from c, and some lists that are none
abbrev pub ends : Job → List ℕ
ends j = map (λ t. t.from) j.tracks ++ map (λ t. t.to) j.tracks

abbrev pub walks : Job → ℕ → ℕ → List (List ℕ)
walks j zero c = (c ∷ []) ∷ []
walks j (suc n) c = each (λ d. map (λ w. c ∷ w) (walks j n d)) (c ∷ ends j)

move_in : (j : Job) (u v : ℕ) → Move j u v → In v (u ∷ ends j)
move_in j u v (inl e) = inl (sym e)
move_in j u v (inr (inl h)) = inr (in_right v (map (λ t. t.from) j.tracks) (map (λ t. t.to) j.tracks) (in_map (λ t. t.to) (track u v) j.tracks h))
move_in j u v (inr (inr h)) = inr (in_left v (map (λ t. t.from) j.tracks) (map (λ t. t.to) j.tracks) (in_map (λ t. t.from) (track v u) j.tracks h))

Moves : Job → List ℕ → Type 0
Moves j w = (t : ℕ) → suc t < length w → Move j (get_or w t 0) (get_or w (suc t) 0)

in_walks : (j : Job) (n : ℕ) (w : List ℕ) → length w ≡ suc n → Moves j w → In w (walks j n (get_or w 0 0))
unfolding Moves
in_walks j n [] e s = absurd (omega arith)
in_walks j zero (a ∷ []) e s = inl refl
in_walks j zero (a ∷ b ∷ w) e s = absurd (omega arith)
in_walks j (suc n) (a ∷ []) e s = absurd (omega arith)
in_walks j (suc n) (a ∷ b ∷ w) e s =
    in_each (λ d. map (λ w. a ∷ w) (walks j n d)) b (a ∷ b ∷ w) (a ∷ ends j) (move_in j a b (s 0 (omega arith)))
    (in_map (λ w. a ∷ w) (b ∷ w) (walks j n b) (in_walks j n (b ∷ w) (omega arith) (λ t h. s (suc t) (omega arith))))

pub walk_among : (j : Job) (c n : ℕ) (w : List ℕ) → Walk j c w → length w ≡ suc n → In w (walks j n c)
unfolding Moves
walk_among j c n w wk size = rw wk.starts.1 at (in_walks j n w size (λ t h. (wk.steps t h).0))

-- the steps at which a call is met, and the walks that end at one of them
abbrev pub steps_of : CallKind → ℕ → List ℕ
steps_of lift d = below (suc d)
steps_of bay d = d ∷ []

abbrev pub walks_of : Job → Call → ℕ → List (List ℕ)
walks_of j q c = each (λ t. walks j t c) (steps_of q.kind q.deadline)

in_steps : (k : CallKind) (d t : ℕ) → InTime k d t → In t (steps_of k d)
in_steps lift d t h = in_below (suc d) t (omega arith)
in_steps bay d t h = inl h

pub walk_listed : (j : Job) (c : ℕ) (q : Call) (w : List ℕ) → Walk j c w → Serves w q → In w (walks_of j q c)
walk_listed j c q w wk sv =
    in_each (λ t. walks j t c) sv.last w (steps_of q.kind q.deadline) (in_steps q.kind q.deadline sv.last sv.in_time) (walk_among j c sv.last w wk sv.size)
