-- Every walk, right plan and right choke list of a small job: lists that have them all, some of them with others besides. Assumes nothing.
use Prim.Native.Nat.{ℕ, zero, suc, ◌-◌, ◌<◌}
use mathlib.Core.Path.{◌≡◌, refl, subst}
use mathlib.Core.List.{List, [], ◌∷◌, ◌++◌, map}
use mathlib.Core.Logic.{◌⊎◌, inl, inr}
use mathlib.Core.Bool.{Bool, true, false}
use native.Mathlib.Omega.{arith}
use lib.ListN.{length}
use lib.Dec.{leb}
use borrow.Author.Tests.{leb-true, leb-false}
use Rattle.model.specs.Lists.{In}
use Rattle.model.specs.Job.{Job, cart_cell, call_of, horizon}
use Rattle.model.specs.Plan.{Path, Ride, Leads, StaysOn}
use Rattle.model.specs.Choke.{point, Choke, cell_step, whole_call, KnownChoke}
use Rattle.model.specs.Promises.{RightPlan, RightChokes}
use Rattle.model.proofs.Lists.{in_map, in_left, in_right}
use Rattle.model.proofs.Listed.{each, in_each, below, in_below, walks, walk_among, walks_of, walk_listed}
use Rattle.model.proofs.Decisions.{dec_leads, dec_stays, dec_right_plan, dec_right_chokes}

-- the lists of n members of l, and those of fewer
abbrev pub lists : {A : Type 0} → ℕ → List A → List (List A)
lists zero l = [] ∷ []
lists (suc n) l = each (λ a. map (λ m. a ∷ m) (lists n l)) l

pub in_lists : {A : Type 0} (l m : List A) → ((a : A) → In a m → In a l) → In m (lists (length m) l)
in_lists l [] h = inl refl
in_lists l (a ∷ m) h = in_each (λ a. map (λ m. a ∷ m) (lists (length m) l)) a (a ∷ m) l (h a (inl refl)) (in_map (λ m. a ∷ m) m (lists (length m) l) (in_lists l m (λ b k. h b (inr k))))

abbrev pub shorter : {A : Type 0} → ℕ → List A → List (List A)
shorter zero l = []
shorter (suc n) l = lists n l ++ shorter n l

-- the members that a decision takes
abbrev pub keep : {A : Type 0} {P : A → Type 0} → ((a : A) → Dec (P a)) → List A → List A
keep d [] = []
keep d (a ∷ l) = elim (d a) [ yes p ↦ a ∷ keep d l | no n ↦ keep d l ]

pub in_keep : {A : Type 0} {P : A → Type 0} (d : (a : A) → Dec (P a)) (a : A) (l : List A) → In a l → P a → In a (keep d l)
in_keep d a [] h p = absurd h
in_keep {A} {P} d a (b ∷ l) h p = go (d b) h (λ k. in_keep d a l k p)
  where
    go : (x : Dec (P b)) → (a ≡ b) ⊎ In a l → (In a l → In a (keep d l)) → In a (elim x [ yes p ↦ b ∷ keep d l | no n ↦ keep d l ])
    go (yes q) (inl e) ih = inl e
    go (yes q) (inr k) ih = inr (ih k)
    go (no n) (inl e) ih = absurd (n (subst P e p))
    go (no n) (inr k) ih = ih k

-- every path that leads its cart to its call, and every right plan
abbrev pub some_paths : Job → List Path
some_paths j = each (λ a. each (λ b. map (λ w. record { cart = a; call = b; cells = w }) (walks_of j (call_of j b) (cart_cell j a)))
    (below (length j.calls))) (below (length j.carts))

abbrev pub all_paths : Job → List Path
all_paths j = keep (dec_leads j) (some_paths j)

path_listed : (j : Job) (p : Path) → Leads j p → In p (all_paths j)
path_listed j p l = in_keep (dec_leads j) p (some_paths j) some l
  where
    some : In p (some_paths j)
    some = in_each (λ a. each (λ b. map (λ w. record { cart = a; call = b; cells = w }) (walks_of j (call_of j b) (cart_cell j a)))
        (below (length j.calls))) p.cart p (below (length j.carts)) (in_below _ _ l.known_cart)
        (in_each (λ b. map (λ w. record { cart = p.cart; call = b; cells = w }) (walks_of j (call_of j b) (cart_cell j p.cart)))
        p.call p (below (length j.calls)) (in_below _ _ l.known_call)
        (in_map (λ w. record { cart = p.cart; call = p.call; cells = w }) p.cells (walks_of j (call_of j p.call) (cart_cell j p.cart))
        (walk_listed j _ _ _ l.walks l.serves)))

-- every walk of a spare cart
abbrev pub some_stays : Job → List Ride
some_stays j = each (λ a. map (λ w. record { cart = a; cells = w }) (walks j (horizon j) (cart_cell j a))) (below (length j.carts))

abbrev pub all_stays : Job → List Ride
all_stays j = keep (dec_stays j) (some_stays j)

stay_listed : (j : Job) (s : Ride) → StaysOn j s → In s (all_stays j)
stay_listed j s h = in_keep (dec_stays j) s (some_stays j) some h
  where
    some : In s (some_stays j)
    some = in_each (λ a. map (λ w. record { cart = a; cells = w }) (walks j (horizon j) (cart_cell j a))) s.cart s (below (length j.carts)) (in_below _ _ h.known_cart)
        (in_map (λ w. record { cart = s.cart; cells = w }) s.cells (walks j (horizon j) (cart_cell j s.cart)) (walk_among j (cart_cell j s.cart) (horizon j) s.cells h.walks h.size))

-- every right plan: paths for the calls, and walks for as many carts as are left
abbrev pub Planning : Type 0
Planning = List Path × List Ride

abbrev pub some_plans : Job → List Planning
some_plans j = each (λ ps. map (λ ss. (ps, ss)) (lists (length j.carts - length j.calls) (all_stays j))) (lists (length j.calls) (all_paths j))

abbrev pub all_plans : Job → List Planning
all_plans j = keep (λ p. dec_right_plan j p.0 p.1) (some_plans j)

pub plan_listed : (j : Job) (ps : List Path) (ss : List Ride) → RightPlan j ps ss → In (ps, ss) (all_plans j)
plan_listed j ps ss h = in_keep (λ p. dec_right_plan j p.0 p.1) (ps, ss) (some_plans j)
    (in_each (λ qs. map (λ rs. (qs, rs)) (lists (length j.carts - length j.calls) (all_stays j))) ps (ps, ss) (lists (length j.calls) (all_paths j)) paths
    (in_map (λ rs. (ps, rs)) ss (lists (length j.carts - length j.calls) (all_stays j)) spares)) h
  where
    paths : In ps (lists (length j.calls) (all_paths j))
    paths = rw h.0.served.size at (in_lists (all_paths j) ps (λ p m. path_listed j p (h.0.served.leads p m)))

    left : length ss ≡ length j.carts - length j.calls
    left = omega (arith, h.0.size, h.0.served.size)

    spares : In ss (lists (length j.carts - length j.calls) (all_stays j))
    spares = rw left at (in_lists (all_stays j) ss (λ s m. stay_listed j s (h.0.stay s m)))

-- every choke point, and every right choke list
abbrev pub cell_steps : Job → List Choke
cell_steps j = each (λ a. map (λ b. cell_step (point a b)) (below (suc (horizon j)))) (below j.cells)

abbrev pub whole_calls : Job → List Choke
whole_calls j = map whole_call (below (length j.calls))

pub choke_listed : (j : Job) (x : Choke) → KnownChoke j x → In x (cell_steps j ++ whole_calls j)
choke_listed j (cell_step x) k = in_left (cell_step x) (cell_steps j) (whole_calls j)
    (in_each (λ a. map (λ b. cell_step (point a b)) (below (suc (horizon j)))) x.cell (cell_step x) (below j.cells) (in_below _ _ k.0)
    (in_map (λ b. cell_step (point x.cell b)) x.step (below (suc (horizon j))) (in_below (suc (horizon j)) x.step (omega (arith, k.1)))))
choke_listed j (whole_call m) k =
    in_right (whole_call m) (cell_steps j) (whole_calls j) (in_map whole_call m (below (length j.calls)) (in_below (length j.calls) m k.0))

pub in_shorter : {A : Type 0} (n : ℕ) (l m : List A) → ((a : A) → In a m → In a l) → length m < n → In m (shorter n l)
in_shorter zero l m h k = absurd (omega arith)
in_shorter (suc n) l m h k = go (leb (suc (length m)) n) refl (λ k'. in_shorter n l m h k')
  where
    go : (b : Bool) → leb (suc (length m)) n ≡ b → (length m < n → In m (shorter n l)) → In m (lists n l ++ shorter n l)
    go true e ih = in_right m (lists n l) (shorter n l) (ih (leb-true (suc (length m)) n e))
    go false e ih =
        let q : length m ≡ n = omega (arith, leb-false (suc (length m)) n e) in
        in_left m (lists n l) (shorter n l) (rw q at (in_lists l m h))

abbrev pub all_chokes : Job → List (List Choke)
all_chokes j = keep (dec_right_chokes j) (shorter (length j.calls) (cell_steps j ++ whole_calls j))

pub chokes_listed : (j : Job) (xs : List Choke) → RightChokes j xs → In xs (all_chokes j)
chokes_listed j xs h =
    in_keep (dec_right_chokes j) xs (shorter (length j.calls) (cell_steps j ++ whole_calls j))
    (in_shorter (length j.calls) (cell_steps j ++ whole_calls j) xs (λ x m. choke_listed j x (h.0.known x m)) h.0.few) h
