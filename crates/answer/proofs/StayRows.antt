-- A row that is written from its start on holds the walk of a cart that meets no call; and a table that marks the carts of paths, one after the other. Assumes nothing.
use Prim.Native.Nat.{ℕ, zero, suc, ◌+◌, ◌<◌, ◌≤◌}
use mathlib.Core.Path.{◌≡◌, refl, sym, ◌∙◌, ap}
use mathlib.Core.List.{List}
use mathlib.Core.Bool.{Bool, true, false}
use native.Mathlib.Omega.{arith}
use native.Mathlib.Numerals.{add-one}
use lib.ListN.{length, get_or, set, replicate, length-replicate}
use lib.Seq.{get_or-set_same, get_or-set_other}
use Rattle.model.specs.Limits.{max_carts, max_cells}
use Rattle.model.specs.Job.{Job}
use Rattle.model.specs.Choke.{Point, point}
use Rattle.model.proofs.Basics.{nope}
use Rattle.model.proofs.Decide.{dec-lt}
use Rattle.flow.specs.Flow.{to}
use Rattle.job.specs.declared.held.Ride.{Ride}
use Rattle.job.specs.Held.{Some}
use Rattle.network.specs.declared.planes.Grid.{Grid}
use Rattle.network.specs.Keeping.{KeepsAll}
use Rattle.network.proofs.Points.{point_eq}
use Rattle.answer.specs.Spares.{cart_at}
use Rattle.answer.specs.Trail.{back_from, MeetsNone, GoesTo, WalkRow}
use Rattle.answer.proofs.PathLinks.{cart_known}
use Rattle.answer.proofs.StayLinks.{unmet_next}

-- The row has the cells up to the step t, where the cart is on a.
pub record WalkedTo (j : Job) (s : List ℕ) (c : ℕ) (row : List ℕ) (a t : ℕ) : Type 0 where
  pub onward : WalkRow j s c (suc t) row
  pub here : get_or row t 0 ≡ a
  pub unmet : MeetsNone j s (point a t)

module _ {j : Job} {g : Grid} {s : List ℕ} (h : KeepsAll j g s) {c : ℕ} {row : List ℕ} {a t : ℕ} (w : WalkedTo j s c row a t) (early : t + 1 < g.top) (long : t + 1 < length row) where
  pub going_more : (b : ℕ) → GoesTo j s (point a t) b → WalkedTo j s c (set row (t + 1) b) b (t + 1)
  going_more b e = record {
    onward = record { begins = other 0 (omega arith) ∙ w.onward.begins; follows = follows };
    here = new;
    unmet = rw (add-one t) (unmet_next h (point a t) w.unmet early b e);
  }
    where
      other : (k : ℕ) → k < t + 1 → get_or (set row (t + 1) b) k 0 ≡ get_or row k 0
      other k l = get_or-set_other row (t + 1) k b 0 (λ q. omega arith)

      new : get_or (set row (t + 1) b) (t + 1) 0 ≡ b
      new = get_or-set_same row (t + 1) b 0 long

      last : (k : ℕ) → k ≡ t → back_from j s (point (get_or (set row (t + 1) b) (suc k) 0) (suc k)) ≡ to (point (get_or (set row (t + 1) b) k 0) k)
      last k z =
          let high : suc k ≡ t + 1 = omega arith in
          let there : get_or (set row (t + 1) b) (suc k) 0 ≡ b = ap (λ i. get_or (set row (t + 1) b) i 0) high ∙ new in
          let from : get_or (set row (t + 1) b) k 0 ≡ a = other k (omega arith) ∙ ap (λ i. get_or row i 0) z ∙ w.here in
          ap (back_from j s) (point_eq there (ap suc z)) ∙ e ∙ ap to (point_eq (sym from) (sym z))

      follows : (k : ℕ) → suc k < suc (t + 1) → back_from j s (point (get_or (set row (t + 1) b) (suc k) 0) (suc k)) ≡ to (point (get_or (set row (t + 1) b) k 0) k)
      follows k l = go (dec-lt k t)
        where
          go : Dec (k < t) → back_from j s (point (get_or (set row (t + 1) b) (suc k) 0) (suc k)) ≡ to (point (get_or (set row (t + 1) b) k 0) k)
          go (yes m) = rw (other (suc k) (omega arith), other k (omega arith)) (w.onward.follows k (omega arith))
          go (no m) = last k (omega arith)

pub unmet_cell : {j : Job} {g : Grid} {s : List ℕ} {x : Point} → KeepsAll j g s → MeetsNone j s x → x.cell < max_cells
unmet_cell {x = x} h u = omega (arith, (cart_known h x u.cart).0, h.ready.fit.few_cells)

pub going_last : {j : Job} {s : List ℕ} {c : ℕ} {row : List ℕ} {a t n : ℕ} → WalkedTo j s c row a t → n ≤ t + 1 → WalkRow j s c n row
going_last w e = record { begins = w.onward.begins; follows = λ k l. w.onward.follows k (omega arith) }

-- The table of the carts that have paths.
pub record TakenTo (paths : List Ride) (k : ℕ) (table : List Bool) : Type 0 where
  pub size : length table ≡ max_carts
  pub marked : (i : ℕ) → i < k → get_or table (cart_at paths i) false ≡ true
  pub only : (c : ℕ) → get_or table c false ≡ true → Some k (λ i. cart_at paths i ≡ c)

blank : (n c : ℕ) → get_or (replicate n false) c false ≡ false
blank zero c = refl
blank (suc n) zero = refl
blank (suc n) (suc c) = blank n c

pub taken_none : (paths : List Ride) → TakenTo paths 0 (replicate max_carts false)
taken_none paths = record { size = length-replicate max_carts false; marked = λ i l. absurd (omega arith); only = λ c e. nope (cc (blank max_carts c)) }
