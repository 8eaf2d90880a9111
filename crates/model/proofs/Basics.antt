-- Small facts that every file of proofs cites. Assumes nothing.
use Prim.Native.Nat.{ℕ}
use mathlib.Core.Path.{◌≡◌, refl}
use mathlib.Core.Bool.{Bool, true, false, cond, ◌&&◌}
use native.Mathlib.Omega.{arith}

-- What contradicts itself proves all: `nope (cc)`.
pub nope : {A : Type 0} → ◌≡◌ {A = ℕ} 0 1 → A
nope e = absurd (omega arith)

pub and_left : (x y : Bool) → (x && y) ≡ true → x ≡ true
and_left true y e = refl
and_left false y e = e

pub and_right : (x y : Bool) → (x && y) ≡ true → y ≡ true
and_right true y e = e
and_right false y e = nope (cc)

pub and_both : (x y : Bool) → x ≡ true → y ≡ true → (x && y) ≡ true
and_both x y e f = rw (e, f)

pub and_second : (x y : Bool) → x ≡ true → (x && y) ≡ y
and_second x y e = rw e

-- both ways lead to the same
pub either_way : {A : Type 0} (t : Bool) (a : A) → cond t a a ≡ a
either_way true a = refl
either_way false a = refl
