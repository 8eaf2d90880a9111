-- What a test answers. Assumes nothing.
use Prim.Native.Nat.{ℕ}
use mathlib.Core.Path.{◌≡◌, sym}
use mathlib.Core.Bool.{Bool, true, false, false≢true}
use lib.Dec.{eqb}
use borrow.Author.Tests.{eqb-true, eqb-false}
use Rattle.job.specs.Held.{Decides}

pub told : {P : Type 0} → P → Decides true P
told p = ((λ e. p), λ e. absurd (false≢true (sym e)))

pub denied : {P : Type 0} → (P → ⊥) → Decides false P
denied n = ((λ e. absurd (false≢true e)), λ e. n)

pub by_equal : {P : Type 0} (a b : ℕ) → (a ≡ b → P) → (P → a ≡ b) → Decides (eqb a b) P
by_equal a b f g = ((λ e. f (eqb-true a b e)), λ e p. eqb-false a b e (g p))

pub same_answer : {P Q : Type 0} {r : Bool} → (P → Q) → (Q → P) → Decides r P → Decides r Q
same_answer f g d = ((λ e. f (d.0 e)), λ e q. d.1 e (g q))
