-- The store lent on from call to call, and what the tests of a node's use say. Assumes nothing.
use Prim.Native.Nat.{ℕ}
use mathlib.Core.Path.{◌≡◌, refl, ◌∙◌}
use mathlib.Core.Bool.{Bool, true, false, not}
use borrow.Author.Tests.{eqb-true, eqb-false, not-true}
use lib.Dec.{eqb}
use Rattle.model.proofs.Basics.{nope}
use Rattle.network.specs.declared.planes.Store.{Store}
use Rattle.network.specs.Store.{SameStore}

pub same_none : (s : Store) → SameStore s s
same_none s = record { grid = refl; lent = refl; long = refl }

pub same_more : {s t u : Store} → SameStore s t → SameStore t u → SameStore s u
same_more a b = record { grid = b.grid ∙ a.grid; lent = b.lent ∙ a.lent; long = b.long ∙ a.long }

module _ {b : Bool} {n : ℕ} where
  pub is_unused : b ≡ not (eqb n 0) → b ≡ false → n ≡ 0
  is_unused e f = go (eqb n 0) (λ x. x) (rw e at f)
    where
      go : (t : Bool) → (t ≡ true → eqb n 0 ≡ true) → not t ≡ false → n ≡ 0
      go true k q = eqb-true n 0 (k refl)
      go false k q = nope (cc)

  pub is_in_use : b ≡ not (eqb n 0) → b ≡ true → n ≡ 0 → ⊥
  is_in_use e f = eqb-false n 0 (not-true (eqb n 0) (rw e at f))
