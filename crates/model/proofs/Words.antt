-- A line that starts with a word is no shorter than it. Assumes nothing.
use Prim.Native.Nat.{ℕ, suc, ◌≤◌}
use mathlib.Core.Path.{◌≡◌}
use mathlib.Core.List.{List, [], ◌∷◌}
use mathlib.Core.Bool.{Bool, true, false, cond}
use native.Mathlib.Omega.{arith}
use lib.Dec.{eqb}
use lib.ListN.{length}
use Rattle.model.specs.Text.{starts_with}
use Rattle.model.proofs.Basics.{nope}

pub opens_long : (w l : List ℕ) → starts_with w l ≡ true → length w ≤ length l
opens_long [] l e = omega arith
opens_long (a ∷ w) [] e = nope (cc)
opens_long (a ∷ w) (b ∷ l) e = go (eqb b a) e (opens_long w l)
  where
    go : (t : Bool) → cond t (starts_with w l) false ≡ true → (starts_with w l ≡ true → length w ≤ length l) → suc (length w) ≤ suc (length l)
    go true e ih = omega (arith, ih e)
    go false e ih = nope (cc)
