-- What `any` answers over a slice, as a test of its members. Assumes nothing.
use Prim.Native.Nat.{ℕ, ◌<◌}
use mathlib.Core.List.{List}
use mathlib.Core.Bool.{Bool, true, false}
use native.Mathlib.Omega.{arith}
use lib.ListN.{length, get_or}
use Rattle.std.specs.Bool.{MatchBool}
use Rattle.std.specs.List.{HoldsAt, AllWithin}
use Rattle.model.specs.Lists.{In}
use Rattle.model.proofs.Lists.{in_get_or, in_place}
use Rattle.job.specs.Held.{Decides}
use Rattle.job.proofs.Tested.{told, denied}

pub any_in : (r : Bool) (P : ℕ → Type 0) (xs : List ℕ) → MatchBool r ((k : ℕ) × (k < length xs) × HoldsAt P xs k) (AllWithin (λ x. P x → ⊥) xs 0 (length xs))
    → Decides r ((x : ℕ) × In x xs × P x)
any_in true P xs (k, h, p) = told (get_or xs k 0, in_get_or xs k 0 h, p 0)
any_in false P xs none = denied (λ (x, m, p). let (k, h, e) = in_place x xs 0 m in none k 0 (omega arith) h (rw e at p))
