-- How many cells a table has: one more where a cell is added, at most one less where one is taken out, and never more than the table has places. By induction over the table.
-- Assumes nothing.
use Prim.Native.Nat.{ℕ, zero, suc, ◌+◌, ◌≤◌, ◌<◌}
use mathlib.Core.Path.{◌≡◌}
use mathlib.Core.List.{List, [], ◌∷◌}
use native.Mathlib.Omega.{arith}
use lib.ListN.{length, get_or, set}
use Rattle.chokejudge.specs.Members.{members}

pub members_le : (l : List ℕ) → members l ≤ length l
members_le [] = omega arith
members_le (zero ∷ l) = omega (arith, members_le l)
members_le (suc x ∷ l) = omega (arith, members_le l)

pub members_room : (l : List ℕ) (i : ℕ) → i < length l → get_or l i 0 ≡ 0 → members l < length l
members_room [] i h e = absurd (omega arith)
members_room (zero ∷ l) zero h e = omega (arith, members_le l)
members_room (suc x ∷ l) zero h e = absurd (omega arith)
members_room (zero ∷ l) (suc i) h e = omega (arith, members_room l i (omega arith) e)
members_room (suc x ∷ l) (suc i) h e = omega (arith, members_room l i (omega arith) e)

pub members_add : (l : List ℕ) (i s : ℕ) → i < length l → get_or l i 0 ≡ 0 → 0 < s → members (set l i s) ≡ members l + 1
members_add [] i s h e p = absurd (omega arith)
members_add (zero ∷ l) zero zero h e p = absurd (omega arith)
members_add (zero ∷ l) zero (suc s) h e p = omega arith
members_add (suc x ∷ l) zero s h e p = absurd (omega arith)
members_add (zero ∷ l) (suc i) s h e p = members_add l i s (omega arith) e p
members_add (suc x ∷ l) (suc i) s h e p = omega (arith, members_add l i s (omega arith) e p)

pub members_clear : (l : List ℕ) (i : ℕ) → members l ≤ members (set l i 0) + 1
members_clear [] i = omega arith
members_clear (zero ∷ l) zero = omega arith
members_clear (suc x ∷ l) zero = omega arith
members_clear (zero ∷ l) (suc i) = members_clear l i
members_clear (suc x ∷ l) (suc i) = omega (arith, members_clear l i)
