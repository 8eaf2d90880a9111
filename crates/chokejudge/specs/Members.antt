-- How many cells a layer's table has: those whose entry is above 0.
use Rattle.std.specs.Prelude.{ℕ, zero, suc, List, [], ◌∷◌}

abbrev pub members : List ℕ → ℕ
members [] = 0
members (zero ∷ l) = members l
members (suc x ∷ l) = suc (members l)
