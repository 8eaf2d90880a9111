-- A table of bits, eight to a byte: bit i is bit i % 8 of byte i / 8.
use Rattle.std.specs.Prelude.{ℕ, ◌+◌, ◌*◌, ◌/◌, ◌%◌, ◌^◌, List, Bool, cond, ltb, eqb, get_or, set}
use Rattle.std.specs.Int.Bits.{bit_or}

unfoldable pub bit_at : List ℕ → ℕ → Bool
bit_at l i = eqb (get_or l (i / 8) 0 / 2 ^ (i % 8) % 2) 1

-- the table with bit i set
unfoldable pub with_bit : List ℕ → ℕ → List ℕ
with_bit l i = set l (i / 8) (bit_or (get_or l (i / 8) 0) (2 ^ (i % 8)))

-- The pairs whose greater cell is below n, a cell with itself among them.
abbrev pub pairs_below : ℕ → ℕ
pairs_below n = n * (n + 1) / 2

-- The pairs stand by their greater cell, then by their lesser one.
abbrev pub pair_at : ℕ → ℕ → ℕ
pair_at a b = cond (ltb a b) (pairs_below b + a) (pairs_below a + b)
