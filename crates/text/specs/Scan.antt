-- A line and a number at a place of a text.
use Rattle.std.specs.Prelude.{ℕ, ◌+◌, List, [], ◌∷◌, Bool, true, cond, ◌&&◌, length, drop, ltb, eqb, Option, Some, None}
use Rattle.std.proofs.Math.Option as math
use Rattle.std.proofs.Math.Option.{none, some}
use Rattle.model.specs.Text.{number_of, digits_of, power_of, scaled, scaled_of}
use Rattle.text.specs.declared.Number.{Number}

-- what stands before the first line feed, or the whole
abbrev pub line_of : List ℕ → List ℕ
line_of [] = []
line_of (b ∷ s) = cond (eqb b 10) [] (b ∷ line_of s)

-- what stands before the first tab, or the whole
abbrev pub field_of : List ℕ → List ℕ
field_of [] = []
field_of (b ∷ s) = cond (eqb b 9) [] (b ∷ field_of s)

-- the number v, with the place after it
abbrev pub found : ℕ → ℕ → Option Number
found v next = Some (record { value = v; next = next })

-- the number of a field of `size` bytes that starts at `at`, if it is one
abbrev pub scanned : ℕ → ℕ → math.Option ℕ → Option Number
scanned at size none = None
scanned at size (some v) = found v (at + size)

-- the field at `at`, read by `number`
unfoldable pub field_at : (List ℕ → math.Option ℕ) → List ℕ → ℕ → Option Number
field_at number s at = scanned at (length (field_of (drop at s))) (number (field_of (drop at s)))

abbrev pub number_at : List ℕ → ℕ → Option Number
number_at s at = field_at number_of s at

-- with an exponent, or without one
abbrev pub scaled_at : List ℕ → ℕ → Option Number
scaled_at s at = field_at scaled_of s at

-- the number that the digits at `at` are
unfoldable pub digits_at : List ℕ → ℕ → Option Number
digits_at s at = scanned at (length (digits_of (drop at s))) (number_of (digits_of (drop at s)))

-- the number v with the exponent that the field at `at` is, if it is one
abbrev pub with_power : List ℕ → ℕ → ℕ → Option Number
with_power s at v = field_at (λ f. scaled (some v) (power_of f)) s at

-- how many `+` stand in front, at most one
abbrev pub plus_size : List ℕ → ℕ
plus_size [] = 0
plus_size (b ∷ s) = cond (eqb b 43) 1 0

-- a further digit may follow none, or digits with a value from 1 to 99
abbrev pub may_go_on : Option ℕ → Bool
may_go_on None = true
may_go_on (Some v) = ltb 0 v && ltb v 100

-- the digits that have the value end before `at`, if there are any
abbrev pub ended : ℕ → Option ℕ → Option Number
ended at None = None
ended at (Some v) = found v at
