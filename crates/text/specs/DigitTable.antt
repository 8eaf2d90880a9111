-- The table of digits.
use Rattle.std.specs.Prelude.{ℕ, suc, ◌+◌, ◌*◌, ◌/◌, ◌%◌, ◌≡◌, List, [], ◌∷◌, Bool, true, ◌&&◌, eqb, length}

-- The rule of an entry: the three digits of its index, each in four bits, the first of them highest.
abbrev pub packed : ℕ → ℕ
packed n = n / 100 % 10 * 256 + n / 10 % 10 * 16 + n % 10

-- The test of all entries, from that with index i on.
abbrev pub keeps : (ℕ → ℕ) → ℕ → List ℕ → Bool
keeps rule i [] = true
keeps rule i (e ∷ es) = eqb e (rule i) && keeps rule (suc i) es

-- A thousand entries that pass it.
pub record DigitTable (es : List ℕ) : Type 0 where
  pub thousand : length es ≡ 1000
  pub right : keeps packed 0 es ≡ true
