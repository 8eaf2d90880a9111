-- The most bytes of a numeral, of the fields of a line, of a line and of many lines. Assumes nothing.
use Prim.Native.Nat.{ℕ, ◌+◌, ◌*◌, ◌/◌, ◌≤◌}
use mathlib.Core.Path.{refl}
use mathlib.Core.List.{List, [], ◌∷◌}
use mathlib.Core.Logic.{inl, inr}
use mathlib.Core.Bool.{Bool, true, false, cond}
use native.Mathlib.Omega.{arith}
use native.Mathlib.Nat.{mul-suc}
use lib.Dec.{ltb}
use lib.ListN.{length, length-append}
use Rattle.model.specs.Lists.{In}
use Rattle.model.specs.Text.{digit, numeral, fields, line}
use Rattle.model.specs.SheetText.{lines_text}

pub numeral_short : (n : ℕ) → length (numeral n) ≤ 3
numeral_short n = go (ltb n 10) (ltb n 100)
  where
    go : (t u : Bool) → length (cond t (digit n ∷ []) (cond u (digit (n / 10) ∷ digit n ∷ []) (digit (n / 100) ∷ digit (n / 10) ∷ digit n ∷ []))) ≤ 3
    go true u = omega arith
    go false true = omega arith
    go false false = omega arith

pub fields_room : (ns : List ℕ) → length (fields ns) ≤ 4 * length ns
fields_room [] = omega arith
fields_room (n ∷ ns) = simp length-append (omega (arith, numeral_short n, fields_room ns))

pub line_room : (word ns : List ℕ) → length (line word ns) ≤ length word + 4 * length ns + 1
line_room word ns = simp length-append (omega (arith, fields_room ns))

-- l lines of at most k bytes each
pub lines_room : {A : Type 0} (word numbers : A → List ℕ) (k : ℕ) (l : List A) → ((a : A) → In a l → length (line (word a) (numbers a)) ≤ k)
    → length (lines_text word numbers l) ≤ k * length l
lines_room word numbers k [] h = omega arith
lines_room word numbers k (a ∷ l) h =
    rw (length-append (line (word a) (numbers a)) (lines_text word numbers l), mul-suc) (omega (arith, h a (inl refl), lines_room word numbers k l (λ b i. h b (inr i))))
