-- Texts of a fixed form, sheets and maps: lines that are due one after the other, and the number of the first bad one, from 1.
use Rattle.std.specs.Prelude.{ℕ, zero, suc, ◌+◌, List, [], ◌∷◌, ◌++◌}
use Rattle.std.proofs.Math.Option.{Option, none, some}
use Rattle.model.specs.Text.{Lines, done, cut, more}

module _ {R : Type 0} (bad : ℕ → R) where
  abbrev pub or_bad : {A : Type 0} → ℕ → Option A → (A → R) → R
  or_bad n none on = bad n
  or_bad n (some a) on = on a

  -- The line with number n is due, as `say` knows it; then comes what follows it.
  abbrev pub line_due : {A : Type 0} → (List ℕ → Option A) → ℕ → Lines → (A → Lines → R) → R
  line_due say n done on = bad n
  line_due say n cut on = bad n
  line_due say n (more l ls) on = or_bad n (say l) (λ a. on a ls)

  -- The lines from number n on: k of them, `say` each; then comes what follows them. `got` were said so far.
  module _ {A : Type 0} (say : List ℕ → Option A) (on : List A → ℕ → Lines → R) where
    abbrev pub lines_due : List A → ℕ → ℕ → Lines → R
    lines_due got zero n ls = on got n ls
    lines_due got (suc k) n done = bad n
    lines_due got (suc k) n cut = bad n
    lines_due got (suc k) n (more l ls) = or_bad n (say l) (λ a. lines_due (got ++ (a ∷ [])) k (n + 1) ls)

  -- No line is left.
  abbrev pub no_more : R → ℕ → Lines → R
  no_more r n done = r
  no_more r n cut = bad n
  no_more r n (more l ls) = bad n

  -- The lines from number n on: k more of them, and no other.
  abbrev pub rest_says : {A : Type 0} → (List ℕ → Option A) → (List A → R) → List A → ℕ → ℕ → Lines → R
  rest_says say all got k n ls = lines_due say (λ l. no_more (all l)) got k n ls
