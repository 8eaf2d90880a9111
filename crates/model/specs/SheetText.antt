-- The bytes of a sheet.
use Rattle.std.specs.Prelude.{ℕ, List, [], ◌∷◌, ◌++◌, length}
use Rattle.model.specs.Plan.{Path, Ride}
use Rattle.model.specs.Choke.{Choke, cell_step, whole_call}
use Rattle.model.specs.Text.{line, plan_word, path_word, spare_word, cannot_word, choke_word, whole_word}

-- a line for each member, in their order
abbrev pub lines_text : {A : Type 0} → (A → List ℕ) → (A → List ℕ) → List A → List ℕ
lines_text word numbers [] = []
lines_text word numbers (a ∷ l) = line (word a) (numbers a) ++ lines_text word numbers l

abbrev pub path_numbers : Path → List ℕ
path_numbers p = p.cart ∷ p.call ∷ p.cells

abbrev pub spare_numbers : Ride → List ℕ
spare_numbers s = s.cart ∷ s.cells

abbrev pub choke_opens : Choke → List ℕ
choke_opens (cell_step x) = choke_word
choke_opens (whole_call k) = whole_word

abbrev pub choke_numbers : Choke → List ℕ
choke_numbers (cell_step x) = x.cell ∷ x.step ∷ []
choke_numbers (whole_call k) = k ∷ []

-- PLAN counts the paths; the lines of the spare carts come behind theirs.
abbrev pub plan_text : List Path → List Ride → List ℕ
plan_text ps ss = line plan_word (length ps ∷ []) ++ (lines_text (λ p. path_word) path_numbers ps ++ lines_text (λ s. spare_word) spare_numbers ss)

abbrev pub cannot_text : List Choke → List ℕ
cannot_text xs = line cannot_word (length xs ∷ []) ++ lines_text choke_opens choke_numbers xs
