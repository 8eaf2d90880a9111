-- What the whole map says, line by line: the first four lines each go on where they are said, and are the first bad one where they are not. Assumes nothing.
use Prim.Native.Nat.{ℕ, ◌+◌, ◌<◌, ◌≤◌}
use mathlib.Core.Path.{◌≡◌, ◌∙◌}
use mathlib.Core.List.{List, []}
use mathlib.Core.Bool.{Bool, true, false, not}
use lib.ListN.{length, drop}
use Rattle.text.specs.Scan.{found}
use Rattle.std.specs.Prelude.{None}
use Rattle.std.specs.Prelude as std
use Rattle.text.specs.declared.Number.{Number}
use Rattle.model.specs.Bytes.{bytes}
use Rattle.model.specs.Limits.{max_side}
use Rattle.model.specs.Text.{Lines, lines_of}
use Rattle.model.specs.FirstBad.{line_due, rest_says}
use Rattle.model.specs.GridMap.{Drawn, bad, drawn, word_line, size_line, row_line, read_map}
use Rattle.model.proofs.Basics.{nope}
use Rattle.gridmap.specs.Lines.{SaidAt, UnsaidAt, WordAt, SizeAt}
use Rattle.gridmap.proofs.Lines.{due_said, due_unsaid}

-- The answers of the line functions.
module _ (word s : List ℕ) (at : ℕ) where
  pub no_word : (t : Bool) → not t ≡ true → WordAt word s at t → UnsaidAt (word_line word) s at
  no_word true e h = nope (cc)
  no_word false e h = h

  pub is_word : (t : Bool) → not t ≡ false → WordAt word s at t → SaidAt (word_line word) s at word (at + length word + 1)
  is_word true e h = h
  is_word false e h = nope (cc)

  pub no_size : (r : std.Option Number) → r ≡ None → SizeAt word s at r → UnsaidAt (size_line word) s at
  no_size r e h = rw e at h

  pub is_size : (r : std.Option Number) (v next : ℕ) → r ≡ found v next → SizeAt word s at r → SaidAt (size_line word) s at v next × (0 < v) × (v ≤ max_side)
  is_size r v next e h = rw e at h

abbrev rows_from : ℕ → ℕ → Lines → Drawn
rows_from h w ls = rest_says bad (row_line w) drawn [] h 5 ls

abbrev from_fourth : ℕ → ℕ → Lines → Drawn
from_fourth h w ls = line_due bad (word_line (bytes "map")) 4 ls (λ _ x. rows_from h w x)

abbrev from_third : ℕ → Lines → Drawn
from_third h ls = line_due bad (size_line (bytes "width ")) 3 ls (from_fourth h)

abbrev from_second : Lines → Drawn
from_second ls = line_due bad (size_line (bytes "height ")) 2 ls from_third

module _ (s : List ℕ) where
  pub first_bad : UnsaidAt (word_line (bytes "type octile")) s 0 → read_map s ≡ bad 1
  unfolding read_map
  first_bad u = due_unsaid bad (word_line (bytes "type octile")) s 0 1 (λ _ x. from_second x) u

  module _ {p : ℕ} (one : SaidAt (word_line (bytes "type octile")) s 0 (bytes "type octile") p) where
    past_first : read_map s ≡ from_second (lines_of (drop p s))
    unfolding read_map
    past_first = due_said bad (word_line (bytes "type octile")) s 0 1 (λ _ x. from_second x) one

    pub second_bad : UnsaidAt (size_line (bytes "height ")) s p → read_map s ≡ bad 2
    second_bad u = past_first ∙ due_unsaid bad (size_line (bytes "height ")) s p 2 from_third u

    module _ {h q : ℕ} (two : SaidAt (size_line (bytes "height ")) s p h q) where
      past_second : read_map s ≡ from_third h (lines_of (drop q s))
      past_second = past_first ∙ due_said bad (size_line (bytes "height ")) s p 2 from_third two

      pub third_bad : UnsaidAt (size_line (bytes "width ")) s q → read_map s ≡ bad 3
      third_bad u = past_second ∙ due_unsaid bad (size_line (bytes "width ")) s q 3 (from_fourth h) u

      module _ {w r : ℕ} (three : SaidAt (size_line (bytes "width ")) s q w r) where
        past_third : read_map s ≡ from_fourth h w (lines_of (drop r s))
        past_third = past_second ∙ due_said bad (size_line (bytes "width ")) s q 3 (from_fourth h) three

        pub fourth_bad : UnsaidAt (word_line (bytes "map")) s r → read_map s ≡ bad 4
        fourth_bad u = past_third ∙ due_unsaid bad (word_line (bytes "map")) s r 4 (λ _ x. rows_from h w x) u

        pub past_fourth : {m : ℕ} → SaidAt (word_line (bytes "map")) s r (bytes "map") m → read_map s ≡ rows_from h w (lines_of (drop m s))
        past_fourth four = past_third ∙ due_said bad (word_line (bytes "map")) s r 4 (λ _ x. rows_from h w x) four
