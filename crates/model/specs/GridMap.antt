-- Grid maps of the public MovingAI format: what a map text says, and the FLOOR and TRACK lines of its cells. A map is the list of its rows, a row that of its letters.
use Rattle.std.specs.Prelude.{ℕ, suc, ◌+◌, ◌≡◌, List, [], ◌∷◌, ◌++◌, ◌⊎◌, Bool, true, cond, ◌&&◌, ◌||◌, ltb, leb, eqb, length, get_or, take, drop}
use Rattle.std.proofs.Math.Option.{Option, none, some}
use Rattle.model.specs.Bytes.{bytes}
use Rattle.model.specs.Limits.{max_cells, max_side}
use Rattle.model.specs.Lists.{each_below}
use Rattle.model.specs.declared.answer.Answer.TheVariants.{SheetTooShort, BadMap, NoFloor}
use Rattle.model.specs.Job.{Job, Track, track}
use Rattle.model.specs.Text.{lines_of, starts_with, number_of, line, floor_word, track_word}
use Rattle.model.specs.SheetText.{lines_text}
use Rattle.model.specs.FirstBad.{line_due, rest_says}
use Rattle.model.specs.ReadJob.{Verdict, refused, accepted, member}

-- `.` and `G` are cells; `@`, `O` and `T` are none.
abbrev pub is_cell : ℕ → Bool
is_cell b = member b (bytes ".G")

abbrev pub is_wall : ℕ → Bool
is_wall b = member b (bytes "@OT")

abbrev pub is_letter : ℕ → Bool
is_letter b = is_cell b || is_wall b

abbrev pub all_letters : List ℕ → Bool
all_letters [] = true
all_letters (b ∷ l) = is_letter b && all_letters l

-- A line that is a word and nothing else; one that is a word and a size; a row of w letters.
abbrev pub word_line : List ℕ → List ℕ → Option (List ℕ)
word_line word l = cond (starts_with word l && eqb (length l) (length word)) (some l) none

abbrev pub size_of : Option ℕ → Option ℕ
size_of none = none
size_of (some n) = cond (ltb 0 n && leb n max_side) (some n) none

abbrev pub size_line : List ℕ → List ℕ → Option ℕ
size_line word l = cond (starts_with word l) (size_of (number_of (drop (length word) l))) none

abbrev pub row_line : ℕ → List ℕ → Option (List ℕ)
row_line w l = cond (eqb (length l) w && all_letters l) (some l) none

-- What a text says: a map, or the number of its first bad line.
pub data Drawn : Type 0 where
  bad : (line : ℕ) → Drawn
  drawn : (rows : List (List ℕ)) → Drawn

unfoldable pub read_map : List ℕ → Drawn
read_map s =
    line_due bad (word_line (bytes "type octile")) 1 (lines_of s) (λ _ ls₁.
    line_due bad (size_line (bytes "height ")) 2 ls₁ (λ h ls₂.
    line_due bad (size_line (bytes "width ")) 3 ls₂ (λ w ls₃.
    line_due bad (word_line (bytes "map")) 4 ls₃ (λ _ ls₄.
    rest_says bad (row_line w) drawn [] h 5 ls₄))))

-- Whether there is a cell in row r and column c, both from 0. Past the edges there is none.
abbrev pub cell_at : List (List ℕ) → ℕ → ℕ → Bool
cell_at m r c = is_cell (get_or (get_or m r []) c 0)

-- How many cells a row has, and a map.
abbrev pub row_cells : List ℕ → ℕ
row_cells [] = 0
row_cells (b ∷ l) = cond (is_cell b) (suc (row_cells l)) (row_cells l)

abbrev pub map_cells : List (List ℕ) → ℕ
map_cells [] = 0
map_cells (l ∷ m) = row_cells l + map_cells m

-- The number of a cell: how many stand before it, row by row from the top left.
abbrev pub cell_number : List (List ℕ) → ℕ → ℕ → ℕ
cell_number m r c = map_cells (take r m) + row_cells (take c (get_or m r []))

-- The track from a cell to another place, if that is a cell.
abbrev pub track_to : List (List ℕ) → ℕ → ℕ → ℕ → ℕ → List Track
track_to m r c r' c' = cond (cell_at m r' c') (track (cell_number m r c) (cell_number m r' c') ∷ []) []

-- The tracks that a place has: if it is a cell, to the right, then below.
abbrev pub tracks_at : List (List ℕ) → ℕ → ℕ → List Track
tracks_at m r c = cond (cell_at m r c) (track_to m r c r (suc c) ++ track_to m r c (suc r) c) []

abbrev pub tracks_of : List (List ℕ) → List Track
tracks_of m = each_below (length m) (λ r. each_below (length (get_or m r [])) (λ c. tracks_at m r c))

abbrev pub track_numbers : Track → List ℕ
track_numbers t = t.from ∷ t.to ∷ []

abbrev pub floor_lines : ℕ → List Track → List ℕ
floor_lines n ts = line floor_word (n ∷ []) ++ lines_text (λ t. track_word) track_numbers ts

abbrev pub map_text : List (List ℕ) → List ℕ
map_text m = floor_lines (map_cells m) (tracks_of m)

-- The job that the text says: this floor, with no carts and no calls.
abbrev pub floor_job : List (List ℕ) → Job
floor_job m = record { cells = map_cells m; tracks = tracks_of m; carts = []; calls = [] }

-- Two places are next to each other in a row or in a column.
abbrev pub NextTo : ℕ → ℕ → ℕ → ℕ → Type 0
NextTo r c r' c' = ((r ≡ r') × ((c' ≡ suc c) ⊎ (c ≡ suc c'))) ⊎ ((c ≡ c') × ((r' ≡ suc r) ⊎ (r ≡ suc r')))

-- The text that is written, or the refusal: 13, then 14, then 10 by the length of the buffer.
abbrev pub floor_text : ℕ → Drawn → Verdict (List ℕ)
floor_text room (bad l) = refused BadMap l
floor_text room (drawn m) = cond (ltb 0 (map_cells m) && leb (map_cells m) max_cells)
    (cond (leb (length (map_text m)) room) (accepted (map_text m)) (refused SheetTooShort 0))
    (refused NoFloor 0)

abbrev pub map_verdict : List ℕ → ℕ → Verdict (List ℕ)
map_verdict s room = floor_text room (read_map s)
