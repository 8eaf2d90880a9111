-- What the reader's answers stand for.
use Rattle.std.specs.Prelude.{ℕ, ◌+◌, ◌<◌, ◌≤◌, ◌≡◌, List, true, false, length, get_or, take, Option, Some, None, Result, Ok, Err}
use Rattle.model.specs.Limits.{max_cells, max_side}
use Rattle.model.specs.GridMap.{Drawn, bad, drawn, is_cell, all_letters, row_cells, map_cells}
use Rattle.gridmap.specs.CellPlaces.{CellsPlaced}
use Rattle.gridmap.specs.declared.read.BadLine.{BadLine}
use Rattle.gridmap.specs.declared.read.Rows.{Rows}

-- A row of letters after n cells, its cells noted by their places.
pub record GoodRow (l : List ℕ) (first n : ℕ) (places places' : List ℕ) (n' : ℕ) : Type 0 where
  pub letters : all_letters l ≡ true
  pub counts : n' ≡ n + row_cells l
  pub noted : (c : ℕ) → is_cell (get_or l c 0) ≡ true → n + row_cells (take c l) < max_cells → get_or places' (n + row_cells (take c l)) 0 ≡ first + c
  pub kept : (k : ℕ) → k < n → get_or places' k 0 ≡ get_or places k 0

abbrev pub RowRead : List ℕ → ℕ → ℕ → List ℕ → List ℕ → Option ℕ → Type 0
RowRead l first n places places' None = all_letters l ≡ false
RowRead l first n places places' (Some n') = GoodRow l first n places places' n'

pub record RowsOf (d : Drawn) (places : List ℕ) (w cells : ℕ) : Type 0 where
  pub rows : List (List ℕ)
  pub says : d ≡ drawn rows
  pub counts : cells ≡ map_cells rows
  pub placed : CellsPlaced rows w places
  pub few_rows : length rows ≤ max_side
  pub few_letters : w ≤ max_side

-- The answer says d, and where its cells stand.
abbrev pub Draws : Drawn → List ℕ → Result Rows BadLine → Type 0
Draws d places (Err b) = (d ≡ bad b.line) × (b.line ≤ max_side + 5)
Draws d places (Ok r) = RowsOf d places r.width r.cells
