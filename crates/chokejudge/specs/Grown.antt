-- A layer as the check holds it: a table with an entry above 0 for each of its cells, and a queue of the cells that were added; and what an added cell or a choke point does to them.
use Rattle.std.specs.Prelude.{ℕ, ◌+◌, ◌≤◌, ◌<◌, ◌≡◌, List, ◌++◌, ◌⊎◌, length, get_or, drop, slice_range}
use Rattle.model.specs.Limits.{max_calls}
use Rattle.model.specs.Lists.{In}
use Rattle.floor.specs.declared.tables.Neighbours.{Neighbours}
use Rattle.floor.specs.Tables.{OpenAt}
use Rattle.chokejudge.specs.declared.layer.Point.{Point}
use Rattle.chokejudge.specs.declared.layer.Reach.{Reach}
use Rattle.chokejudge.specs.ChokeLayers.{Side, Choked}
use Rattle.chokejudge.specs.Members.{members}
use Rattle.chokejudge.specs.Points.{cells_of, Cursor}

-- the cells of the last step
abbrev pub last_cells : Reach → List ℕ
last_cells a = drop a.head a.queue.items

-- the points of the last step
abbrev pub last_points : List Point → Reach → List Point
last_points points a = slice_range points a.opens a.closed

-- There is a place in the queue for each cell that is not in the table.
abbrev pub Roomy : Reach → Type 0
Roomy a = length a.queue.items ≤ members a.since + max_calls

-- v was in the layer before the step t.
abbrev pub Older : Reach → ℕ → ℕ → Type 0
Older a t v = (0 < get_or a.since v 0) × (get_or a.since v 0 ≤ t)

-- v is the cell of one of these points, and an older cell leads to it.
abbrev pub Again : Neighbours → List Point → Reach → ℕ → ℕ → Type 0
Again rows points a t v = In v (cells_of points) × ((x : ℕ) × Side rows v x × Older a t x)

-- An older one of the cells of the last step leads to v.
abbrev pub Onward : Neighbours → Reach → ℕ → ℕ → Type 0
Onward rows a t v = (u : ℕ) × In u (last_cells a) × (Older a t u × Side rows u v)

-- The cells of P that were not in the layer, and are open at the step t, were added: to the table as those of that step, and each once to the end of the queue.
pub record Grown (shut : List ℕ) (t : ℕ) (P : ℕ → Type 0) (a b : Reach) : Type 0 where
  pub added : List ℕ
  pub queue : b.queue.items ≡ a.queue.items ++ added
  pub count : length added + members a.since ≡ members b.since
  pub opens : b.opens ≡ a.opens
  pub closed : b.closed ≡ a.closed
  pub kept : (v : ℕ) → 0 < get_or a.since v 0 → get_or b.since v 0 ≡ get_or a.since v 0
  pub only : (v : ℕ) → get_or a.since v 0 ≡ 0 → 0 < get_or b.since v 0 → (get_or b.since v 0 ≡ t + 1) × OpenAt shut t v × (P v × In v added)
  pub all : (v : ℕ) → P v → OpenAt shut t v → 0 < get_or b.since v 0

-- The cells of P were taken out.
pub record Cleared (P : ℕ → Type 0) (l₀ l : List ℕ) : Type 0 where
  pub size : length l ≡ length l₀
  pub gone : (v : ℕ) → P v → get_or l v 0 ≡ 0
  pub each : (v : ℕ) → (get_or l v 0 ≡ get_or l₀ v 0) ⊎ P v

-- The points of the step t were taken out.
pub record Gone (points : List Point) (t : ℕ) (a b : Reach) : Type 0 where
  pub opens : b.opens ≡ a.closed
  pub next : Cursor points (t + 1) b.closed
  pub queue : b.queue.items ≡ a.queue.items
  pub head : b.head ≡ a.head
  pub cells : Cleared (Choked points t) a.since b.since
  pub count : members a.since + a.closed ≤ members b.since + b.closed
