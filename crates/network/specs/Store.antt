-- Where the store keeps what is known of each node: planes of one byte a node, one after the other. Nothing outside this file and `planes` knows which is which.
--   0 used: 0 if not, 2 where the cart meets the call on the cell, else 1    1 mark of the search
--   2 the cell it goes on to    3 the cell it came from; of a call the step at which it is met
--   4 to 8 the search's stack: cell of each position, its step by two bytes, and cell and step of the node by way of which it was reached
use Rattle.std.specs.Prelude.{ℕ, ◌+◌, ◌-◌, ◌*◌, ◌/◌, ◌%◌, ◌≤◌, ◌<◌, ◌≡◌, List, Bool, not, cond, ◌&&◌, eqb, ltb, leb, length, get_or, set}
use Rattle.model.specs.Job.{Job}
use Rattle.model.specs.Choke.{Point, point}
use Rattle.network.specs.Graph.{top}
use Rattle.network.specs.declared.planes.Grid.{Grid}
use Rattle.network.specs.declared.planes.Node.{Node}
use Rattle.network.specs.declared.planes.Store.{Store}
use Rattle.network.specs.declared.planes.Use.{Use}
use Rattle.network.specs.declared.planes.Use.TheVariants.{Free, Leads, Meets}

-- how many nodes: cells at steps from 0 to H, and a layer for the calls
abbrev pub nodes : Job → ℕ
nodes j = (top j + 1) * j.cells

abbrev pub grid_of : Job → Grid
grid_of j = record { cells = j.cells; top = top j; nodes = nodes j }

-- where the node of a cell at a step stands in each plane
abbrev pub place_in : Grid → ℕ → ℕ → ℕ
place_in g c t = t * g.cells + c

abbrev pub as_point : Node → Point
as_point v = point v.cell v.step

abbrev pub place_at : Grid → Point → ℕ
place_at g x = place_in g x.cell x.step

abbrev pub idx : Job → Point → ℕ
idx j x = place_at (grid_of j) x

-- the place of the v-th byte of the plane p, and the byte
abbrev pub spot : Grid → ℕ → ℕ → ℕ
spot g p v = p * g.nodes + v

abbrev pub at : Grid → List ℕ → ℕ → ℕ → ℕ
at g s p v = get_or s (spot g p v) 0

abbrev pub used_at : Grid → List ℕ → ℕ → ℕ
used_at g s v = at g s 0 v

abbrev pub mark_at : Grid → List ℕ → ℕ → ℕ
mark_at g s v = at g s 1 v

abbrev pub next_at : Grid → List ℕ → ℕ → ℕ
next_at g s v = at g s 2 v

abbrev pub prev_at : Grid → List ℕ → ℕ → ℕ
prev_at g s v = at g s 3 v

abbrev pub cell_at : Grid → List ℕ → ℕ → ℕ
cell_at g s i = at g s 4 i

abbrev pub step_at : Grid → List ℕ → ℕ → ℕ
step_at g s i = at g s 5 i + 256 * at g s 6 i

abbrev pub via_at : Grid → List ℕ → ℕ → Point
via_at g s i = point (at g s 7 i) (at g s 8 i)

-- the byte of a node at which the call on its cell is met
abbrev pub meets : ℕ
meets = 2

-- the byte of each use, and the tests of it
abbrev pub byte_of : Use → ℕ
byte_of Free = 0
byte_of Leads = 1
byte_of Meets = meets

abbrev pub used_test : Grid → List ℕ → ℕ → Bool
used_test g s v = not (eqb (used_at g s v) 0)

abbrev pub meets_test : Grid → List ℕ → ℕ → Bool
meets_test g s v = eqb (used_at g s v) meets

-- where a used node leads on to, and where it came from
abbrev pub leads_to : Grid → List ℕ → Point → Point
leads_to g s x = cond (eqb (used_at g s (place_at g x)) meets) (point x.cell g.top) (point (next_at g s (place_at g x)) (x.step + 1))

abbrev pub came_from : Grid → List ℕ → Point → Point
came_from g s x = cond (eqb x.step g.top) (point x.cell (prev_at g s (place_at g x))) (point (prev_at g s (place_at g x)) (x.step - 1))

abbrev pub with_used : Grid → List ℕ → ℕ → ℕ → List ℕ
with_used g s v b = set s (spot g 0 v) b

abbrev pub with_mark : Grid → List ℕ → ℕ → ℕ → List ℕ
with_mark g s v b = set s (spot g 1 v) b

abbrev pub with_next : Grid → List ℕ → ℕ → ℕ → List ℕ
with_next g s v b = set s (spot g 2 v) b

abbrev pub with_prev : Grid → List ℕ → ℕ → ℕ → List ℕ
with_prev g s v b = set s (spot g 3 v) b

abbrev pub with_position : Grid → List ℕ → ℕ → Point → List ℕ
with_position g s i x = set (set (set s (spot g 4 i) x.cell) (spot g 5 i) (x.step % 256)) (spot g 6 i) (x.step / 256)

abbrev pub with_via : Grid → List ℕ → ℕ → Point → List ℕ
with_via g s i x = set (set s (spot g 7 i) x.cell) (spot g 8 i) x.step

abbrev pub with_entry : Grid → List ℕ → ℕ → Point → Point → List ℕ
with_entry g s i x via = with_via g (with_position g s i x) i via

-- There is room for nine planes.
abbrev pub Spacious : Grid → List ℕ → Type 0
Spacious g s = 9 * g.nodes ≤ length s

-- and v is a place of a plane
abbrev pub Within : Grid → List ℕ → ℕ → Type 0
Within g s v = Spacious g s × (v < g.nodes)

-- The store t is s, lent on: the same bytes, cut for the same grid, whatever they are now.
pub record SameStore (s t : Store) : Type 0 where
  pub grid : t.grid ≡ s.grid
  pub lent : t.bytes.ghost_name ≡ s.bytes.ghost_name
  pub long : length t.bytes.now ≡ length s.bytes.now

-- It is, and has these bytes now.
pub record Stored (s t : Store) (b : List ℕ) : Type 0 where
  pub same : SameStore s t
  pub bytes : t.bytes.now ≡ b

-- the test of `Inside`
abbrev pub inside : Job → Point → Bool
inside j x = ltb x.cell j.cells && leb x.step (top j)

abbrev pub is_used : Job → List ℕ → Point → Bool
is_used j s x = inside j x && not (eqb (used_at (grid_of j) s (idx j x)) 0)

-- marked in the search that has this stamp
abbrev pub is_marked : Job → List ℕ → ℕ → Point → Bool
is_marked j s stamp x = inside j x && eqb (mark_at (grid_of j) s (idx j x)) stamp

-- No node is used or marked.
abbrev pub Blank : Grid → List ℕ → Type 0
Blank g s = (v : ℕ) → v < g.nodes → (used_at g s v ≡ 0) × (mark_at g s v ≡ 0)
