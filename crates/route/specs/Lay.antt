-- What a push and the laying of one hop write into the store.
use Rattle.std.specs.Prelude.{ℕ, suc, ◌<◌, List, Bool, cond, ◌&&◌, eqb}
use Rattle.model.specs.Choke.{Point}
use Rattle.network.specs.Store.{meets, place_at, with_used, with_mark, with_next, with_prev, with_entry, Spacious}
use Rattle.network.specs.declared.planes.Grid.{Grid}
use Rattle.route.specs.Stack.{pos_at, via_of}

-- x marked, and put on the stack at depth d
abbrev pub pushed : Grid → List ℕ → ℕ → Point → Point → ℕ → List ℕ
pushed g s d x via stamp = with_entry g (with_mark g s (place_at g x) stamp) d x via

abbrev pub is_same : Point → Point → Bool
is_same x y = eqb x.cell y.cell && eqb x.step y.step

-- the byte of the node u by way of which a hop leaves v: unused where v itself falls out, else met by the call that v is, or leading on to v
abbrev pub use_of : Grid → Point → Point → ℕ
use_of g v u = cond (is_same v u) 0 (cond (eqb v.step g.top) meets 1)

-- what v keeps of u, from where it comes: a call the step, a node the cell
abbrev pub from_of : Grid → Point → Point → ℕ
from_of g v u = cond (eqb v.step g.top) u.step u.cell

-- u goes on to v, v came from u, and w has no mark.
abbrev pub joined : Grid → List ℕ → Point → Point → Point → List ℕ
joined g s v u w =
    with_mark g (with_used g (with_prev g (with_next g s (place_at g u) v.cell) (place_at g v) (from_of g v u)) (place_at g u) (use_of g v u)) (place_at g w) 0

-- the store with the i-th hop laid
abbrev pub laid : Grid → List ℕ → ℕ → List ℕ
laid g s i = joined g s (pos_at g s i) (via_of g s i) (pos_at g s (suc i))

-- All that the hop names has its place.
pub record Layable (g : Grid) (s : List ℕ) (i : ℕ) : Type 0 where
  pub room : Spacious g s
  pub next : suc i < g.nodes
  pub here : place_at g (pos_at g s i) < g.nodes
  pub there : place_at g (pos_at g s (suc i)) < g.nodes
  pub by : place_at g (via_of g s i) < g.nodes
