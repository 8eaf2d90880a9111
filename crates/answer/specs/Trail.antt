-- The way of a cart back from a node, or on from one, in the flow that the store holds, but for two carts that would trade places: those both stand.
use Rattle.std.specs.Prelude.{ℕ, suc, ◌-◌, ◌<◌, ◌≡◌, List, get_or}
use Rattle.model.specs.Lists.{In}
use Rattle.model.specs.Job.{Job, Call}
use Rattle.model.specs.Choke.{Point, point}
use Rattle.flow.specs.Flow.{Link, off, end, to}
use Rattle.flow.specs.Line.{Ahead}
use Rattle.network.specs.Graph.{node_of}
use Rattle.network.specs.Links.{back_link}
use Rattle.network.specs.Stand.{stood_back}

abbrev pub back_from : Job → List ℕ → Point → Link Point
back_from j s = stood_back (back_link j s)

-- A cart is on the node.
abbrev pub HasCart : Job → List ℕ → Point → Type 0
HasCart j s x = back_from j s x ≡ off → ⊥

-- It came there from the cell c.
abbrev pub CameFrom : Job → List ℕ → Point → ℕ → Type 0
CameFrom j s x c = back_from j s x ≡ to (point c (x.step - 1))

-- Its cells up to the node were written into the row, where no other entry changed. The first of them is c, where a cart starts.
pub record Trail (j : Job) (s : List ℕ) (x : Point) (row row' : List ℕ) (c : ℕ) : Type 0 where
  pub ends : get_or row' x.step 0 ≡ x.cell
  pub follows : (t : ℕ) → t < x.step → back_from j s (point (get_or row' (suc t) 0) (suc t)) ≡ to (point (get_or row' t 0) t)
  pub begins : c ≡ get_or row' 0 0
  pub starts : back_from j s (point c 0) ≡ end
  pub kept : (t : ℕ) → x.step < t → get_or row' t 0 ≡ get_or row t 0

-- A cart is on the node that meets no call.
pub record MeetsNone (j : Job) (s : List ℕ) (x : Point) : Type 0 where
  pub cart : HasCart j s x
  pub free : (q : Call) → In q j.calls → Ahead (back_from j s) (node_of j q) x → ⊥

-- From x it goes on to the cell c.
abbrev pub GoesTo : Job → List ℕ → Point → ℕ → Type 0
GoesTo j s x c = back_from j s (point c (suc x.step)) ≡ to x

-- The row has the cells of the cart that starts on c, at the steps before n.
pub record WalkRow (j : Job) (s : List ℕ) (c n : ℕ) (row : List ℕ) : Type 0 where
  pub begins : get_or row 0 0 ≡ c
  pub follows : (t : ℕ) → suc t < n → back_from j s (point (get_or row (suc t) 0) (suc t)) ≡ to (point (get_or row t 0) t)
