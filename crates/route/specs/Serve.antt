-- What serving one call is handed, answers and leaves.
use Rattle.std.specs.Prelude.{ℕ, ◌+◌, ◌<◌, ◌≤◌, ◌≡◌, List, Result, Ok, Err, Bool, true, false, ◌⊎◌, ◌↔◌, length}
use Rattle.model.specs.Job.{Job}
use Rattle.model.specs.Choke.{Point}
use Rattle.flow.specs.Flow.{end}
use Rattle.floor.specs.declared.tables.Tables as floor
use Rattle.network.specs.Store.{nodes, grid_of, mark_at, is_marked}
use Rattle.network.specs.Links.{back_link, on_link}
use Rattle.network.specs.Holds.{Holds, SameFlow}
use Rattle.network.specs.Stuck.{Stuck}
use Rattle.network.specs.declared.planes.Grid.{Grid}
use Rattle.route.specs.Search.{Fresh, Searching}
use Rattle.route.specs.declared.serve.Unserved.{Unserved}

-- No mark is above the stamp.
abbrev pub MarksUpTo : Job → List ℕ → ℕ → Type 0
MarksUpTo j s stamp = (v : ℕ) → v < nodes j → mark_at (grid_of j) s v ≤ stamp

-- A search from the call's node x, and the way that it found laid into the flow: r says whether there was one. No mark is above the stamp but those that were.
pub record Sought (j : Job) (g : Grid) (s s' : List ℕ) (stamp : ℕ) (x : Point) (r : Bool) : Type 0 where
  pub long : length s' ≡ length s
  pub holds : Holds j g s'
  pub marks : (n : ℕ) → stamp ≤ n → MarksUpTo j s n → MarksUpTo j s' n
  pub serves : r ≡ true → (v : Point) → (on_link j s' v ≡ end) ↔ ((on_link j s v ≡ end) ⊎ (v ≡ x))
  pub same : r ≡ false → SameFlow (grid_of j) s s'
  pub stuck : r ≡ false → Fresh j s stamp → Stuck j (back_link j s') (on_link j s') (is_marked j s' stamp) x

-- A search may start, with a stamp that no mark is above; where fresh says so, no mark has it. There is room for one stamp more.
pub record Serving (j : Job) (T : floor.Tables) (s : List ℕ) (g : Grid) (x : Point) (stamp : ℕ) (fresh : Bool) : Type 0 where
  pub search : Searching j T s g x
  pub small : stamp < 255
  pub marks : MarksUpTo j s stamp
  pub clean : fresh ≡ true → Fresh j s stamp

-- The call's node x is served now, or it cannot be: the marks with the stamp show why.
abbrev pub ServedBy : Job → List ℕ → List ℕ → ℕ → Point → Result ℕ Unserved → Type 0
ServedBy j s s' stamp x (Ok n) = (n ≤ stamp + 1) × (stamp ≤ n) × MarksUpTo j s' n × ((v : Point) → (on_link j s' v ≡ end) ↔ ((on_link j s v ≡ end) ⊎ (v ≡ x)))
ServedBy j s s' stamp x (Err e) = (e.stamp ≤ stamp + 1) × Stuck j (back_link j s') (on_link j s') (is_marked j s' e.stamp) x
