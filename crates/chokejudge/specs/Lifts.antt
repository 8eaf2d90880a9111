-- Up to when the lifts take a cart, cell by cell.
use Rattle.std.specs.Prelude.{ℕ, ◌+◌, ◌≤◌, ◌<◌, ◌≡◌, List, length, get_or}
use Rattle.model.specs.Lists.{In}
use Rattle.model.specs.Job.{CallKind, lift, bay}
use Rattle.job.specs.Lists.{kinds_of, cells_of, deadlines_of}
use Rattle.job.specs.declared.state.Call.{Call}
use Rattle.job.specs.declared.held.Choke.{Choke}
use Rattle.job.specs.declared.held.Choke.TheVariants as variant
use Rattle.floor.specs.Made.{Filled}
use Rattle.chokejudge.specs.Grown.{Cleared}

-- One more than the last step at which a call's cart is lifted; a bay lifts none.
abbrev pub lifted_to : CallKind → ℕ → ℕ
lifted_to lift d = d + 1
lifted_to bay d = 0

-- v is the cell of a whole call among the choke points.
abbrev pub WholeOn : List Call → List Choke → ℕ → Type 0
WholeOn calls chokes v = (k : ℕ) × In (variant.Call k) chokes × (get_or (cells_of calls) k 0 ≡ v)

-- The table `all` has that for every call, at its cell. In `due` the cells of the whole calls were taken out.
pub record Lifts (calls : List Call) (chokes : List Choke) (due : List ℕ) : Type 0 where
  pub all : List ℕ
  pub filled : Filled (cells_of calls) (λ k. lifted_to (get_or (kinds_of calls) k lift) (get_or (deadlines_of calls) k 0)) 0 (length calls) all
  pub passed : Cleared (WholeOn calls chokes) all due

-- v is in the table, and a lift takes a cart on it at the step before `next`.
abbrev pub LiftedAt : List ℕ → List ℕ → ℕ → ℕ → Type 0
LiftedAt due since next v = (0 < get_or since v 0) × (next ≤ get_or due v 0)
