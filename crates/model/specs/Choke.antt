-- Choke points show that there is no plan.
use Rattle.std.specs.Prelude.{ℕ, ◌<◌, ◌≤◌, ◌≡◌, List, length}
use Rattle.model.specs.Lists.{In, Rising, Lex}
use Rattle.model.specs.Job.{Job, lift, call_of, horizon}
use Rattle.model.specs.Walk.{At, Walk, Serves}

-- a cell at a step
pub record Point : Type 0 where
  pub cell : ℕ
  pub step : ℕ

abbrev pub point : ℕ → ℕ → Point
point v t = record { cell = v; step = t }

-- A choke point is a cell at a step, or a whole call, by its number.
pub data Choke : Type 0 where
  cell_step : Point → Choke
  whole_call : (call : ℕ) → Choke

-- The cell is one of the floor, the step one from 0 to H.
abbrev pub Known : Job → Point → Type 0
Known j x = (x.cell < j.cells) × (x.step ≤ horizon j)

-- So it is in a choke point, and a whole call is one at a lift.
abbrev pub KnownChoke : Job → Choke → Type 0
KnownChoke j (cell_step x) = Known j x
KnownChoke j (whole_call k) = (k < length j.calls) × ((call_of j k).kind ≡ lift)

-- The walk w, which ends at the call k, stands on the choke point.
abbrev pub Stops : List ℕ → ℕ → Choke → Type 0
Stops w k (cell_step x) = At w x.step x.cell
Stops w k (whole_call m) = m ≡ k

-- It stands on one of the choke points xs.
abbrev pub StandsOn : List ℕ → ℕ → List Choke → Type 0
StandsOn w k xs = (x : Choke) × In x xs × Stops w k x

-- Every walk from any cart's cell that serves any call stands on one of the choke points.
abbrev pub Chokes : Job → List Choke → Type 0
Chokes j xs = (c : ℕ) → In c j.carts → (k : ℕ) → k < length j.calls → (w : List ℕ) → Walk j c w → Serves w (call_of j k) → StandsOn w k xs

-- A true choke list.
pub record TrueChokes (j : Job) (xs : List Choke) : Type 0 where
  pub known : (x : Choke) → In x xs → KnownChoke j x
  pub few : length xs < length j.calls
  pub chokes : Chokes j xs

-- The order of the lines: cells by step, then cell; behind them whole calls by number; none twice.
abbrev pub Rises : Choke → Choke → Type 0
Rises (cell_step x) (cell_step y) = Lex x.step x.cell y.step y.cell
Rises (cell_step x) (whole_call m) = Unit {0}
Rises (whole_call k) (cell_step y) = ⊥
Rises (whole_call k) (whole_call m) = k < m

abbrev pub ChokesInOrder : List Choke → Type 0
ChokesInOrder xs = Rising Rises xs
