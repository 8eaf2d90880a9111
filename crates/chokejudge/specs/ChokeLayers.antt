-- What the check of a choke list decides, for lists and numbers: layer by layer, the cells that a cart can be on at a step without having stood on a choke point, and whether one of
-- them is that of a call which is met then.
use Rattle.std.specs.Prelude.{ℕ, zero, suc, ◌+◌, ◌≤◌, ◌<◌, ◌≡◌, List, ◌⊎◌, length, get_or}
use Rattle.model.specs.Limits.{max_cells, max_steps}
use Rattle.model.specs.Lists.{In}
use Rattle.model.specs.Job.{Job, lift, bay}
use Rattle.job.specs.Held.{Some}
use Rattle.job.specs.Lists.{kinds_of, cells_of, deadlines_of}
use Rattle.job.specs.declared.state.Call.{Call}
use Rattle.floor.specs.declared.tables.Neighbours.{Neighbours}
use Rattle.floor.specs.Tables.{row_of, Near, OpenAt}
use Rattle.chokejudge.specs.declared.layer.Point.{Point}

-- x is in row c.
abbrev pub Side : Neighbours → ℕ → ℕ → Type 0
Side rows c x = In x (row_of rows.near rows.begin c)

-- One of the points is v at the step t.
abbrev pub Choked : List Point → ℕ → ℕ → Type 0
Choked points t v = In (record { step = t; cell = v }) points

-- The rows are those of a job's floor, and the carts and points stand on its cells.
pub record OneFloor (rows : Neighbours) (carts : List ℕ) (points : List Point) : Type 0 where
  pub job : Job
  pub near : Near job rows.near rows.begin
  pub few : job.cells ≤ max_cells
  pub carts_known : (v : ℕ) → In v carts → v < job.cells
  pub points_known : (t v : ℕ) → Choked points t v → v < job.cells

-- Call k is a bay whose step is t.
abbrev pub BayAt : List Call → ℕ → ℕ → Type 0
BayAt calls t k = (get_or (kinds_of calls) k lift ≡ bay) × (get_or (deadlines_of calls) k 0 ≡ t)

-- One of the calls is a bay on v whose step is t.
abbrev pub BayOn : List Call → ℕ → ℕ → Type 0
BayOn calls t v = Some (length calls) (λ k. (get_or (cells_of calls) k 0 ≡ v) × BayAt calls t k)

-- What the table says of the calls: at step 0 every cell is open, and one that closes behind a step has a bay of that step.
pub record Closing (calls : List Call) (shut : List ℕ) : Type 0 where
  pub first : (v : ℕ) → v < max_cells → OpenAt shut 0 v
  pub bay : (t v : ℕ) → v < max_cells → t < max_steps → get_or shut v 0 ≡ t + 1 → BayOn calls t v

-- A cart on v at the step t meets a call: it is in time for the lift on v, or the step is that of the bay on v.
abbrev pub MetBy : List ℕ → List Call → ℕ → ℕ → Type 0
MetBy due calls t v = (t < get_or due v 0) ⊎ BayOn calls t v

-- The cells of a layer: first the carts' cells, then what a step leads to from the layer before and is open, each without the choke points of its step.
abbrev pub LayerOf : (ℕ → Type 0) → (ℕ → ℕ → Type 0) → (ℕ → ℕ → Type 0) → (ℕ → ℕ → Type 0) → ℕ → ℕ → Type 0
LayerOf First Side Open Choke zero v = First v × (Choke 0 v → ⊥)
LayerOf First Side Open Choke (suc t) v = ((u : ℕ) × LayerOf First Side Open Choke t u × Side u v) × Open (suc t) v × (Choke (suc t) v → ⊥)

-- The layers of the floor with these rows and closed cells, the carts on these cells, and these points.
abbrev pub Reached : Neighbours → List ℕ → List ℕ → List Point → ℕ → ℕ → Type 0
Reached rows shut carts points = LayerOf (λ v. In v carts) (Side rows) (OpenAt shut) (Choked points)

-- A cell of a layer up to the step `last` meets a call.
abbrev pub SomeMet : (ℕ → ℕ → Type 0) → ℕ → (ℕ → ℕ → Type 0) → Type 0
SomeMet Met last L = (t : ℕ) × (t ≤ last) × ((v : ℕ) × L t v × Met t v)
