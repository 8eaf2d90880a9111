-- The choke points that are cells, as a list, by their steps.
use Rattle.std.specs.Prelude.{ℕ, ◌≤◌, ◌<◌, List, Option, None, Some, map, length, get_or}
use Rattle.std.specs.List.{filter_map}
use Rattle.job.specs.declared.held.Choke.{Choke}
use Rattle.job.specs.declared.held.Choke.TheVariants.{Cell, Call}
use Rattle.chokejudge.specs.declared.layer.Point.{Point}

abbrev pub point_of : Choke → Option Point
point_of (Cell t v) = Some (record { step = t; cell = v })
point_of (Call k) = None

abbrev pub points_in : List Choke → List Point
points_in = filter_map point_of

abbrev pub cells_of : List Point → List ℕ
cells_of = map (λ p. p.cell)

-- what stands behind the end of a list of points
abbrev pub no_point : Point
no_point = record { step = 0; cell = 0 }

-- The steps do not fall.
abbrev pub Climbs : List Point → Type 0
Climbs points = (i k : ℕ) → i ≤ k → k < length points → (get_or points i no_point).step ≤ (get_or points k no_point).step

-- p is the place of the first point whose step is at least t.
pub record Cursor (points : List Point) (t p : ℕ) : Type 0 where
  pub few : p ≤ length points
  pub before : (k : ℕ) → k < p → (get_or points k no_point).step < t
  pub after : (k : ℕ) → p ≤ k → k < length points → t ≤ (get_or points k no_point).step
