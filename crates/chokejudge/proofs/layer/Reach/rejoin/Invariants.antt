-- `rejoin` adds the cell of each point whose row has an older cell. Invariant: the points before the one at the index were looked at. What is older stays so, since only cells of this
-- step are added. Assumes nothing.
use Prim.Native.Nat.{ℕ}
use mathlib.Core.Path.{◌≡◌}
use Rattle.floor.specs.declared.tables.Neighbours.{Neighbours}
use Rattle.chokejudge.specs.declared.layer.Reach.{Reach}
use Rattle.chokejudge.specs.ChokeLayers.{Side}
use Rattle.chokejudge.specs.Grown.{Older, Grown}
use Rattle.chokejudge.specs.Points.{cells_of}
use Rattle.chokejudge.proofs.GrownLaws.{Each}
use Rattle.chokejudge.proofs.layer.Reach.rejoin.Given as goal

-- u itself, where its row has an older cell
abbrev pub Back : Neighbours → Reach → ℕ → ℕ → ℕ → Type 0
Back near a t u v = ((x : ℕ) × Side near u x × Older a t x) × (v ≡ u)

abbrev pub invariant-loop-point : goal.invariant-loop-point
invariant-loop-point l = Grown l.shut l.t (Each (cells_of l.points) (Back l.neighbours l.initial.self l.t) l.point-index) l.initial.self l.self
