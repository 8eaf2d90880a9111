-- `advance` spreads from each cell of the last step that is older. Invariant: those in the queue before place i were looked at. What is older stays so, since only cells of this step
-- are added, and they come behind the end of the queue. Assumes nothing.
use Prim.Native.Nat.{ℕ, ◌-◌}
use Rattle.floor.specs.declared.tables.Neighbours.{Neighbours}
use Rattle.chokejudge.specs.declared.layer.Reach.{Reach}
use Rattle.chokejudge.specs.ChokeLayers.{Side}
use Rattle.chokejudge.specs.Grown.{last_cells, Older, Grown}
use Rattle.chokejudge.proofs.GrownLaws.{Each}
use Rattle.chokejudge.proofs.layer.Reach.advance.Given as goal

-- what u leads to, where it is older
abbrev pub Spreads : Neighbours → Reach → ℕ → ℕ → ℕ → Type 0
Spreads near a t u v = Older a t u × Side near u v

abbrev pub invariant-loop-i : goal.invariant-loop-i
invariant-loop-i l = Grown l.shut l.t (Each (last_cells l.initial.self) (Spreads l.neighbours l.initial.self l.t) (l.i - l.initial.self.head)) l.initial.self l.self
