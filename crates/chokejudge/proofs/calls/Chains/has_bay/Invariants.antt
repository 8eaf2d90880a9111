-- `has_bay` goes along the chain of the step. Invariant: the bays of the step behind `next` were looked at, and none has its cell in the layer. The measure is one more than `next`.
-- Assumes nothing.
use Prim.Native.Nat.{ℕ, ◌<◌}
use mathlib.Core.List.{List}
use lib.ListN.{length, get_or}
use Rattle.job.specs.Lists.{cells_of}
use Rattle.job.specs.declared.state.Call.{Call}
use Rattle.chokejudge.specs.declared.layer.Reach.{Reach}
use Rattle.chokejudge.specs.ChokeLayers.{BayAt}
use Rattle.chokejudge.proofs.ChainLaws.{ChainWalked, left}
use Rattle.chokejudge.proofs.calls.Chains.has_bay.Given as goal

abbrev pub Hit : List Call → Reach → ℕ → Type 0
Hit calls a k = 0 < get_or a.since (get_or (cells_of calls) k 0) 0

abbrev pub invariant-loop-next : goal.invariant-loop-next
invariant-loop-next l = ChainWalked (BayAt l.calls l.t) (Hit l.calls l.layer) (length l.calls) l.next

abbrev pub decreases-loop-next : goal.decreases-loop-next
decreases-loop-next l = left l.next
