-- `has_bay` goes along the chain of t, whatever calls and keys the chains are of. Invariant: the calls of the chain behind `next` were looked at, and none has its cell in the table. The
-- measure is one more than `next`. Assumes nothing.
use Prim.Native.Nat.{ℕ, ◌<◌, ◌≤◌}
use mathlib.Core.List.{List}
use lib.ListN.{get_or}
use Rattle.model.specs.Limits.{max_calls}
use Rattle.chokejudge.specs.Chains.{HasKey, Keyed}
use Rattle.chokejudge.proofs.ChainLaws.{ChainWalked, left}
use Rattle.chokejudge.proofs.calls.has_bay.Given as goal

abbrev pub Hit : List ℕ → List ℕ → ℕ → Type 0
Hit targets since k = 0 < get_or since (get_or targets k 0) 0

abbrev pub invariant-loop-next : goal.invariant-loop-next
invariant-loop-next l = (key : ℕ → ℕ) → (calls : ℕ) → (calls ≤ max_calls) × Keyed key calls l.latest l.before → ChainWalked (HasKey key l.t) (Hit l.targets l.since) calls l.next

abbrev pub decreases-loop-next : goal.decreases-loop-next
decreases-loop-next l = left l.next
