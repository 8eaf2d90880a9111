-- `has_lift` looks at one cell of the queue after the other. Invariant: no lift takes a cart from those before place i. Assumes nothing.
use Prim.Native.Nat.{ℕ, ◌<◌, ◌≤◌}
use lib.ListN.{get_or}
use Rattle.chokejudge.specs.Lifts.{LiftedAt}
use Rattle.chokejudge.proofs.calls.has_lift.Given as goal

abbrev pub invariant-loop-i : goal.invariant-loop-i
invariant-loop-i l = (k : ℕ) → l.head ≤ k → k < l.i → LiftedAt l.due l.since l.next (get_or l.queue k 0) → ⊥
