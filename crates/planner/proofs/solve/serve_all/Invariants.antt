-- `serve_all` serves the calls in their order. Invariant: the store is the one that was lent, and it holds what `SoFar` (SolveLaws) says of the calls before i. Assumes nothing.
use Rattle.job.specs.Lists.{job_of}
use Rattle.network.specs.Store.{SameStore}
use Rattle.planner.proofs.SolveLaws.{SoFar}
use Rattle.planner.proofs.solve.serve_all.Given as goal

abbrev pub invariant-loop-i : goal.invariant-loop-i
invariant-loop-i l = SameStore l.initial.store l.store × SoFar (job_of l.job) l.order l.store.bytes.now l.initial.store.grid l.i l.stamp
