-- `close` takes the points out from the first of its step on, until one is of a later step. Invariant: the points from `opens` to before `closed` are of step t, and their cells were
-- taken out. Assumes nothing.
use Prim.Native.Nat.{◌+◌, ◌≤◌}
use mathlib.Core.Path.{◌≡◌}
use Rattle.chokejudge.specs.Members.{members}
use Rattle.chokejudge.proofs.PointLaws.{Taken}
use Rattle.chokejudge.proofs.layer.Reach.close.Given as goal

abbrev pub invariant-loop-point : goal.invariant-loop-point
invariant-loop-point l = record {
  opens : l.self.opens ≡ l.initial.self.opens;
  closed : l.self.closed ≡ l.initial.self.opens + l.point-index;
  taken : Taken l.points l.t l.initial.self.opens l.self.closed l.initial.self.since l.self.since;
  queue : l.self.queue ≡ l.initial.self.queue;
  head : l.self.head ≡ l.initial.self.head;
  count : members l.initial.self.since + l.initial.self.closed ≤ members l.self.since + l.self.closed;
}
