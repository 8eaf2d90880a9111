-- `augment` lays the hops one by one. The loop's invariant: the hops from i on are laid, and the stack is as it was. Assumes nothing.
use Prim.Native.Nat.{◌-◌}
use Rattle.network.specs.Store.{SameStore}
use Rattle.route.proofs.Laid.{Laid}
use Rattle.route.proofs.augment.augment.Given as goal

abbrev pub invariant-loop-i : goal.invariant-loop-i
invariant-loop-i l = SameStore l.initial.store l.store × Laid l.initial.store.grid l.initial.store.bytes.now l.store.bytes.now l.i (l.depth - 1)
