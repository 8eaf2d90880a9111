-- `points` goes over the choke points. Invariant: the list has those cells that stand before the index. Assumes nothing.
use Prim.Native.Nat.{◌≤◌}
use mathlib.Core.Path.{◌≡◌}
use lib.ListN.{length, take}
use Rattle.chokejudge.specs.Points.{points_in}
use Rattle.chokejudge.proofs.choke.points.Given as goal

abbrev pub invariant-loop-choke : goal.invariant-loop-choke
invariant-loop-choke l = (l.points.items ≡ points_in (take l.choke-index l.chokes)) × (length l.points.items ≤ l.choke-index)
