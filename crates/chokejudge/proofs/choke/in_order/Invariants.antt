-- `in_order` compares each choke point with the next. Invariant: of what lies before the window, each rises to the next. Assumes nothing.
use Prim.Native.Nat.{◌-◌, ◌≤◌}
use mathlib.Core.Path.{◌≡◌}
use lib.ListN.{length, drop}
use Rattle.std.specs.Slice.Iter.{windows_size, windows_rest}
use Rattle.chokejudge.proofs.OrderLaws.{EachRises}
use Rattle.chokejudge.proofs.choke.in_order.Given as goal

abbrev pub invariant-loop-pair : goal.invariant-loop-pair
invariant-loop-pair l =
    let rest = windows_rest l.pair-iterator in
    let i = length l.chokes - length rest in
    (windows_size l.pair-iterator ≡ 2) × (length rest ≤ length l.chokes) × (rest ≡ drop i l.chokes) × EachRises l.chokes i
