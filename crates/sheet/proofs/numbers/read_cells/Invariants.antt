-- `read_cells` reads as many numbers as fit at most. Invariant: those before `next` are the first i of `out`, all below `limit`; with those behind
-- `next` they are all the numbers. Assumes nothing.
use Prim.Native.Nat.{◌≤◌, ◌<◌}
use mathlib.Core.Path.{◌≡◌}
use mathlib.Core.Bool.{true}
use lib.ListN.{length, take}
use Rattle.model.specs.ReadSheet.{all_below}
use Rattle.sheet.specs.Parts.{behind}
use Rattle.sheet.proofs.Fields.{prefixed}
use Rattle.sheet.proofs.numbers.read_cells.Given as goal

abbrev pub invariant-loop-i : goal.invariant-loop-i
invariant-loop-i l = (l.next ≤ length l.line) × (0 < l.i → l.next < length l.line) × (all_below l.limit (take l.i l.out) ≡ true)
    × (behind l.line l.from ≡ prefixed (take l.i l.out) (behind l.line l.next))
