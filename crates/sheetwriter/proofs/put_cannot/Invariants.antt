-- `put_cannot` meets its contract. The loop's invariant: the lines of the first choke points stand behind the head, and 15 bytes are left for each of the
-- others. Assumes nothing.
use Prim.Native.Nat.{◌*◌, ◌+◌, ◌-◌, ◌≤◌}
use lib.ListN.{length, take}
use Rattle.model.specs.SheetText.{choke_opens, choke_numbers, lines_text}
use Rattle.text.specs.Wrote.{Writes}
use Rattle.job.specs.Held.{as_chokes}
use Rattle.sheetwriter.proofs.put_cannot.Given as goal

abbrev pub invariant-loop-choke : goal.invariant-loop-choke
invariant-loop-choke l = (l.pen.at + 15 * (length l.chokes - l.choke-index) ≤ length l.pen.out.now)
    × Writes l.initial.pen (lines_text choke_opens choke_numbers (as_chokes (take l.choke-index l.chokes))) l.pen
