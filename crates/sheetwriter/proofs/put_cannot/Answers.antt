-- `put_cannot` meets its contract. The loop's invariant: the lines of the first choke points stand behind the head, and 15 bytes are left for each of the
-- others. Assumes nothing.
use native.Mathlib.Omega.{arith}
use lib.ListN.{get_or, take}
use Rattle.model.specs.SheetText.{choke_opens, choke_numbers}
use Rattle.text.proofs.Wrote.{writes_long, writes_lines}
use Rattle.job.specs.declared.held.Choke.TheVariants.{Cell}
use Rattle.job.specs.Held.{as_choke, as_chokes}
use Rattle.job.proofs.Lists.{map_more}
use Rattle.sheetwriter.proofs.Laws.{choke_short}
use Rattle.sheetwriter.proofs.put_cannot.Goals as goal

pub loop-choke-preserved : goal.loop-choke-preserved
loop-choke-preserved c =
    let l = c.loop-choke in
    let s = c.args.chokes.now in
    let w = c.put_choke.ensures in
    let x = as_choke (get_or s l.choke-index (Cell 0 0)) in (
      omega (arith, w.wrote.next, writes_long w, choke_short x),
      rw (map_more as_choke s l.choke-index (Cell 0 0) c.loop-choke-test.true) (writes_lines choke_opens choke_numbers (as_chokes (take l.choke-index s)) x l.invariant.1 w),
    )
