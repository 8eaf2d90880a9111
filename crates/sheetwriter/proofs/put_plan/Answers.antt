-- `put_plan` meets its contract. The loop's invariant: the lines of the first k rides stand behind the head, and a share is left for each of the others,
-- which no line exceeds since no deadline is later than the last step. Assumes nothing.
use mathlib.Core.Path.{◌≡◌, sym, ◌∙◌}
use native.Mathlib.Omega.{arith}
use Prim.Native.Nat.{◌<◌}
use native.Mathlib.Nat.{zero-add}
use lib.Dec.{ltb}
use lib.ListN.{length, get_or, take}
use lib.Seq.{take_all}
use Rattle.text.proofs.Wrote.{wrote_by, writes_long, writes_more}
use Rattle.text.specs.Wrote.{Writes}
use Rattle.model.specs.Text.{line, plan_word}
use mathlib.Core.List.{[], ◌∷◌, ◌++◌}
use borrow.Author.Rules.{rules}
use Rattle.job.specs.Lists.{job_of}
use Rattle.job.proofs.Lists.{calls_count}
use Rattle.sheetwriter.proofs.Laws.{share, cells_short, ride_short, room_one, room_rest}
use Rattle.sheetwriter.proofs.PlanLines.{no_ride, lines_from, lines_more, plan_lines}
use Rattle.sheetwriter.proofs.put_plan.Goals as goal

pub returns : goal.returns
returns c =
    let j = job_of c.args.job.now in
    let s = c.args.rides.now in
    let l = c.loop-k in
    let n : c.len-calls.result ≡ length j.calls = c.len-calls.ensures.value ∙ sym (calls_count c.args.job.now) in
    let e : take l.k s ≡ s = take_all l.k s (omega arith) in
    let w : Writes c.new-pen.result (line plan_word (length j.calls ∷ []) ++ lines_from (length j.calls) 0 s) l.pen = rw n at (writes_more c.head.ensures (rw e at l.invariant.0)) in
    let same = w.same in
    rw (← plan_lines (length j.calls) s (omega (arith, c.requires.0.enough))) (wrote_by c.new-pen.ensures.text c.new-pen.ensures.place w (search rules))

pub loop-k-preserved : goal.loop-k-preserved
loop-k-preserved c =
    let j = job_of c.args.job.now in
    let s = c.args.rides.now in
    let l = c.loop-k in
    let w = c.put_ride.ensures in
    let h : l.k < length s = omega arith in (
      rw (lines_more c.len-calls.result s l.k no_ride 0 h, zero-add) (writes_more l.invariant.0 w),
      rw (writes_long w)
          (room_rest (share j) l.k (length s) l.pen.at (length l.pen.out.now) h l.invariant.1 c.put_ride.new.pen.at
          (omega (arith, w.wrote.next, ride_short (ltb l.k c.len-calls.result) (get_or s l.k no_ride), cells_short j s c.requires.2 c.requires.3 l.k h no_ride))),
    )

pub put_ride-requires : goal.put_ride-requires
put_ride-requires c =
    let j = job_of c.args.job.now in
    let l = c.loop-k in
    omega (
      arith,
      room_one (share j) l.k (length c.args.rides.now) l.pen.at (length l.pen.out.now) (omega arith) l.invariant.1,
      cells_short j c.args.rides.now c.requires.2 c.requires.3 l.k (omega arith) no_ride,
    )
