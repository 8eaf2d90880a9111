-- `put_plan` meets its contract. The loop's invariant: the lines of the first k rides stand behind the head, and a share is left for each of the others,
-- which no line exceeds since no deadline is later than the last step. Assumes nothing.
use Prim.Native.Nat.{◌*◌, ◌+◌, ◌-◌, ◌≤◌}
use lib.ListN.{length, take}
use Rattle.text.specs.Wrote.{Writes}
use Rattle.job.specs.Lists.{job_of}
use Rattle.sheetwriter.proofs.Laws.{share}
use Rattle.sheetwriter.proofs.PlanLines.{lines_from}
use Rattle.sheetwriter.proofs.put_plan.Given as goal

abbrev pub invariant-loop-k : goal.invariant-loop-k
invariant-loop-k l = Writes l.initial.pen (lines_from l.calls 0 (take l.k l.rides)) l.pen × (l.pen.at + (length l.rides - l.k) * share (job_of l.job) ≤ length l.pen.out.now)
