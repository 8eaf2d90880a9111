-- `read` answers what the text says, by the laws of `Turns`. A line that is wrong is refused by the answer of its test, which is neither PLAN nor CANNOT. Assumes nothing.
use mathlib.Core.Path.{sym, ◌∙◌}
use native.Mathlib.Omega.{arith}
use Rattle.job.specs.Lists.{job_of}
use Rattle.reader.specs.Lines.{answer_to}
use Rattle.reader.proofs.Tests.{fault_late}
use Rattle.reader.proofs.Turns.{too_long, so_far_first, ends_cut, ends_wrong, so_far_next}
use Rattle.reader.proofs.read.read.Goals as goal

pub returns-then-text-gt-TEXT : goal.returns-then-text-gt-TEXT
returns-then-text-gt-TEXT c = record { says = too_long c.args.text.now c.if-text-gt-TEXT.true; bounded = (omega arith, omega arith) }

pub loop-lines-init : goal.loop-lines-init
loop-lines-init c = rw (c.new-draft.ensures, c.new-lines.ensures.0, c.new-lines.ensures.1) (so_far_first c.args.text.now c.if-text-gt-TEXT.false)

pub returns-in_default : goal.returns-in_default
returns-in_default c =
    let (cut, kept) = rw c.in_default.is at c.next.ensures.said in
    record { says = ends_cut c.loop-lines.invariant (sym c.is_done.ensures ∙ c.loop-lines-test.true) cut; bounded = (omega arith, omega arith) }

pub returns-in-Err : goal.returns-in-Err
returns-in-Err c =
    let first = rw c.in-Some.is at c.next.ensures.said in
    let wrong = rw c.in-Err.is at c.take.ensures.says in
    rw c.from-answer.ensures record {
      says = ends_wrong c.loop-lines.invariant _ _ first (answer_to c.in-Err.fault) wrong;
      bounded = (fault_late c.in-Err.fault, omega arith);
    }

pub loop-lines-preserved : goal.loop-lines-preserved
loop-lines-preserved c =
    let first = rw c.in-Some.is at c.next.ensures.said in
    let right = rw c.in_default-take.is at c.take.ensures.says in
    so_far_next c.loop-lines.invariant _ _ first (job_of c.take.new.self.job) right
