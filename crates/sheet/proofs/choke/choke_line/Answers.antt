-- `choke_line` reads a CHOKE line: its word, two numbers and no more, a cell of the floor, a step up to the latest; or, where no number stands behind the
-- word, what `whole_line` says. Assumes nothing.
use mathlib.Core.Path.{sym, ap, ◌∙◌}
use native.Mathlib.Omega.{arith}
use Rattle.job.specs.Lists.{job_of}
use Rattle.sheet.specs.Parts.{choke_read}
use Rattle.sheet.proofs.Chokes.{choke_whole, choke_few, choke_over, choke_no_cell, choke_late, choke_good}
use Rattle.sheet.proofs.choke.choke_line.Goals as goal
use Rattle.sheet.proofs.choke.choke_line.Goals.{then-step-line-via-then-step-line, then-step-line-via-else-step-line+then-job-cell, then-step-line-via-else-step-line+else-job-cell+then-latest-step}

pub returns-in_default : goal.returns-in_default
returns-in_default c = c.whole_line.ensures ∙ choke_whole (job_of c.args.job.now) c.args.line.now (sym c.first_number.ensures.number ∙ c.in_default.is)

pub returns-in_err-step : goal.returns-in_err-step
returns-in_err-step c =
    ap choke_read c.from_residual.ensures
    ∙ sym (choke_few (job_of c.args.job.now) c.args.line.now (sym c.first_number.ensures.number ∙ c.in-Some.is) (sym c.number.ensures ∙ c.in_err-step.was))

pub returns-then-step-line : goal.returns-then-step-line
returns-then-step-line c =
    let e = sym c.first_number.ensures.number ∙ c.in-Some.is in
    let f = sym c.number.ensures ∙ c.in_ok-step.was in
    sym (elim c.then-step-line.branch [
      | then-step-line-via-then-step-line w ↦ choke_over (job_of c.args.job.now) c.args.line.now e f w.if-step-line.true
      | then-step-line-via-else-step-line+then-job-cell w ↦ choke_no_cell (job_of c.args.job.now) c.args.line.now e f w.if-step-line.false w.if-job-cell.true
      | then-step-line-via-else-step-line+else-job-cell+then-latest-step w ↦ choke_late (job_of c.args.job.now) c.args.line.now e f w.if-step-line.false w.if-job-cell.false (omega arith)
    ])

pub returns : goal.returns
returns c =
    let e = sym c.first_number.ensures.number ∙ c.in-Some.is in
    let f = sym c.number.ensures ∙ c.in_ok-step.was in
    sym (choke_good (job_of c.args.job.now) c.args.line.now e f c.if-step-line.false c.if-job-cell.false (omega arith))
