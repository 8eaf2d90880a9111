-- `tell` meets its contract, which says nothing: what it calls gets what it asks for. A refusal's line is that of a job, and so below 1,000. Assumes nothing.
use mathlib.Core.Path.{sym, ap, ◌∙◌}
use native.Mathlib.Omega.{arith}
use Rattle.model.proofs.RefusedLine.{job_line}
use Rattle.reader.specs.Reading.{verdict_of}
use Rattle.refusals.proofs.tell.Goals as goal

pub line-requires : goal.line-requires
line-requires g c =
    let r = c.in-Err.refusal in
    (omega arith, omega arith, omega (arith, job_line _ _ r.line (sym c.read.ensures.says ∙ ap verdict_of c.in-Err.is)))
