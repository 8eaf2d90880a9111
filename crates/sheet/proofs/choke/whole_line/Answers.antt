-- `whole_line` reads a CHOKE line with a whole call: its word, its only number, that of a call, and that this call is at a lift. Assumes nothing.
use mathlib.Core.Path.{sym, ap, ◌∙◌}
use Rattle.job.specs.Lists.{as_kind, job_of}
use Rattle.job.proofs.Lists.{no_call}
use Rattle.sheet.specs.Parts.{choke_read}
use Rattle.sheet.proofs.Calls.{call_missing, call_within, call_found}
use Rattle.sheet.proofs.Chokes.{whole_unknown, whole_bay, whole_lift}
use Rattle.sheet.proofs.choke.whole_line.Goals as goal

pub returns-in_err-get : goal.returns-in_err-get
returns-in_err-get c =
    let s = c.args.job.now in
    ap choke_read c.from_residual-in_err-get.ensures
    ∙ sym (whole_unknown (job_of s) c.args.line.now c.in_ok-call.ensures (call_missing s c.as_slice.ensures.value c.in_ok-call.call c.in_err-get.ensures.lookup.3))

pub returns-in-Lift : goal.returns-in-Lift
returns-in-Lift c =
    let s = c.args.job.now in
    let k = c.in_ok-call.call in
    let (h, q) = c.in_ok-get.ensures.lookup.3 in
    sym (whole_lift (job_of s) c.args.line.now c.in_ok-call.ensures (call_within s c.as_slice.ensures.value k h)
    (ap (λ x. x.kind) (call_found s c.as_slice.ensures.value k (q no_call)) ∙ ap as_kind c.in-Lift.is))

pub returns-in-Bay : goal.returns-in-Bay
returns-in-Bay c =
    let s = c.args.job.now in
    let k = c.in_ok-call.call in
    let (h, q) = c.in_ok-get.ensures.lookup.3 in
    sym (whole_bay (job_of s) c.args.line.now c.in_ok-call.ensures (call_within s c.as_slice.ensures.value k h)
    (ap (λ x. x.kind) (call_found s c.as_slice.ensures.value k (q no_call)) ∙ ap as_kind c.in-Bay.is))
