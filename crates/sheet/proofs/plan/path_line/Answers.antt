-- `path_line` reads a PATH line: its word, a cart and a call of the job, and cells of the floor, as many as fit the call. Assumes nothing.
use mathlib.Core.Path.{sym, ap, ◌∙◌}
use native.Mathlib.Omega.{arith}
use Rattle.model.proofs.Lists.{in_get_or}
use Rattle.model.specs.Job.{call, lift}
use Rattle.job.specs.Lists.{job_of}
use Rattle.job.specs.Held.{as_path}
use Rattle.job.proofs.Lists.{no_call}
use Rattle.sheet.specs.Parts.{if_read}
use Rattle.sheet.proofs.Fields.{number_inside}
use Rattle.sheet.proofs.Calls.{call_missing, call_within, call_found}
use Rattle.sheet.proofs.Rides.{made, held_path, path_none, path_few, path_no_cart, path_no_call, path_known}
use Rattle.sheet.proofs.plan.path_line.Goals as goal

pub returns-in_err-cart : goal.returns-in_err-cart
returns-in_err-cart c =
    ap (λ r. if_read r (as_path c.args.ride.now)) c.from_residual.ensures
    ∙ sym (path_none (job_of c.args.job.now) c.args.line.now (sym c.first_number.ensures.number ∙ c.in_err-cart.was))

pub returns-in_err-call : goal.returns-in_err-call
returns-in_err-call c =
    ap (λ r. if_read r (as_path c.args.ride.now)) c.from_residual-in_err-call.ensures
    ∙ sym (path_few (job_of c.args.job.now) c.args.line.now (sym c.first_number.ensures.number ∙ c.in_ok-cart.was) (sym c.number.ensures ∙ c.in_err-call.was))

pub returns-then-len-cart : goal.returns-then-len-cart
returns-then-len-cart c =
    sym (path_no_cart (job_of c.args.job.now) c.args.line.now (sym c.first_number.ensures.number ∙ c.in_ok-cart.was) (sym c.number.ensures ∙ c.in_ok-call.was) (omega arith))

pub returns-in_err-due : goal.returns-in_err-due
returns-in_err-due c =
    let s = c.args.job.now in
    ap (λ r. if_read r (as_path c.args.ride.now)) c.from_residual-in_err-due.ensures
    ∙ sym (path_no_call (job_of s) c.args.line.now (sym c.first_number.ensures.number ∙ c.in_ok-cart.was) (sym c.number.ensures ∙ c.in_ok-call.was) (omega arith)
    (call_missing s c.as_slice.ensures.value c.in_ok-call.call.value c.in_err-due.ensures.lookup.3))

pub ride_cells-requires : goal.ride_cells-requires
ride_cells-requires c =
    let s = c.args.job.now in
    let b = c.in_ok-call.call.value in
    let (h, q) = c.in_ok-due.ensures.lookup.3 in
    let k = c.requires.fit.known_calls _ (in_get_or (job_of s).calls b (call lift 0 0) (call_within s c.as_slice.ensures.value b h)) in
    let d = ap (λ x. x.deadline) (call_found s c.as_slice.ensures.value b (q no_call)) in
    (c.requires.fit.few_cells, number_inside _ _ _ _ (sym c.number.ensures ∙ c.in_ok-call.was), omega (arith, k.1, d, c.from.ensures))

pub returns : goal.returns
returns c =
    let s = c.args.job.now in
    let b = c.in_ok-call.call.value in
    let (h, q) = c.in_ok-due.ensures.lookup.3 in
    let due = call_found s c.as_slice.ensures.value b (q no_call) in
    let r = c.ride_cells in
    held_path r.result r.new.ride r.ensures.1 r.ensures.2
    ∙ ap (made (λ ws. record { cart = c.in_ok-cart.cart.value; call = b; cells = ws })) r.ensures.0
    ∙ sym (path_known (job_of s) c.args.line.now (sym c.first_number.ensures.number ∙ c.in_ok-cart.was) (sym c.number.ensures ∙ c.in_ok-call.was) (omega arith)
    (call_within s c.as_slice.ensures.value b h) (ap (λ x. x.kind) due) (ap (λ x. x.deadline) due ∙ sym c.from.ensures))
