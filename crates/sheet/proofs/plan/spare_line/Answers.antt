-- `spare_line` reads a SPARE line: its word, a cart of the job, and cells of the floor, one for each step up to the last. Assumes nothing.
use mathlib.Core.Path.{sym, ap, ◌∙◌}
use native.Mathlib.Omega.{arith}
use Rattle.model.specs.Job.{bay}
use Rattle.job.specs.Lists.{job_of}
use Rattle.job.specs.Held.{as_ride}
use Rattle.sheet.specs.Parts.{if_read, behind, cells_fit}
use Rattle.sheet.proofs.Rides.{made, held_ride, spare_none, spare_no_cart, spare_known}
use Rattle.sheet.proofs.plan.spare_line.Goals as goal

pub returns-in_err-cart : goal.returns-in_err-cart
returns-in_err-cart c =
    ap (λ r. if_read r (as_ride c.args.ride.now)) c.from_residual.ensures
    ∙ sym (spare_none (job_of c.args.job.now) c.args.line.now (sym c.first_number.ensures.number ∙ c.in_err-cart.was))

pub returns-then-len-cart : goal.returns-then-len-cart
returns-then-len-cart c = sym (spare_no_cart (job_of c.args.job.now) c.args.line.now (sym c.first_number.ensures.number ∙ c.in_ok-cart.was) (omega arith))

pub returns : goal.returns
returns c =
    let s = c.args.job.now in
    let r = c.ride_cells in
    held_ride r.result r.new.ride r.ensures.1
    ∙ ap (made (λ ws. record { cart = c.in_ok-cart.cart.value; cells = ws }))
    (r.ensures.0 ∙ ap (λ d. cells_fit (job_of s) bay d (behind c.args.line.now c.in_ok-cart.cart.next)) c.requires.1)
    ∙ sym (spare_known (job_of s) c.args.line.now (sym c.first_number.ensures.number ∙ c.in_ok-cart.was) (omega arith))
