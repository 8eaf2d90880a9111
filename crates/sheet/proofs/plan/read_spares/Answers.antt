-- `read_spares` reads the SPARE lines behind the paths. Invariant: what the rest of the lines says after the k spare carts that are held is what all of them
-- say. Assumes nothing.
use mathlib.Core.Path.{ap, sym, ◌∙◌}
use native.Mathlib.Omega.{arith}
use lib.ListN.{length-set}
use Rattle.std.proofs.lemmas.Option.{MatchOption-at_none, MatchOption-at_some}
use Rattle.job.specs.Held.{as_ride}
use Rattle.text.specs.Rest.{rest_of}
use Rattle.sheet.specs.Parts.{if_read}
use Rattle.sheet.proofs.Exits.{stopped_at, bad_at}
use Rattle.sheet.proofs.Turns.{turn_cut, turn_bad, turn_good}
use Rattle.sheet.proofs.Rides.{ride_more}
use Rattle.sheet.proofs.plan.read_spares.Goals as goal

pub returns-in_err-line-clause-said : goal.returns-in_err-line-clause-said
returns-in_err-line-clause-said c ps =
    let l = c.loop-k in
    let e = c.in_err-line.ensures in
    simp length-set
    (bad_at (stopped_at c.from_residual.result c.from_residual.ensures.1 e.value e.ok_part) _
    ∙ turn_cut (l.invariant ps) (omega arith) (MatchOption-at_none _ _ e.ok_part c.next.ensures.said).0)

pub returns-in_err-ok_or-clause-said : goal.returns-in_err-ok_or-clause-said
returns-in_err-ok_or-clause-said c ps =
    let l = c.loop-k in
    let e = c.in_err-ok_or.ensures in
    let r = c.spare_line in
    simp length-set
    (bad_at (stopped_at c.from_residual-in_err-ok_or.result c.from_residual-in_err-ok_or.ensures.1 e.value e.ok_part) _
    ∙ turn_bad (l.invariant ps) (omega arith) c.in_ok-line.line.now (rest_of c.next.new.self) (MatchOption-at_some _ _ _ c.in_ok-line.ensures.ok_part c.next.ensures.said)
    (sym (ap (λ x. if_read x (as_ride r.new.ride)) e.ok_part) ∙ r.ensures))

pub loop-k-preserved : goal.loop-k-preserved
loop-k-preserved c ps =
    let l = c.loop-k in
    let r = c.spare_line in
    simp length-set
    (turn_good (l.invariant ps) (omega arith) c.in_ok-line.line.now (rest_of c.next.new.self) (MatchOption-at_some _ _ _ c.in_ok-line.ensures.ok_part c.next.ensures.said)
    (sym (ap (λ x. if_read x (as_ride r.new.ride)) c.in_ok-ok_or.ensures.ok_part) ∙ r.ensures) (ride_more as_ride l.spares l.k r.new.ride (omega arith)))
