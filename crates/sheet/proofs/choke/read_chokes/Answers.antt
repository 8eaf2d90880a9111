-- `read_chokes` reads the lines after CANNOT. Invariant: what the rest of the lines says after the k choke points that are held is what all of them say.
-- Assumes nothing.
use mathlib.Core.Path.{ap, sym, ◌∙◌}
use native.Mathlib.Omega.{arith}
use Rattle.std.proofs.lemmas.Option.{MatchOption-at_none, MatchOption-at_some}
use Rattle.std.specs.Prelude.{map}
use Rattle.std.proofs.lemmas.List.{map-append}
use Rattle.job.specs.Held.{as_choke}
use Rattle.text.specs.Rest.{rest_of}
use Rattle.sheet.specs.Parts.{choke_read, chokes_read}
use Rattle.sheet.proofs.Exits.{stopped_at}
use Rattle.sheet.proofs.Turns.{turn_cut, turn_bad, turn_good}
use Rattle.sheet.proofs.choke.read_chokes.Goals as goal

pub returns-in_err-line-clause-said : goal.returns-in_err-line-clause-said
returns-in_err-line-clause-said c =
    let e = c.in_err-line.ensures in
    ap chokes_read (stopped_at c.from_residual.result c.from_residual.ensures.1 e.value e.ok_part)
    ∙ turn_cut c.loop-k.invariant.1 c.loop-k-test.true (MatchOption-at_none _ _ e.ok_part c.next.ensures.said).0

pub returns-in_err-choke-clause-said : goal.returns-in_err-choke-clause-said
returns-in_err-choke-clause-said c =
    let e = c.in_err-choke.ensures in
    ap chokes_read (stopped_at c.from_residual-in_err-choke.result c.from_residual-in_err-choke.ensures.1 e.value e.ok_part)
    ∙ turn_bad c.loop-k.invariant.1 c.loop-k-test.true c.in_ok-line.line.now (rest_of c.next.new.self) (MatchOption-at_some _ _ _ c.in_ok-line.ensures.ok_part c.next.ensures.said)
    (sym (ap choke_read e.ok_part) ∙ c.choke_line.ensures)

pub loop-k-preserved : goal.loop-k-preserved
loop-k-preserved c =
    let l = c.loop-k in (
      omega arith,
      turn_good l.invariant.1 c.loop-k-test.true c.in_ok-line.line.now (rest_of c.next.new.self) (MatchOption-at_some _ _ _ c.in_ok-line.ensures.ok_part c.next.ensures.said)
          (sym (ap choke_read c.in_ok-choke.ensures.ok_part) ∙ c.choke_line.ensures) (ap (λ l. map as_choke l) c.push.ensures.items ∙ map-append as_choke l.chokes.items _),
    )
