-- `pass_over` takes the cell of one whole call after the other out of the table. Invariant: those of the choke points before the one at the index are out. Assumes nothing.
use mathlib.Core.Path.{◌∙◌}
use native.Mathlib.Omega.{arith}
use Rattle.chokejudge.proofs.LiftLaws.{passed_cell, passed_call}
use Rattle.chokejudge.proofs.calls.pass_over.Goals as goal
use Rattle.chokejudge.proofs.calls.pass_over.Goals.{in-Call, in_default}

pub loop-choke-preserved : goal.loop-choke-preserved
loop-choke-preserved c =
    let calls = c.args.calls.now in
    let chokes = c.args.chokes.now in
    let l = c.loop-choke in
    let i = l.choke-index in
    elim c.match-choke.branch [
      | in-Call w ↦
          let e = w.from.ensures ∙ w.cell_of.ensures in
          rw (w.due-is, e) (passed_call calls chokes i _ c.loop-choke-test.true l.invariant w.in-Call.is (omega (arith, e, l.invariant.size)))
      | in_default w ↦ rw w.due-is (passed_cell calls chokes i _ c.loop-choke-test.true l.invariant w.in_default.is)
    ]
