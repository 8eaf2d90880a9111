-- `pass_over` takes the cell of one whole call after the other out of the table. Invariant: those of the choke points before the one at the index are out. Assumes nothing.
use lib.ListN.{take}
use Rattle.chokejudge.specs.Grown.{Cleared}
use Rattle.chokejudge.specs.Lifts.{WholeOn}
use Rattle.chokejudge.proofs.calls.pass_over.Given as goal

abbrev pub invariant-loop-choke : goal.invariant-loop-choke
invariant-loop-choke l = Cleared (WholeOn l.calls (take l.choke-index l.chokes)) l.initial.due l.due
