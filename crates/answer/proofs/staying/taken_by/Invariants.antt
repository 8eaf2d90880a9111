-- The invariant: the carts of the paths so far are marked. Assumes nothing.
use Rattle.answer.proofs.StayRows.{TakenTo}
use Rattle.answer.proofs.staying.taken_by.Given as goal

abbrev pub invariant-loop-path : goal.invariant-loop-path
invariant-loop-path l = TakenTo l.paths l.path-index l.taken
