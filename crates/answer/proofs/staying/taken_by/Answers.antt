-- The invariant: the carts of the paths so far are marked. Assumes nothing.
use Rattle.answer.proofs.StayRows.{taken_none}
use Rattle.answer.proofs.staying.taken_by.Goals as goal

pub loop-path-init : goal.loop-path-init
loop-path-init c = taken_none c.args.paths.now
