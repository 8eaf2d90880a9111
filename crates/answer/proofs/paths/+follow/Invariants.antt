-- The way back is written from its end on. The measure is the step number, which falls with each call; each call writes the part of the trail before its own cell.
-- Assumes nothing.
use Rattle.answer.proofs.paths.+follow.Given as goal

abbrev pub decreases-follow : goal.decreases-follow
decreases-follow l = l.node.step
