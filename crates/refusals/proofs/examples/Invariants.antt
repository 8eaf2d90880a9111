-- Each turn takes an example off the text. The measure is what is left of it.
use Rattle.std.proofs.Common.{length}
use Rattle.refusals.proofs.examples.Given as goal

abbrev pub decreases-loop-first : goal.decreases-loop-first
decreases-loop-first g l = length l.rest
