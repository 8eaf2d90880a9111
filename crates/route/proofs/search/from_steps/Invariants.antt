-- `from_steps` looks by way of the steps of a cell, from the latest down. Invariant: by way of the steps passed all is marked. Assumes nothing.
use Rattle.route.proofs.SearchFinds.{StepsMarked}
use Rattle.route.proofs.search.from_steps.Given as goal

abbrev pub invariant-loop-step : goal.invariant-loop-step
invariant-loop-step l = StepsMarked l.store.grid l.store.bytes.now l.cell l.stamp l.step l.past
