-- `reaches` holds the layer of one step after the other. Invariant: the table is the layer of step t, and no cell of a layer before it meets a call. Assumes nothing.
use Rattle.chokejudge.specs.ChokeLayers.{MetBy, Reached}
use Rattle.chokejudge.proofs.StepLaws.{Holding, Unmet}
use Rattle.chokejudge.proofs.choke.reaches.Given as goal

abbrev pub invariant-loop-t : goal.invariant-loop-t
invariant-loop-t l = Holding l.neighbours l.meetings.shut l.carts l.points l.t l.layer × Unmet (MetBy l.meetings.due l.calls) (Reached l.neighbours l.meetings.shut l.carts l.points) l.t
