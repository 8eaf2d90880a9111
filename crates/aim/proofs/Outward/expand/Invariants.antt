-- `expand` puts cells of the row at the end of the queue, which holds known cells all along. Assumes nothing.
use Rattle.floor.specs.Tables.{Cells}
use Rattle.aim.proofs.Outward.expand.Given as goal

abbrev pub invariant-loop-i : goal.invariant-loop-i
invariant-loop-i l = Cells l.store.grid.cells l.self.queue.items
