-- `aim` goes over the floor, cell by cell of the queue, which holds known cells all along. The measure is what the queue has room for behind its head. Assumes nothing.
use Rattle.std.proofs.Common.{◌-◌}
use Rattle.model.specs.Limits.{max_cells}
use Rattle.floor.specs.Tables.{Cells}
use Rattle.aim.proofs.aim.Given as goal

abbrev pub invariant-loop-head : goal.invariant-loop-head
invariant-loop-head l = Cells l.store.grid.cells l.reached.queue.items

abbrev pub decreases-loop-head : goal.decreases-loop-head
decreases-loop-head l = max_cells - l.head
