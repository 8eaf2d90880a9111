-- `scan` looks by way of the cells of a row, one by one, past those that are closed at the next step. Invariant: by way of the cells passed all is marked. Assumes nothing.
use Rattle.route.proofs.SearchFinds.{RowMarked}
use Rattle.route.proofs.search.scan.Given as goal

abbrev pub invariant-loop-b : goal.invariant-loop-b
invariant-loop-b l = RowMarked l.store.grid l.store.bytes.now l.shut l.row l.step l.stamp l.b-index
