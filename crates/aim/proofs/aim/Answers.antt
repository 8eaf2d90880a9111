-- `aim` goes over the floor, cell by cell of the queue, which holds known cells all along. Assumes nothing.
use Prim.Native.Nat.{◌<◌}
use native.Mathlib.Omega.{arith}
use Rattle.model.proofs.Lists.{in_get_or}
use Rattle.aim.proofs.CellsLaws.{row_cells}
use Rattle.aim.proofs.aim.Goals as goal
use Rattle.aim.proofs.aim.Goals.{After-from}

pub loop-head-init : goal.loop-head-init
loop-head-init c = c.from-reached.ensures c.args.store.now.grid.cells (omega arith)

-- The cell at the head of the queue is a known one.
known : (c : After-from) → c.from.result < c.args.store.now.grid.cells
known c =
    let l = c.loop-head in
    rw (c.from.ensures, c.as_slice.ensures.value) (l.invariant _ (in_get_or l.reached.queue.items l.head 0 (omega (arith, c.len.ensures.value, c.loop-head-test.true))))

pub row-row-requires : goal.row-row-requires
row-row-requires c =
    let k = known (goal.at.row-row-requires c).After-from in
    (c.args.store.now.grid.cells, c.requires.0, k, omega (arith, k))

pub expand-requires : goal.expand-requires
expand-requires c =
    let p = c.requires in
    let r = row_cells p.0 (known (goal.at.expand-requires c).After-from) c.row-row.ensures in
    (r.0, r.1, p.1, p.2, p.3, c.loop-head.invariant)
