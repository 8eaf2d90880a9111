-- `read_rows` reads the rows. Invariant: what the rows from `p` on say after the r before it is what all say, `cells` are the cells of those r, and their places are noted.
-- Assumes nothing.
use Rattle.std.proofs.Common.{◌+◌, ◌*◌, ◌≤◌, length}
use Rattle.model.specs.Limits.{max_side}
use Rattle.gridmap.proofs.RowLines.{RowsLeft}
use Rattle.gridmap.proofs.read.read_rows.Given as goal

abbrev pub invariant-loop-r : goal.invariant-loop-r
invariant-loop-r l = (l.p ≤ length l.map) × (l.start ≤ l.p) × (l.p ≤ l.start + (max_side + 1) * l.r) × (l.cells ≤ max_side * l.r) × RowsLeft l.map l.start l.height l.width l.p l.r l.cells l.places
