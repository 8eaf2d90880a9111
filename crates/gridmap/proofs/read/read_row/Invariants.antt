-- `read_row` reads a row. Invariant: the first c letters are walked over, and no more cells than letters were counted. Assumes nothing.
use Rattle.std.proofs.Common.{◌+◌, ◌≤◌}
use Rattle.gridmap.proofs.RowWalk.{Walked}
use Rattle.gridmap.proofs.read.read_row.Given as goal

abbrev pub invariant-loop-c : goal.invariant-loop-c
invariant-loop-c l = (l.n ≤ l.cells + l.c) × Walked l.row l.first l.cells l.initial.places l.places l.n l.c
