-- `trace` goes back along the way. Nothing rests on what it writes: only that the cell is a byte. Assumes nothing.
use Rattle.std.proofs.Common.{◌<◌}
use Rattle.model.specs.Limits.{max_cells}
use Rattle.aim.proofs.Outward.trace.Given as goal

abbrev pub invariant-loop-i : goal.invariant-loop-i
invariant-loop-i l = l.x < max_cells
