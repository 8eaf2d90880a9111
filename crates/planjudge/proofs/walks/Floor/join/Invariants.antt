-- `join` marks the tracks. Invariant: the table's bit is set for each track before the index, and for no other pair. Assumes nothing.
use Rattle.std.proofs.Common.{◌≡◌, ◌*◌, length, map, take}
use Rattle.model.specs.Limits.{max_cells}
use Rattle.job.specs.Bits.{pairs_below}
use Rattle.job.specs.Lists.{as_track}
use Rattle.planjudge.specs.PlanTests.{Marks}
use Rattle.planjudge.proofs.walks.Floor.join.Given as goal

abbrev pub invariant-loop-track : goal.invariant-loop-track
invariant-loop-track l = (8 * length l.self.joined.bytes ≡ pairs_below max_cells) × Marks (map as_track (take l.track-index l.tracks)) l.self.joined.bytes
