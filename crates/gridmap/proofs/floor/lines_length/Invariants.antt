-- `floor::lines_length` goes over the tracks. Invariant: n is the length of the lines of those before the index, and at most 14 for each of them, so that no sum overflows.
-- Assumes nothing.
use Rattle.std.proofs.Common.{◌≡◌, ◌*◌, ◌≤◌, length}
use Rattle.gridmap.proofs.FloorLaws.{track_lines}
use Rattle.gridmap.proofs.floor.lines_length.Given as goal

abbrev pub invariant-loop-track : goal.invariant-loop-track
invariant-loop-track l = (l.n ≤ 14 * l.track-index) × (l.n ≡ length (track_lines l.tracks l.track-index))
