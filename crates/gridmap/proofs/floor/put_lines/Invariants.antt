-- `floor::put_lines` goes over the tracks. Invariant: the lines of those before the index stand behind the FLOOR line. There is room for one line more, since the lines of so many
-- tracks are no longer than those of all. Assumes nothing.
use Rattle.text.specs.Wrote.{Writes}
use Rattle.gridmap.proofs.FloorLaws.{track_lines}
use Rattle.gridmap.proofs.floor.put_lines.Given as goal

abbrev pub invariant-loop-track : goal.invariant-loop-track
invariant-loop-track l = Writes l.initial.pen (track_lines l.tracks l.track-index) l.pen
