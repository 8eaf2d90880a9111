-- `floor::lines_length` goes over the tracks. Invariant: n is the length of the lines of those before the index, and at most 14 for each of them, so that no sum overflows.
-- Assumes nothing.
use native.Mathlib.Omega.{arith}
use Rattle.model.specs.Text.{track_word}
use Rattle.model.specs.GridMap.{track_numbers}
use Rattle.model.proofs.Room.{line_room}
use Rattle.job.specs.Lists.{as_track}
use Rattle.job.proofs.Lists.{no_track}
use lib.ListN.{get_or}
use Rattle.gridmap.proofs.FloorLaws.{lines_more}
use Rattle.gridmap.proofs.floor.lines_length.Goals as goal

pub loop-track-preserved : goal.loop-track-preserved
loop-track-preserved c =
    let l = c.loop-track in
    let ts = c.args.tracks.now in (
      omega (arith, c.line_length-n.ensures, line_room track_word (track_numbers (as_track (get_or ts l.track-index no_track)))),
      omega (arith, c.line_length-n.ensures, l.invariant.1, lines_more ts l.track-index c.loop-track-test.true),
    )
