-- `find_tracks` goes through the cells by their numbers. Invariant: the tracks of the cells before k are held, at most two a cell, and whatever stands before j stands before the place
-- below cell k, so that the search for what is below goes on from j. This holds for every map whose cells stand at these places. Assumes nothing.
use native.Mathlib.Omega.{arith}
use Rattle.gridmap.proofs.TrackLaws.{along_next, along_done}
use Rattle.gridmap.proofs.tracks.find_tracks.Goals as goal

pub loop-k-preserved : goal.loop-k-preserved
loop-k-preserved c = (
  c.reach-j.ensures.high,
  omega (arith, c.note_cell.ensures.few),
  along_next c.loop-k.invariant.2 c.loop-k-test.true c.reach-j.ensures c.at_place-right.ensures c.at_place-below.ensures c.note_cell.ensures,
)

pub returns : goal.returns
returns c = along_done c.loop-k.invariant.2 (omega arith) (omega arith) (omega arith)
