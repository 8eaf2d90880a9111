-- `find_tracks` goes through the cells by their numbers. Invariant: the tracks of the cells before k are held, at most two a cell, and whatever stands before j stands before the place
-- below cell k, so that the search for what is below goes on from j. This holds for every map whose cells stand at these places. Assumes nothing.
use Rattle.std.proofs.Common.{◌*◌, ◌≤◌, length}
use Rattle.gridmap.proofs.TrackLaws.{Along}
use Rattle.gridmap.proofs.tracks.find_tracks.Given as goal

abbrev pub invariant-loop-k : goal.invariant-loop-k
invariant-loop-k l = (l.j ≤ length l.places) × (length l.tracks.items ≤ 2 * l.k) × Along l.places (length l.places) l.stride l.tracks.items l.k l.j
