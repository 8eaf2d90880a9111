-- `reach` goes on from j. Invariant: the places passed, from j to before i, are before the place. Assumes nothing.
use Rattle.std.proofs.Common.{ℕ, ◌<◌, ◌≤◌, get_or}
use Rattle.gridmap.proofs.tracks.reach.Given as goal

abbrev pub invariant-loop-i : goal.invariant-loop-i
invariant-loop-i l = (k : ℕ) → l.j ≤ k → k < l.i → get_or l.places k 0 < l.place
