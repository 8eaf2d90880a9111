-- `join` marks the tracks. Assumes nothing.
use Rattle.std.proofs.Common.{arith, ap, ◌∙◌, ◌*◌, ◌/◌, ℕ}
use lib.ListN.{length-replicate}
use Rattle.model.specs.Limits.{max_cells}
use Rattle.job.specs.Bits.{pairs_below}
use Rattle.job.specs.Lists.{as_track}
use Rattle.job.proofs.BitLaws.{no_bits, bits_length}
use Rattle.job.proofs.Lists.{map_more, no_track}
use Rattle.planjudge.proofs.PlanSteps.{marks_none, marks_more}
use Rattle.planjudge.proofs.walks.Floor.join.Goals as goal

pub loop-track-init : goal.loop-track-init
loop-track-init c = rw c.requires (ap (λ n. 8 * n) (length-replicate {A = ℕ} (pairs_below max_cells / 8) 0), marks_none _ (no_bits (pairs_below max_cells / 8)))

pub loop-track-preserved : goal.loop-track-preserved
loop-track-preserved c =
    let l = c.loop-track in
    let e = map_more as_track c.args.tracks.now l.track-index no_track c.loop-track-test.true in
    let (size, marks) = l.invariant in
    rw (e, c.add.ensures, c.pair.ensures, c.from.ensures, c.from-in-loop-track.ensures)
    (ap (λ n. 8 * n) (bits_length l.self.joined.bytes _) ∙ size, marks_more _ _ _ l.self.joined.bytes size (omega arith) (omega arith) marks)
