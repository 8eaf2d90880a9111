-- `Draft::put` keeps the table true to the job: the bit at a line's place is set as the line goes into its list. Assumes nothing.
use mathlib.Core.List.{[], ◌∷◌}
use native.Mathlib.Omega.{arith}
use Rattle.std.proofs.lemmas.List.{map-append}
use Rattle.job.specs.Lists.{as_track, as_kind, as_call, job_of}
use Rattle.reader.proofs.Noted.{noted_track, noted_cart, noted_call}
use Rattle.reader.proofs.draft.Draft.put.Goals as goal

pub invariant_of-self-in-Track-clause-noted : goal.invariant_of-self-in-Track-clause-noted
invariant_of-self-in-Track-clause-noted c =
    let d = c.args.self.now in
    let t = c.in-Track.track in
    rw (c.push.ensures.items, map-append as_track d.job.tracks.items (t ∷ []), c.add.ensures, c.pair.ensures, c.from.ensures, c.from-in-Track.ensures)
    (noted_track d.seen.bytes (job_of d.job) d.noted t.from t.to (omega arith) (omega arith))

pub invariant_of-self-in-Cart-clause-noted : goal.invariant_of-self-in-Cart-clause-noted
invariant_of-self-in-Cart-clause-noted c =
    let d = c.args.self.now in
    rw (c.push-in-Cart.ensures.items, c.add-in-Cart.ensures, c.from-in-Cart.ensures)
    (noted_cart d.seen.bytes (job_of d.job) d.noted c.in-Cart.cell (omega arith))

pub invariant_of-self-in-Call-clause-noted : goal.invariant_of-self-in-Call-clause-noted
invariant_of-self-in-Call-clause-noted c =
    let d = c.args.self.now in
    let q = c.in-Call.call in
    rw (c.push-in-Call.ensures.items, map-append as_call d.job.calls.items (q ∷ []), c.add-in-Call.ensures, c.from-in-Call.ensures)
    (noted_call d.seen.bytes (job_of d.job) d.noted (as_kind q.kind) q.cell q.deadline (omega arith))
