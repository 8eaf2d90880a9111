-- `is_choke_list` decides what no walk gets round: the choke points are in order, and no other call is met without standing on a cell of them. Assumes nothing.
use mathlib.Core.Path.{◌∙◌}
use native.Mathlib.Omega.{arith}
use borrow.Author.Tests.{not-false, not-true}
use Rattle.job.specs.Lists.{job_of}
use Rattle.job.proofs.Lists.{calls_count, tracks_count}
use Rattle.floor.proofs.JobTables.{tracks-of, near_of, calls_apart}
use Rattle.chokejudge.proofs.ChokeLayers.{closing_of, points_known, chokes_right, chokes_wrong}
use Rattle.chokejudge.proofs.OrderLaws.{climbs, few_points}
use Rattle.chokejudge.proofs.choke.is_choke_list.Goals as goal

pub of-neighbours-requires : goal.of-neighbours-requires
of-neighbours-requires c =
    let s = c.args.job.now in
    let ready = c.requires.0 in
    rw c.as_slice.ensures.value (tracks-of s ready, omega (arith, tracks_count s, ready.fit.few_tracks), ready.fit.few_cells)

pub of-meetings-requires : goal.of-meetings-requires
of-meetings-requires c =
    let s = c.args.job.now in
    let ready = c.requires.0 in
    rw c.as_slice-calls.ensures.value (calls_apart s ready, omega (arith, calls_count s, ready.fit.few_calls))

pub reaches-requires : goal.reaches-requires
reaches-requires c =
    let s = c.args.job.now in
    let list = c.args.chokes.now in
    let ready = c.requires.0 in
    let calls = c.as_slice-calls.ensures.value in
    let points = c.as_slice-3.ensures.value ∙ c.points-points.ensures in
    let met = c.of-meetings.ensures in
    let order = c.in_order.ensures.0 c.if-not-in_order.false in (
      c.last_step-last.ensures.1,
      rw calls (omega (arith, calls_count s, ready.fit.few_calls)),
      rw points (omega (arith, few_points list, calls_count s, ready.fit.few_calls, c.requires.1)),
      rw points (climbs list order),
      record {
        job = job_of s;
        near = near_of s (rw c.as_slice.ensures.value at c.of-neighbours.ensures);
        few = ready.fit.few_cells;
        carts_known = rw c.as_slice-2.ensures.value ready.fit.known_carts;
        points_known = rw points (points_known s ready list c.requires.2);
      },
      closing_of c.as_slice-calls.result.now met.0,
      met.2,
    )

pub returns : goal.returns
returns c =
    let s = c.args.job.now in
    let list = c.args.chokes.now in
    let ready = c.requires.0 in
    let near = near_of s (rw c.as_slice.ensures.value at c.of-neighbours.ensures) in
    let met = rw c.as_slice-calls.ensures.value at c.of-meetings.ensures in
    let last = c.last_step-last.ensures in
    let decided = rw (c.as_slice-calls.ensures.value, c.as_slice-2.ensures.value, c.as_slice-3.ensures.value, c.points-points.ensures) at c.reaches.ensures in (
      λ e. chokes_right s ready list c.requires.2 near met.0 met.1 last.0 last.1 (decided.1 (not-true _ e)) c.requires.1 (c.in_order.ensures.0 c.if-not-in_order.false),
      λ e. chokes_wrong s ready list c.requires.2 near met.0 met.1 last.0 last.1 (decided.0 (not-false _ e)),
    )
