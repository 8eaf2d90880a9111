-- `serve_all` serves the calls in their order. Invariant: the store is the one that was lent, and it holds what `SoFar` (SolveLaws) says of the calls before i. Assumes nothing.
use mathlib.Core.Path.{◌≡◌}
use native.Mathlib.Omega.{arith}
use lib.Dec.{eqb}
use lib.ListN.{length, get_or}
use Rattle.std.proofs.Common.{◌<◌}
use Rattle.std.proofs.lemmas.Result.{err_from_is_err_and}
use Rattle.model.specs.Job.{call_of}
use Rattle.model.specs.Choke.{point}
use Rattle.job.specs.Lists.{job_of}
use Rattle.network.proofs.StoreLaws.{same_none, same_more}
use Rattle.route.specs.Serve.{Serving}
use Rattle.planner.proofs.SolveLaws.{so_far_none, aims, call_cell, call_serving, call_served, call_failed, all_served, target_is}
use Rattle.planner.proofs.solve.serve_all.Goals as goal
use Rattle.planner.proofs.solve.serve_all.Goals.{After-from-in-loop-i}

pub loop-i-init : goal.loop-i-init
loop-i-init c = (same_none c.args.store.now, so_far_none c.requires)

-- There is a call at this place of the order, on this cell.
more : (c : After-from-in-loop-i) → c.loop-i.i < length (job_of c.args.job.now).calls
more c = omega (arith, c.loop-i-test.true, c.requires.ordered.size)

target : (c : After-from-in-loop-i) → c.from-in-loop-i.result ≡ (call_of (job_of c.args.job.now) (get_or c.args.order.now c.loop-i.i 0)).cell
target c = target_is c.args.job.now c.as_slice-calls.ensures.value c.from.ensures c.from-in-loop-i.ensures

pub aim-requires : goal.aim-requires
aim-requires c =
    let b = c.requires in
    let p = (goal.at.aim-requires c).After-from-in-loop-i in
    let (rows, few_cells, in_nodes) = aims b in
    rw c.loop-i.invariant.0.grid (rows, few_cells, c.loop-i.invariant.1.holds.room, in_nodes, call_cell b (more p) (target p))

-- Its search may start.
serving : (c : After-from-in-loop-i) → let g = c.args.store.now.grid in
    Serving (job_of c.args.job.now) c.args.tables.now c.loop-i.store.bytes.now g (point c.from-in-loop-i.result g.top) c.loop-i.stamp (eqb c.loop-i.i 0)
serving c = call_serving c.requires (more c) (target c) c.loop-i.invariant.1

pub serve-requires : goal.serve-requires
serve-requires c = (job_of c.args.job.now, rw c.loop-i.invariant.0.grid (serving (goal.at.serve-requires c).After-from-in-loop-i))

pub returns-in_err-stamp : goal.returns-in_err-stamp
returns-in_err-stamp c =
    let j = job_of c.args.job.now in
    let d = c.in_err-stamp.ensures in
    let g = c.loop-i.invariant.0.grid in
    let at = (goal.at.returns-in_err-stamp c).After-from-in-loop-i in
    let p = err_from_is_err_and c.from_residual.result c.from_residual.ensures.1 in
    let (holds, failed) = call_failed c.requires (more at) (target at) c.loop-i.invariant.1 (rw g at (d.served j (rw g (serving at)))) in
    (same_more c.loop-i.invariant.0 d.same, holds, rw (p.1, p.2) failed)

pub loop-i-preserved : goal.loop-i-preserved
loop-i-preserved c =
    let d = c.in_ok-stamp.ensures in
    let g = c.loop-i.invariant.0.grid in
    let p = (goal.at.loop-i-preserved c).After-from-in-loop-i in (
      same_more c.loop-i.invariant.0 d.same,
      call_served c.requires (more p) (target p) c.loop-i.invariant.1 (rw g at (d.served (job_of c.args.job.now) (rw g (serving p)))),
    )

pub returns : goal.returns
returns c = let l = c.loop-i in (l.invariant.0, l.invariant.1.holds, all_served c.requires (omega (arith, c.requires.ordered.size, c.loop-i-test.false)) l.invariant.1)
