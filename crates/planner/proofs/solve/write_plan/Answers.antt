-- `write_plan` meets its contract: once every cart has a line the paths are traced, and once those are written the rides of the others, which makes the plan. Assumes nothing.
use mathlib.Core.Path.{ap, ◌∙◌}
use native.Mathlib.Omega.{arith}
use lib.ListN.{length}
use Rattle.job.specs.Lists.{job_of}
use Rattle.job.proofs.Lists.{calls_count}
use Rattle.answer.specs.Spares.{AllKept}
use Rattle.answer.specs.Full.{PathsWritten}
use Rattle.planner.proofs.SolveParts.{unkept, kept_flow, paths_written}
use Rattle.planner.proofs.solve.write_plan.Goals as goal
use Rattle.planner.proofs.solve.write_plan.Goals.{After-keep_spares, After-write_paths}

-- Every cart has a line then.
kept : (c : After-keep_spares) → AllKept (job_of c.args.job.now) c.args.store.now.grid c.keep_spares.new.store.bytes.now
kept c = c.keep_spares.ensures.1 (job_of c.args.job.now) (rw c.as_slice.ensures.value (unkept c.args.job.now c.requires.0))

pub write_paths-requires : goal.write_paths-requires
write_paths-requires c =
    let a = c.args.job.now in
    let k = kept (goal.at.write_paths-requires c).After-keep_spares in (
      (job_of a, rw (c.as_slice-2.ensures.value, c.keep_spares.ensures.0.grid) (kept_flow a c.requires.0 k)),
      omega (arith, ap length c.as_slice-2.ensures.value, calls_count a, k.keeps.ready.enough, c.requires.1),
    )

-- The paths stand in the first rides then.
written : (c : After-write_paths) → AllKept (job_of c.args.job.now) c.args.store.now.grid c.keep_spares.new.store.bytes.now
    → PathsWritten (job_of c.args.job.now) c.args.job.now.carts.items (length c.args.job.now.calls.items) c.args.order.now c.args.store.now.grid c.keep_spares.new.store.bytes.now
    c.write_paths.new.rides
written c k =
    let a = c.args.job.now in
    let t = c.write_paths.ensures (job_of a) (rw (c.as_slice-2.ensures.value, c.keep_spares.ensures.0.grid) (kept_flow a c.requires.0 k)) in
    paths_written a c.requires.0 k (c.write_paths.auto.rides ∙ c.requires.1) (rw c.as_slice-2.ensures.value at t)

pub write_spares-requires : goal.write_spares-requires
write_spares-requires c =
    let at = goal.at.write_spares-requires c in
    let w = written at.After-write_paths (kept at.After-keep_spares) in
    (job_of c.args.job.now, c.args.order.now, rw (c.as_slice-3.ensures.value, c.len.ensures.value, c.keep_spares.ensures.0.grid) w)

pub returns : goal.returns
returns c =
    let a = c.args.job.now in
    let g = c.keep_spares.ensures.0.grid in
    let at = goal.at.returns c in
    let w = written at.After-write_paths (kept at.After-keep_spares) in
    let r = c.write_spares.ensures (job_of a) c.args.order.now (rw (c.as_slice-3.ensures.value, c.len.ensures.value, g) w) in
    (c.keep_spares.ensures.0, rw (calls_count a, ← c.len.ensures.value) r)
