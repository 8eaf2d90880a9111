-- `judge_sheet` judges what the sheet is read as. A sheet that is read has known paths and spare carts, or known choke points fewer than the calls, so the two
-- tests may be asked; each decides its case. Assumes nothing.
use mathlib.Core.Path.{sym}
use native.Mathlib.Omega.{arith}
use Rattle.std.proofs.lemmas.List.{length-map}
use Rattle.model.proofs.Floor.{test_choke}
use Rattle.model.proofs.Read.{plan_back, cannot_back}
use Rattle.job.specs.Lists.{job_of}
use Rattle.job.specs.Held.{as_choke}
use Rattle.job.proofs.Lists.{calls_count}
use Rattle.sheetjudge.proofs.judge_sheet.Goals as goal

pub is_plan-requires-clause-paths : goal.is_plan-requires-clause-paths
is_plan-requires-clause-paths c =
    (plan_back (job_of c.args.job.now) c.args.sheet.now _ _ (sym (rw c.in-Plan.is at c.in-Ok.ensures.said))).paths

pub is_plan-requires-clause-spares : goal.is_plan-requires-clause-spares
is_plan-requires-clause-spares c =
    (plan_back (job_of c.args.job.now) c.args.sheet.now _ _ (sym (rw c.in-Plan.is at c.in-Ok.ensures.said))).spares

pub is_choke_list-requires : goal.is_choke_list-requires
is_choke_list-requires c =
    let s = c.args.job.now in
    let (text, few, known) = cannot_back (job_of s) c.args.sheet.now _ (sym (rw c.in-Cannot.is at c.in-Ok.ensures.said)) in
    rw c.as_slice.ensures.value (c.requires, omega (arith, few, calls_count s, length-map c.in-Cannot.chokes.items as_choke), λ x i. test_choke (job_of s) x (known x i))
