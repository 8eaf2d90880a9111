-- `read_sheet` reads the first line, and the lines after it by what that says. Assumes nothing.
use mathlib.Core.Path.{◌≡◌, refl, ap, sym, ◌∙◌}
use mathlib.Core.List.{◌∷◌, ◌++◌}
use Rattle.std.proofs.lemmas.Option.{MatchOption-at_none, MatchOption-at_some}
use Rattle.job.specs.Lists.{job_of}
use Rattle.text.specs.Scan.{line_of}
use Rattle.text.specs.Rest.{rest_of}
use Rattle.sheet.specs.Form.{form_of}
use Rattle.sheet.specs.Parts.{as_read}
use Rattle.sheet.proofs.Exits.{passed_on, stopped_at}
use Rattle.sheet.proofs.Whole.{whole_cut, whole_plan, whole_other}
use Rattle.sheet.proofs.read_sheet.Goals as goal
use Rattle.sheet.proofs.read_sheet.Goals.{In_ok-line}

pub returns-in_err-line-clause-said : goal.returns-in_err-line-clause-said
returns-in_err-line-clause-said c =
    let e = c.in_err-line.ensures in
    ap (λ r. form_of (job_of c.args.job.now) r c.args.rides.now) (stopped_at c.from_residual.result c.from_residual.ensures.1 e.value e.ok_part)
    ∙ whole_cut (job_of c.args.job.now) c.args.sheet.now (rw (c.new-lines.ensures.0, c.new-lines.ensures.1) at (MatchOption-at_none _ _ e.ok_part c.next.ensures.said).0)

-- the first line, in front of the rest
taken : (c : In_ok-line) → let l = c.in_ok-line.line.now in (l ≡ line_of c.args.sheet.now) × (c.args.sheet.now ≡ l ++ (10 ∷ rest_of c.next.new.self))
taken c = rw (c.new-lines.ensures.0, c.new-lines.ensures.1) at (MatchOption-at_some _ _ _ c.in_ok-line.ensures.ok_part c.next.ensures.said)

pub returns-in_err-read_plan-clause-said : goal.returns-in_err-read_plan-clause-said
returns-in_err-read_plan-clause-said c =
    let j = job_of c.args.job.now in
    let at = goal.at.returns-in_err-read_plan-clause-said c in
    ap (λ r. form_of j r c.read_plan.new.rides) (passed_on c.from_residual-in_err-read_plan.result c.from_residual-in_err-read_plan.ensures.1)
    ∙ c.in_err-read_plan.ensures.said ∙ whole_plan j c.args.sheet.now _ _ (taken at.In_ok-line) (c.if-is_plan.ensures.0 refl)

pub returns-then-is_plan-clause-said : goal.returns-then-is_plan-clause-said
returns-then-is_plan-clause-said c =
    c.in_ok-read_plan.ensures.said
    ∙ whole_plan (job_of c.args.job.now) c.args.sheet.now _ _ (taken (goal.at.returns-then-is_plan-clause-said c).In_ok-line) (c.if-is_plan.ensures.0 refl)

pub returns-in_err-count-clause-said : goal.returns-in_err-count-clause-said
returns-in_err-count-clause-said c =
    let j = job_of c.args.job.now in
    let e = c.in_err-count.ensures in
    ap (λ r. form_of j r c.args.rides.now) (stopped_at c.from_residual-in_err-count.result c.from_residual-in_err-count.ensures.1 e.value e.ok_part)
    ∙ sym (whole_other j c.args.sheet.now _ _ (taken (goal.at.returns-in_err-count-clause-said c).In_ok-line) c.if-is_plan.ensures.1
    (sym (ap as_read e.ok_part) ∙ c.choke_count.ensures))

pub returns-in_err-chokes-clause-said : goal.returns-in_err-chokes-clause-said
returns-in_err-chokes-clause-said c =
    let j = job_of c.args.job.now in
    ap (λ r. form_of j r c.args.rides.now) (passed_on c.from_residual-in_err-chokes.result c.from_residual-in_err-chokes.ensures.1)
    ∙ c.in_err-chokes.ensures.said
    ∙ sym (whole_other j c.args.sheet.now _ _ (taken (goal.at.returns-in_err-chokes-clause-said c).In_ok-line) c.if-is_plan.ensures.1
    (sym (ap as_read c.in_ok-count.ensures.ok_part) ∙ c.choke_count.ensures))

pub returns-clause-said : goal.returns-clause-said
returns-clause-said c =
    c.in_ok-chokes.ensures.said
    ∙ sym (whole_other (job_of c.args.job.now) c.args.sheet.now _ _ (taken (goal.at.returns-clause-said c).In_ok-line) c.if-is_plan.ensures.1
    (sym (ap as_read c.in_ok-count.ensures.ok_part) ∙ c.choke_count.ensures))
