-- `is_plan` decides whether paths and spare carts are a plan in the written order: both rise, each path leads from its cart to its call, each spare cart walks from its own cell, and at no step is
-- one cart in another's way. PlanRight has both directions, of the two parts of the rides. Assumes nothing.
use Rattle.std.proofs.Common.{arith, ap, sym, ◌∙◌, ◌≡◌, length, map, take, drop}
use Rattle.model.specs.Promises.{RightPlan}
use Rattle.job.specs.Lists.{job_of}
use Rattle.job.specs.Held.{as_path, as_ride, paths_to, spares_from}
use Rattle.job.proofs.Lists.{calls_count}
use Rattle.job.proofs.Tested.{denied, same_answer}
use Rattle.planjudge.proofs.PlanLines.{Given, calls_known, paths_carts, spares_carts}
use Rattle.planjudge.proofs.PlanWalks.{plan_led, plan_stayed}
use Rattle.planjudge.proofs.PlanRight.{plan_ordered, spares_rising, plan_clear, tests_right}
use Rattle.planjudge.proofs.plan.is_plan.Goals as goal
use Rattle.planjudge.proofs.plan.is_plan.Goals.{After-split_at}

-- the two parts, and what is known of them
front : (c : After-split_at) → c.split_at.result.0.now ≡ take (length (job_of c.args.job.now).calls) c.args.rides.now
front c = c.split_at.ensures.front ∙ ap (λ n. take n c.args.rides.now) (ap length c.as_slice-calls.ensures.value ∙ sym (calls_count c.args.job.now))

back : (c : After-split_at) → c.split_at.result.1.now ≡ drop (length (job_of c.args.job.now).calls) c.args.rides.now
back c = c.split_at.ensures.back ∙ ap (λ n. drop n c.args.rides.now) (ap length c.as_slice-calls.ensures.value ∙ sym (calls_count c.args.job.now))

given : (c : After-split_at) → Given c.args.job.now c.split_at.result.0.now c.split_at.result.1.now
given c = record {
  ready = c.requires.ready;
  calls = omega (arith, c.split_at.ensures.front_len, ap length c.as_slice-calls.ensures.value);
  carts = omega (arith, c.split_at.ensures.front_len, c.split_at.ensures.back_len, c.requires.size);
  known_paths = rw (front c) c.requires.paths;
  known_spares = rw (back c) c.requires.spares;
}

-- a right plan, of the rides and of the two parts
abbrev Right : After-split_at → Type 0
Right c = let j = job_of c.args.job.now in RightPlan j (paths_to c.args.rides.now (length j.calls)) (spares_from c.args.rides.now (length j.calls))

abbrev Parts : After-split_at → Type 0
Parts c = RightPlan (job_of c.args.job.now) (map as_path c.split_at.result.0.now) (map as_ride c.split_at.result.1.now)

parts : (c : After-split_at) → Right c → Parts c
parts c r = rw (front c, back c) r

joined : (c : After-split_at) → Parts c → Right c
joined c r = rw (front c, back c) at r

pub split_at-requires : goal.split_at-requires
split_at-requires c = omega (arith, c.requires.ready.enough, calls_count c.args.job.now, ap length c.as_slice-calls.ensures.value)

pub in_order-requires : goal.in_order-requires
in_order-requires c = rw c.as_slice-calls.ensures.value (calls_known (given (goal.at.in_order-requires c).After-split_at))

pub returns-then-not-in_order : goal.returns-then-not-in_order
returns-then-not-in_order c =
    let s = (goal.at.returns-then-not-in_order c).After-split_at in
    denied (λ r. c.in_order.ensures.1 c.if-not-in_order.true (rw c.as_slice-calls.ensures.value (plan_ordered c.args.job.now _ (parts s r).1.0)))

pub returns-then-not-spares_rise : goal.returns-then-not-spares_rise
returns-then-not-spares_rise c =
    let s = (goal.at.returns-then-not-spares_rise c).After-split_at in
    denied (λ r. c.spares_rise.ensures.1 c.if-not-spares_rise.true (spares_rising _ (parts s r).1.1))

pub all_lead-requires : goal.all_lead-requires
all_lead-requires c =
    let g = given (goal.at.all_lead-requires c).After-split_at in
    rw (c.as_slice-carts.ensures.value, c.as_slice-calls.ensures.value) (paths_carts g, calls_known g)

pub returns-then-not-all_lead : goal.returns-then-not-all_lead
returns-then-not-all_lead c =
    let s = (goal.at.returns-then-not-all_lead c).After-split_at in
    denied (λ r. c.all_lead.ensures.1 c.if-not-all_lead.true
    (rw (c.as_slice-carts.ensures.value, c.as_slice-calls.ensures.value) (plan_led (given s) c.fill.ensures (parts s r).0.served.leads)))

pub all_stay-requires : goal.all_stay-requires
all_stay-requires c = rw c.as_slice-carts.ensures.value (spares_carts (given (goal.at.all_stay-requires c).After-split_at))

pub returns-then-not-all_stay : goal.returns-then-not-all_stay
returns-then-not-all_stay c =
    let s = (goal.at.returns-then-not-all_stay c).After-split_at in
    denied (λ r. c.all_stay.ensures.1 c.if-not-all_stay.true (rw c.as_slice-carts.ensures.value (plan_stayed (given s) c.fill.ensures (parts s r).0.stay)))

pub returns : goal.returns
returns c =
    let s = (goal.at.returns c).After-split_at in
    let g = given s in
    let carts = c.as_slice-carts.ensures.value in
    let calls = c.as_slice-calls.ensures.value in
    let whole = c.split_at.ensures.by_index.0 in
    let order = rw calls at (c.in_order.ensures.0 c.if-not-in_order.false) in
    let rise = c.spares_rise.ensures.0 c.if-not-spares_rise.false in
    let led = rw (carts, calls) at (c.all_lead.ensures.0 c.if-not-all_lead.false) in
    let stay = rw carts at (c.all_stay.ensures.0 c.if-not-all_stay.false) in
    same_answer
    (λ f. joined s (tests_right g c.fill.ensures order rise led stay (λ t l. rw whole at (f t (omega (arith, l, c.last_step.ensures.0))))))
    (λ r t l. rw whole (plan_clear g (parts s r).0 t))
    c.all_clear.ensures
