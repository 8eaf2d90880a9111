-- `trades` decides whether another cart goes the other way than that of ride k. Only the one that stands where it goes can, and `on` has its number. Assumes nothing.
use Rattle.std.proofs.Common.{◌≡◌, ◌<◌, ◌+◌, None, Some, get_or, length, ap, ◌∙◌, sym, arith, eq-eqb, not}
use Rattle.std.proofs.lemmas.Bool.{false≢true}
use Rattle.model.specs.Walk.{At}
use Rattle.job.proofs.Tested.{denied, same_answer}
use Rattle.planjudge.specs.PlanTests.{ride_at, walk_at}
use Rattle.planjudge.proofs.PlanSteps.{on_floor, nobody_there, facing, trades_of}
use Rattle.planjudge.proofs.clear.trades.Goals as goal
use Rattle.planjudge.proofs.clear.trades.Goals.{After-from, After-from-m}

-- the cells that ride k's cart leaves and goes to
leaves : (c : After-from) → let a = c.args in At (walk_at a.rides.now a.k) a.t (get_or (ride_at a.rides.now a.k).cells a.t 0)
leaves c = on_floor (ride_at c.args.rides.now c.args.k) (omega arith) c.args.t (omega arith)

goes : (c : After-from) → let a = c.args in At (walk_at a.rides.now a.k) (a.t + 1) c.from.result
goes c = rw c.from.ensures (on_floor (ride_at c.args.rides.now c.args.k) (omega arith) (c.args.t + 1) (omega arith))

pub returns-in_default : goal.returns-in_default
returns-in_default c =
    let a = c.args in
    let s = (goal.at.returns-in_default c).After-from in
    denied (nobody_there a.rides.now a.t a.k a.on.now c.requires.4 _ c.from.result (leaves s) (goes s) c.in_default.is)

-- who stands there
stands : (c : After-from-m) → get_or c.args.on.now c.from.result None ≡ Some c.from-m.result
stands c = rw c.from-m.ensures c.in-Some.is

known : (c : After-from-m) → c.from-m.result < length c.args.rides.now
known c = (c.requires.4.back _ _ (stands c)).0

pub bounds-rides-m : goal.bounds-rides-m
bounds-rides-m c = known (goal.at.bounds-rides-m c).After-from-m

pub offset_bounds-rides-m : goal.offset_bounds-rides-m
offset_bounds-rides-m c = omega (arith, known (goal.at.offset_bounds-rides-m c).After-from-m)

pub returns-then-m-k : goal.returns-then-m-k
returns-then-m-k c =
    let a = c.args in
    let s = (goal.at.returns-then-m-k c).After-from in
    let e = stands (goal.at.returns-then-m-k c).After-from-m in
    same_answer
    (trades_of a.rides.now a.t a.k a.on.now c.requires.4 _ c.from.result (leaves s) (goes s) c.from-m.result e c.if-m-k.true)
    (λ w. (facing a.rides.now a.t a.k a.on.now c.requires.4 _ c.from.result (leaves s) (goes s) c.from-m.result e w).1)
    c.is_on.ensures

pub returns-else-m-k : goal.returns-else-m-k
returns-else-m-k c =
    let a = c.args in
    let s = (goal.at.returns-else-m-k c).After-from in
    let e = stands (goal.at.returns-else-m-k c).After-from-m in (
      (λ q. absurd (false≢true (sym (ap not (eq-eqb _ _ c.if-m-k.false)) ∙ q))),
      λ q w. (facing a.rides.now a.t a.k a.on.now c.requires.4 _ c.from.result (leaves s) (goes s) c.from-m.result e w).0 c.if-m-k.false,
    )
