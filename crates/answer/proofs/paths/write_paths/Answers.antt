-- The calls are taken in the order of the sheet. The invariant: the paths so far are traced, for every job that the lists and the store are of; the contract says that there is one, which
-- keeps the indices in range. Assumes nothing.
use Prim.Native.Nat.{◌<◌}
use native.Mathlib.Omega.{arith}
use lib.ListN.{get_or}
use Rattle.model.specs.Limits.{max_cells}
use Rattle.model.specs.Job.{Job}
use Rattle.model.specs.Choke.{point}
use Rattle.network.proofs.KeepLaws.{keeps_within}
use Rattle.answer.specs.Full.{FullFlow}
use Rattle.answer.specs.Trail.{HasCart}
use Rattle.answer.proofs.PathPlan.{each, node_known, can_follow, below_top, has_cart, traced_all, traced_more}
use Rattle.answer.proofs.paths.write_paths.Goals as goal
use Rattle.answer.proofs.paths.write_paths.Goals.{After-prev-step, After-follow-start}

abbrev Full : After-prev-step → Job → Type 0
Full c j = FullFlow j c.args.calls.now c.args.cart_on.now c.args.order.now c.args.store.now.grid c.args.store.now.bytes.now

-- The next call's node is read.
pub place-requires : goal.place-requires
place-requires c = let (j, g) = c.requires.0 in (keeps_within g.kept.keeps (node_known g c.loop-i-test.true c.from.ensures c.from-cell.ensures)).1

pub prev-step-requires : goal.prev-step-requires
prev-step-requires c = let (j, g) = c.requires.0 in rw c.place.ensures (keeps_within g.kept.keeps (node_known g c.loop-i-test.true c.from.ensures c.from-cell.ensures))

-- The node where it is met can be followed.
follows : (c : After-prev-step) (j : Job) → Full c j → HasCart j c.args.store.now.bytes.now (point c.from-cell.result c.prev-step.result)
follows c j g = can_follow g c.loop-i-test.true c.from.ensures c.from-cell.ensures c.place.ensures c.prev-step.ensures.0

pub follow-start-requires : goal.follow-start-requires
follow-start-requires c =
    let (j, g) = c.requires.0 in (
      (j, g.kept.keeps, follows (goal.at.follow-start-requires c).After-prev-step j g),
      below_top g c.loop-i-test.true c.from.ensures c.from-cell.ensures c.place.ensures c.prev-step.ensures.0,
    )

-- Its path begins on a cart's cell.
carted : (c : After-follow-start) → (c.follow-start.result < max_cells) × (0 < get_or c.args.cart_on.now c.follow-start.result 0)
carted c =
    let (j, g) = c.requires.0 in
    let can = can_follow g c.loop-i-test.true c.from.ensures c.from-cell.ensures c.place.ensures c.prev-step.ensures.0 in
    has_cart g c.loop-i-test.true c.from.ensures c.from-cell.ensures c.place.ensures c.prev-step.ensures.0 (c.follow-start.ensures j g.kept.keeps can)

pub bounds-cart_on-start : goal.bounds-cart_on-start
bounds-cart_on-start c = (carted (goal.at.bounds-cart_on-start c).After-follow-start).0

pub overflow_sub-ride : goal.overflow_sub-ride
overflow_sub-ride c = omega (arith, carted (goal.at.overflow_sub-ride c).After-follow-start)

pub loop-i-preserved : goal.loop-i-preserved
loop-i-preserved c = λ j g.
    let i = c.loop-i.invariant j g in
    let l = c.loop-i-test.true in
    let e = c.from.ensures in
    let f = c.from-cell.ensures in
    let v = c.place.ensures in
    let d = c.prev-step.ensures.0 in
    let back = c.follow-start.ensures j g.kept.keeps (follows (goal.at.loop-i-preserved c).After-prev-step j g) in
    traced_more g l e f v d back c.follow-start.array_long c.loop-i.rides (omega (arith, c.requires.1, each g, c.loop-i.auto.rides)) i

pub returns : goal.returns
returns c = λ j g. traced_all (omega (arith, each g, c.loop-i.auto.i-end, c.loop-i-test.false)) (c.loop-i.invariant j g)
