-- `leave` takes the carts off their cells, so that nobody is left. Assumes nothing.
use Rattle.std.proofs.Common.{arith, ◌≡◌, None, length, ap, ◌∙◌}
use lib.ListN.{length-set}
use Rattle.model.specs.Walk.{At}
use Rattle.planjudge.specs.PlanTests.{ride_at, walk_at}
use Rattle.planjudge.proofs.PlanSteps.{on_floor, left_none, left_past, left_more, left_all}
use Rattle.planjudge.proofs.clear.leave.Goals as goal
use Rattle.planjudge.proofs.clear.leave.Goals.{then-t-last, else-t-last}

pub loop-ride-init : goal.loop-ride-init
loop-ride-init c = left_none c.args.rides.now c.args.t c.args.on.now c.requires.2

pub loop-ride-preserved : goal.loop-ride-preserved
loop-ride-preserved c =
    let rides = c.args.rides.now in
    let l = c.loop-ride in
    let i = l.ride-index in
    elim c.if-t-last.branch [
      | then-t-last w ↦
          let cell = w.from.result in
          let size = ap length w.on-is ∙ length-set l.on cell None in
          let here : At (walk_at rides i) c.args.t cell = rw w.from.ensures (on_floor (ride_at rides i) (omega arith) c.args.t (omega arith)) in
          rw w.on-is (left_more rides c.args.t i l.on cell (omega arith) here l.invariant)
      | else-t-last w ↦ rw w.on-is (left_past rides c.args.t i l.on (omega arith) l.invariant)
    ]

pub returns : goal.returns
returns c =
    let l = c.loop-ride in
    let e : l.ride-index ≡ length c.args.rides.now = omega arith in
    left_all c.args.rides.now c.args.t l.on (rw e at l.invariant)
