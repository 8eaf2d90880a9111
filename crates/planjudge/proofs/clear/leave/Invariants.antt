-- `leave` takes the carts off their cells. Invariant: who stands on a cell still is a ride from the index on. Assumes nothing.
use Rattle.planjudge.proofs.PlanSteps.{LeftFrom}
use Rattle.planjudge.proofs.clear.leave.Given as goal

abbrev pub invariant-loop-ride : goal.invariant-loop-ride
invariant-loop-ride l = LeftFrom l.rides l.t l.ride-index l.on
