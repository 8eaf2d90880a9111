-- `stand` decides whether two carts share a cell at a step, and otherwise leaves in `on` who is on which. Invariant: `on` has the first k rides' carts, each on its own cell. Assumes nothing.
use Rattle.planjudge.specs.PlanTests.{Standing}
use Rattle.planjudge.proofs.clear.stand.Given as goal

abbrev pub invariant-loop-k : goal.invariant-loop-k
invariant-loop-k l = Standing l.rides l.k l.t l.on
