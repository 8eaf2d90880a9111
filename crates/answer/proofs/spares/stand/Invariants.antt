-- `stand` meets its contract: each turn lets one cart of the chain stand. The invariant: the loose end is on the cell `at` at the step, and v is the place of the node behind it. The measure: how
-- many carts move in this step. Assumes nothing.
use Prim.Native.Nat.{suc}
use mathlib.Core.Path.{◌≡◌}
use Rattle.model.specs.Job.{Job}
use Rattle.model.specs.Choke.{point}
use Rattle.network.specs.Store.{place_in, SameStore}
use Rattle.network.specs.Keeping.{LooseAt}
use Rattle.answer.proofs.SpareTurn.{movers, ChainTo}
use Rattle.answer.proofs.spares.stand.Given as goal

abbrev pub invariant-loop-grid : goal.invariant-loop-grid
invariant-loop-grid l = (l.v ≡ place_in l.fn.store.grid l.at (suc l.step)) × SameStore l.fn.store l.store
    × ((j : Job) → LooseAt j l.fn.store.grid l.fn.store.bytes.now (point l.cell l.step) → ChainTo j l.fn.store.grid l.fn.store.bytes.now l.store.bytes.now (point l.at l.step))

abbrev pub decreases-loop-grid : goal.decreases-loop-grid
decreases-loop-grid l = movers l.fn.store.grid l.store.bytes.now l.step
