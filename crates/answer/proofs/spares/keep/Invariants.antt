-- `keep` meets its contract: the cart's node at step 0 begins its line, and `stand` leads that on, step by step. The invariant: its loose end is on the cell `at` at the step t.
-- Assumes nothing.
use Rattle.model.specs.Job.{Job}
use Rattle.model.specs.Choke.{point}
use Rattle.network.specs.Store.{SameStore}
use Rattle.network.specs.Keeping.{LooseAt}
use Rattle.answer.proofs.SpareTurn.{ChainTo}
use Rattle.answer.proofs.spares.keep.Given as goal

abbrev pub invariant-loop-t : goal.invariant-loop-t
invariant-loop-t l = SameStore l.fn.store l.store × ((j : Job) → LooseAt j l.fn.store.grid l.initial.store.bytes.now (point l.cell 0)
    → ChainTo j l.fn.store.grid l.initial.store.bytes.now l.store.bytes.now (point l.at l.t))
