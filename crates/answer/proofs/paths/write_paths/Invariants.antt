-- The calls are taken in the order of the sheet. The invariant: the paths so far are traced, for every job that the lists and the store are of; the contract says that there is one, which
-- keeps the indices in range. Assumes nothing.
use Rattle.model.specs.Job.{Job}
use Rattle.answer.specs.Full.{FullFlow, PathsTraced}
use Rattle.answer.proofs.paths.write_paths.Given as goal

abbrev pub invariant-loop-i : goal.invariant-loop-i
invariant-loop-i l = (j : Job) → FullFlow j l.calls l.cart_on l.order l.store.grid l.store.bytes.now → PathsTraced j l.order l.store.bytes.now l.rides l.i
