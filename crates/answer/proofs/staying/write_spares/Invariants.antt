-- `write_spares` meets its contract: each cart without a path is followed on from its cell. The invariant: the rides of the carts so far are traced, for every job that the lists and the
-- store are of; the contract says that there is one, which keeps the indices in range. Assumes nothing.
use Prim.Native.Nat.{ℕ}
use mathlib.Core.List.{List}
use Rattle.model.specs.Job.{Job}
use Rattle.answer.specs.Full.{PathsWritten}
use Rattle.answer.proofs.SparePlan.{RidesTraced}
use Rattle.answer.proofs.staying.write_spares.Given as goal

abbrev pub invariant-loop-cart : goal.invariant-loop-cart
invariant-loop-cart l = (j : Job) (order : List ℕ) → PathsWritten j l.carts l.calls order l.store.grid l.store.bytes.now l.fn.rides
    → RidesTraced j order l.store.bytes.now l.fn.rides l.rides l.calls l.k l.cart
