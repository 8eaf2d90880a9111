-- `keep_spares` meets its contract: cart after cart, each has a line or is given one. The invariant: the carts so far have lines. Assumes nothing.
use Rattle.model.specs.Job.{Job}
use Rattle.network.specs.Store.{SameStore}
use Rattle.answer.specs.Spares.{Unkept}
use Rattle.answer.proofs.SpareKeep.{KeptUpTo}
use Rattle.answer.proofs.spares.keep_spares.Given as goal

abbrev pub invariant-loop-cart : goal.invariant-loop-cart
invariant-loop-cart l = SameStore l.fn.store l.store
    × ((j : Job) → Unkept j l.carts l.fn.store.grid l.fn.store.bytes.now → KeptUpTo j l.fn.store.grid l.store.bytes.now l.cart-index)
