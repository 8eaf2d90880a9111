-- `keep_spares` meets its contract: cart after cart, each has a line or is given one. The invariant: the carts so far have lines. Assumes nothing.
use mathlib.Core.Path.{sym, ◌∙◌, ap}
use native.Mathlib.Omega.{arith}
use Rattle.network.specs.Store.{used_at}
use Rattle.network.proofs.StoreLaws.{same_none, same_more, is_unused, is_in_use}
use Rattle.answer.proofs.SpareKeep.{KeptUpTo, start_within, kept_none, cart_in, kept_had, kept_given, kept_all}
use Rattle.answer.proofs.spares.keep_spares.Goals as goal
use Rattle.answer.proofs.spares.keep_spares.Goals.{At-loop-cart, else-not-used, then-not-used}

pub loop-cart-init : goal.loop-cart-init
loop-cart-init c = (same_none c.args.store.now, λ j u. kept_none u)

kept : (c : At-loop-cart) → KeptUpTo c.requires.0 c.args.store.now.grid c.loop-cart.store.bytes.now c.loop-cart.cart-index
kept c = c.loop-cart.invariant.1 c.requires.0 c.requires.1

pub place-requires : goal.place-requires
place-requires c =
    (start_within (kept (goal.at.place-requires c).At-loop-cart).keeps c.from-cell.result (cart_in c.requires.1 c.loop-cart-test.true c.from-cell.ensures)).1

pub used-requires : goal.used-requires
used-requires c =
    rw (c.loop-cart.invariant.0.grid, c.place.ensures)
    (start_within (kept (goal.at.used-requires c).At-loop-cart).keeps c.from-cell.result (cart_in c.requires.1 c.loop-cart-test.true c.from-cell.ensures))

pub keep-requires : goal.keep-requires
keep-requires c =
    let u = c.requires.1 in rw c.loop-cart.invariant.0.grid (
      (c.requires.0, (kept (goal.at.keep-requires c).At-loop-cart).keeps, cart_in u c.loop-cart-test.true c.from-cell.ensures),
      sym (ap (used_at c.args.store.now.grid c.loop-cart.store.bytes.now) c.place.ensures) ∙ is_unused (rw c.loop-cart.invariant.0.grid at c.used.ensures) c.if-not-used.true,
    )

pub loop-cart-preserved : goal.loop-cart-preserved
loop-cart-preserved c =
    let l = c.loop-cart-test.true in
    let i = c.loop-cart.invariant in
    let g = i.0.grid in
    let e = c.from-cell.ensures in (
      elim c.if-not-used.branch [
        | then-not-used w ↦ rw w.store-is (same_more i.0 w.keep.ensures.0)
        | else-not-used w ↦ rw w.store-is i.0
      ],
      λ j u. let h = i.1 j u in
          elim c.if-not-used.branch [
            | then-not-used w ↦ rw w.store-is (kept_given u h l e (rw g at (w.keep.ensures.1 j (rw g h.keeps) (cart_in u l e))))
            | else-not-used w ↦ rw w.store-is
                (kept_had u h l e (λ f. is_in_use (rw g at c.used.ensures) w.if-not-used.false (ap (used_at c.args.store.now.grid c.loop-cart.store.bytes.now) c.place.ensures ∙ f)))
          ],
    )

pub returns : goal.returns
returns c = let l = c.loop-cart in (l.invariant.0, λ j u. kept_all u (omega (arith, c.loop-cart-test.false)) (l.invariant.1 j u))
