-- `augment` lays the hops one by one. The loop's invariant: the hops from i on are laid, and the stack is as it was. Assumes nothing.
use Rattle.network.proofs.StoreLaws.{same_more}
use Rattle.route.proofs.AugmentLoop.{may_lay, more_laid, is_laid}
use Rattle.route.proofs.augment.augment.Goals as goal

pub lay-requires : goal.lay-requires
lay-requires c = let l = c.loop-i in rw l.invariant.0.grid (may_lay c.requires.1 c.loop-i-test.true l.auto.i l.invariant.1)

pub loop-i-preserved : goal.loop-i-preserved
loop-i-preserved c =
    let l = c.loop-i in
    let w = c.lay.ensures in
    (same_more l.invariant.0 w.same, more_laid c.requires.1 c.loop-i-test.true l.auto.i l.invariant.1 (rw l.invariant.0.grid at w.bytes))

pub returns-clause-laid : goal.returns-clause-laid
returns-clause-laid c = λ j h.
    let l = c.loop-i in
    let s = l.invariant.0 in
    let w = c.set_used.ensures in
    let p = c.position-first.ensures in
    is_laid h c.loop-i-test.false l.invariant.1 p.0 p.1 (rw s.grid at c.place-v.ensures) (rw s.grid at w.bytes) (rw (w.same.grid, s.grid) at c.set_mark.ensures.bytes)
