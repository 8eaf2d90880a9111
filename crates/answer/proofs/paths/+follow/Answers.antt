-- The way back is written from its end on. The measure is the step number, which falls with each call; each call writes the part of the trail before its own cell.
-- Assumes nothing.
use native.Mathlib.Omega.{arith}
use Rattle.answer.proofs.SpareKeep.{top_few}
use Rattle.answer.proofs.PathTrail.{cart_before, trail_more}
use Rattle.answer.proofs.paths.+follow.Goals as goal

pub bounds-row-step : goal.bounds-row-step
bounds-row-step t c = omega (arith, c.requires.1, top_few c.requires.0.1)

pub follow-requires : goal.follow-requires
follow-requires t c =
    let (j, h, k) = c.requires.0 in
    (omega arith, ((j, h, cart_before h _ _ (c.came_from-from.ensures j h k)), omega (arith, c.requires.1)))

pub returns : goal.returns
returns t c = λ j h k.
    let e = c.came_from-from.ensures j h k in
    trail_more h _ k _ (omega (arith, c.requires.1, top_few h)) c.if-step-eq0.false _ e (c.follow.ensures j h (cart_before h _ _ e))
