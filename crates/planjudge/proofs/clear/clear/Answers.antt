-- `clear` decides whether the carts are in nobody's way at a step: they stand apart, and none trades. Then they leave the table. Assumes nothing.
use Rattle.std.proofs.lemmas.Bool.{false≢true}
use Rattle.job.proofs.Tested.{told, denied}
use Rattle.planjudge.proofs.clear.clear.Goals as goal

pub stand-requires : goal.stand-requires
stand-requires c = c.requires

pub untraded-requires : goal.untraded-requires
untraded-requires c = (c.requires.0, c.stand.ensures.1 c.if-not-stand.false)

pub leave-requires : goal.leave-requires
leave-requires c = (c.requires.0, c.requires.1, c.stand.ensures.1 c.if-not-stand.false)

pub returns-then-not-stand : goal.returns-then-not-stand
returns-then-not-stand c = (denied (λ q. c.stand.ensures.0.1 c.if-not-stand.true q.0), λ e. absurd (false≢true e))

pub returns-then-not-untraded : goal.returns-then-not-untraded
returns-then-not-untraded c = (denied (λ q. c.untraded.ensures.1 c.if-not-untraded.true q.1), λ e. absurd (false≢true e))

pub returns : goal.returns
returns c = (told (c.stand.ensures.0.0 c.if-not-stand.false, c.untraded.ensures.0 c.if-not-untraded.false), λ e. c.leave.ensures)
