-- `has_bay` goes along the chain of t, whatever calls and keys the chains are of. Invariant: the calls of the chain behind `next` were looked at, and none has its cell in the table. The
-- measure is one more than `next`. Assumes nothing.
use native.Mathlib.Omega.{arith}
use Rattle.chokejudge.proofs.ChainLaws.{walked_on}
use Rattle.chokejudge.proofs.calls.has_bay.Goals as goal

pub loop-next-preserved : goal.loop-next-preserved
loop-next-preserved c = λ key calls r.
    let a = c.args in
    let k = c.in-Some.k in
    let w = rw c.in-Some.is at (c.loop-next.invariant key calls r) in
    let out = rw (c.from-in-Some.ensures, c.from.ensures) at c.if-since-from-gt0.false in
    rw c.from-in-Some-2.ensures (walked_on k w (λ q. omega (arith, q, out)) (r.1.linked.back a.t k (omega (arith, w.last.0, w.few)) w.last.1))
