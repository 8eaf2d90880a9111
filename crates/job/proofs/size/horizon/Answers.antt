-- `size::horizon` goes over the calls. Invariant: `last` is the largest deadline of those before the index. Assumes nothing.
use Rattle.std.proofs.Common.{◌≡◌, ℕ}
use Prim.Native.Nat.{max}
use native.Mathlib.Omega.{arith}
use Rattle.std.specs.Ordering.{ord_max, nat_cmp}
use Rattle.job.proofs.Lists.{latest_more}
use Rattle.job.proofs.size.horizon.Goals as goal

greater : (a b : ℕ) → ord_max nat_cmp a b ≡ max a b
greater a b = grind arith

pub loop-call-preserved : goal.loop-call-preserved
loop-call-preserved c =
    let l = c.loop-call in
    let m = greater l.last c.from.result in
    (omega (arith, c.max-last.ensures, m), omega (arith, c.max-last.ensures, m, c.from.ensures, latest_more c.args.calls.now l.call-index c.loop-call-test.true))
