-- `has` shifts the byte until bit i is the lowest, and asks for that one. Assumes nothing.
use Prim.Native.Nat.{◌/◌, ◌%◌, ◌^◌}
use mathlib.Core.Path.{ap}
use lib.Bits.{and_mask}
use lib.Dec.{eqb}
use lib.ListN.{get_or}
use Rattle.job.specs.Bits.{bit_at}
use Rattle.job.proofs.bits.has.Goals as goal

pub returns : goal.returns
unfolding bit_at
returns c =
    let a = c.args in
    ap (λ n. eqb n 1) (and_mask (get_or a.table.now (a.i / 8) 0 / 2 ^ (a.i % 8)) 1)
