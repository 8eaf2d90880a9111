-- `add` sets the bit by a bitwise or with its power of two, which is below 256, so that the shift loses nothing. Assumes nothing.
use Prim.Native.Nat.{◌/◌, ◌%◌, ◌^◌}
use mathlib.Core.Path.{ap, ◌∙◌}
use native.Mathlib.Nat.{one-mul}
use native.Mathlib.Omega.{arith}
use lib.Bits.{bit_or}
use lib.ListN.{get_or, set}
use lib.Pow.{shl_exact}
use Rattle.job.specs.Bits.{with_bit}
use Rattle.job.proofs.bits.add.Goals as goal

pub returns : goal.returns
unfolding with_bit
returns c =
    let a = c.args in
    let k = a.i % 8 in
    ap (λ n. set a.table.now (a.i / 8) (bit_or (get_or a.table.now (a.i / 8) 0) n)) (shl_exact 1 k 8 (omega arith) (omega arith) ∙ one-mul (2 ^ k))
