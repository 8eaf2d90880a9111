-- `digits::digit` meets its contract: a mask of four bits is the remainder by 16, and a digit so found stays below 64 as a byte. Assumes nothing.
use Prim.Native.Nat.{◌+◌, ◌/◌, ◌%◌, ◌^◌}
use mathlib.Core.Path.{◌≡◌, ap}
use native.Mathlib.Omega.{arith}
use lib.Bits.{bit_and, and_mask}
use Rattle.text.proofs.digits.digit.Goals as goal
use Rattle.text.proofs.digits.digit.Goals.{Start}

masked : (c : Start) → bit_and (c.args.entry / 2 ^ c.args.others) 15 ≡ c.args.entry / 2 ^ c.args.others % 16
masked c = and_mask (c.args.entry / 2 ^ c.args.others) 4

pub overflow_cast-result : goal.overflow_cast-result
overflow_cast-result c = omega (arith, masked (goal.at.overflow_cast-result c).Start)

pub overflow_add-result : goal.overflow_add-result
overflow_add-result c = omega (arith, masked (goal.at.overflow_add-result c).Start)

pub returns : goal.returns
returns c = ap (λ n. 48 + n) (masked (goal.at.returns c).Start)
