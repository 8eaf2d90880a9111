-- `Pen::leading` meets its contract, by its test. Assumes nothing.
use native.Mathlib.Omega.{arith}
use Rattle.text.proofs.Wrote.{writes_none}
use Rattle.text.proofs.put.Pen.leading.Goals as goal

pub byte-requires : goal.byte-requires
byte-requires c = rw c.if-stands.true at c.requires

pub returns-then-stands : goal.returns-then-stands
returns-then-stands c = rw c.if-stands.true c.byte.ensures

pub returns-else-stands : goal.returns-else-stands
returns-else-stands c = rw c.if-stands.false (writes_none (omega arith))
