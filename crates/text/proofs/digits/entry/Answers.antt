-- `digits::entry` meets its contract: what the test says of the whole table holds at the entry that is read. Assumes nothing.
use native.Mathlib.Omega.{arith}
use Rattle.text.specs.DigitTable.{packed}
use Rattle.text.proofs.Table.{at_each}
use Rattle.text.proofs.digits.entry.Goals as goal

pub returns : goal.returns
returns c = at_each packed c.table.result.now c.table.ensures.right c.args.n (omega (arith, c.table.ensures.thousand))
