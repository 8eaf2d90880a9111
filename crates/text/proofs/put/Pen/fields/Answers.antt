-- `Pen::fields` meets its contract. The loop's invariant: the fields of the bytes so far are written, and take at most 4 bytes each, so that what is left of four bytes for each has room for
-- the rest. Assumes nothing.
use native.Mathlib.Omega.{arith}
use Rattle.model.proofs.Room.{numeral_short}
use Rattle.text.proofs.Wrote.{writes_long, fields_suc, writes_more}
use Rattle.text.proofs.put.Pen.fields.Goals as goal

pub field-requires : goal.field-requires
field-requires c = (omega arith, omega (arith, writes_long c.loop-cell.invariant.1, numeral_short c.from.result))

pub loop-cell-preserved : goal.loop-cell-preserved
loop-cell-preserved c =
    let l = c.loop-cell in (
      omega (arith, c.field.ensures.wrote.next, writes_long c.field.ensures, numeral_short c.from.result),
      rw (fields_suc c.args.cells.now l.cell-index c.loop-cell-test.true, ← c.from.ensures) (writes_more l.invariant.1 c.field.ensures),
    )
