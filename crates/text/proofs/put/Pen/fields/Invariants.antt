-- `Pen::fields` meets its contract. The loop's invariant: the fields of the bytes so far are written, and take at most 4 bytes each, so that what is left of four bytes for each has room for
-- the rest. Assumes nothing.
use Rattle.text.specs.Wrote.{Writes}
use Prim.Native.Nat.{◌*◌, ◌+◌, ◌≤◌}
use Rattle.model.specs.Text.{fields}
use lib.ListN.{take}
use Rattle.text.proofs.put.Pen.fields.Given as goal

abbrev pub invariant-loop-cell : goal.invariant-loop-cell
invariant-loop-cell l = (l.self.at ≤ l.initial.self.at + 4 * l.cell-index) × Writes l.initial.self (fields (take l.cell-index l.cells)) l.self
