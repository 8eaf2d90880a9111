-- `Pen::byte` meets its contract: one store writes one byte, which is `wrote_one`. Assumes nothing.
use mathlib.Core.Path.{refl}
use Rattle.text.proofs.Wrote.{wrote_one}
use Rattle.text.proofs.put.Pen.byte.Goals as goal

pub returns : goal.returns
returns c = record { same = refl; wrote = wrote_one c.requires }
