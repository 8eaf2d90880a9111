-- `Pen::field` meets its contract: the tab and the numeral are one piece, by `writes_more`. Assumes nothing.
use Rattle.text.proofs.Wrote.{writes_more}
use Rattle.text.proofs.put.Pen.field.Goals as goal

pub returns : goal.returns
returns c = writes_more c.byte.ensures c.number.ensures
