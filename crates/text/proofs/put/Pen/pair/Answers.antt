-- `Pen::pair` meets its contract: its three pieces are one, and what is left of its length after a piece is room for the next. Assumes nothing.
use native.Mathlib.Omega.{arith}
use Rattle.text.proofs.Wrote.{writes_long, pair_long, writes_pair}
use Rattle.text.proofs.put.Pen.pair.Goals as goal

pub word-requires : goal.word-requires
word-requires c = let s = c.args in omega (arith, pair_long s.word.now s.a s.b)

pub field-requires : goal.field-requires
field-requires c =
    let a = c.args in
    (omega arith, omega (arith, c.word.ensures.wrote.next, writes_long c.word.ensures, pair_long a.word.now a.a a.b))

pub field-requires-2 : goal.field-requires-2
field-requires-2 c =
    let a = c.args in
    (omega arith, omega (arith, c.word.ensures.wrote.next, writes_long c.word.ensures, c.field.ensures.wrote.next, writes_long c.field.ensures, pair_long a.word.now a.a a.b))

pub returns : goal.returns
returns c =
    let s = c.args in
    writes_pair s.a s.b c.word.ensures c.field.ensures c.field-2.ensures
