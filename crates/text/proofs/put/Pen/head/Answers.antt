-- `Pen::head` meets its contract: its three pieces are a line, and what is left of the line's length after a piece is room for the next. Assumes nothing.
use mathlib.Core.List.{[], ◌∷◌}
use native.Mathlib.Omega.{arith}
use Rattle.text.proofs.Wrote.{writes_long, fields_one, head_long, writes_line}
use Rattle.text.proofs.put.Pen.head.Goals as goal

pub word-requires : goal.word-requires
word-requires c = let s = c.args in omega (arith, head_long s.word.now s.n)

pub field-requires : goal.field-requires
field-requires c =
    (omega arith, omega (arith, c.word.ensures.wrote.next, writes_long c.word.ensures, head_long c.args.word.now c.args.n))

pub byte-requires : goal.byte-requires
byte-requires c =
    let s = c.args in
    omega (arith, c.word.ensures.wrote.next, writes_long c.word.ensures, c.field.ensures.wrote.next, writes_long c.field.ensures, head_long s.word.now s.n)

pub returns : goal.returns
returns c =
    let s = c.args in
    writes_line (s.n ∷ []) c.word.ensures (rw (fields_one s.n) c.field.ensures) c.byte.ensures
