-- `Pen::pair_line` meets its contract: the word with two fields and the line feed are a line, which is one byte longer. Assumes nothing.
use mathlib.Core.List.{[], ◌∷◌}
use native.Mathlib.Omega.{arith}
use Rattle.text.proofs.Wrote.{writes_long, line_of, pair_long, pair_line_long, writes_more}
use Rattle.text.proofs.put.Pen.pair_line.Goals as goal

pub pair-requires : goal.pair-requires
pair-requires c =
    let a = c.args in
    let w = a.word.now in
    (omega arith, omega arith, omega (arith, pair_long w a.a a.b, pair_line_long w a.a a.b))

pub byte-requires : goal.byte-requires
byte-requires c =
    let s = c.args in
    let w = s.word.now in
    omega (arith, c.pair.ensures.wrote.next, writes_long c.pair.ensures, pair_long w s.a s.b, pair_line_long w s.a s.b)

pub returns : goal.returns
returns c =
    let s = c.args in
    rw (← line_of s.word.now (s.a ∷ s.b ∷ []) []) (writes_more c.pair.ensures c.byte.ensures)
