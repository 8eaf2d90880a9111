-- `Pen::number` meets its contract. The digits that are taken from the entry of n are those of n, and written one after the other, without leading zeros, they are its
-- numeral (`numeral_pieces`); so there is room for each. Assumes nothing.
use Prim.Native.Nat.{◌/◌}
use mathlib.Core.Path.{◌≡◌}
use native.Mathlib.Omega.{arith}
use Rattle.model.specs.Text.{digit}
use Rattle.text.proofs.Table.{ones, tens, hundreds, numeral_pieces, pieces_long}
use Rattle.text.proofs.Wrote.{writes_long, writes_more}
use Rattle.text.proofs.put.Pen.number.Goals as goal
use Rattle.text.proofs.put.Pen.number.Goals.{After-digit, After-digit-2, After-digit-3}

first : (c : After-digit) → c.digit.result ≡ digit (c.args.n / 100)
first c = hundreds c.args.n c.entry-e.ensures c.digit.ensures

second : (c : After-digit-2) → c.digit-2.result ≡ digit (c.args.n / 10)
second c = tens c.args.n c.entry-e.ensures c.digit-2.ensures

third : (c : After-digit-3) → c.digit-3.result ≡ digit c.args.n
third c = ones c.args.n c.entry-e.ensures c.digit-3.ensures

pub leading-requires : goal.leading-requires
leading-requires c = omega (arith, pieces_long c.args.n c.digit.result 0)

pub leading-requires-2 : goal.leading-requires-2
leading-requires-2 c = omega (arith, c.leading.ensures.wrote.next, writes_long c.leading.ensures, pieces_long c.args.n c.digit.result c.digit-2.result)

pub byte-requires : goal.byte-requires
byte-requires c =
    omega (
      arith,
      c.leading.ensures.wrote.next,
      writes_long c.leading.ensures,
      c.leading-2.ensures.wrote.next,
      writes_long c.leading-2.ensures,
      pieces_long c.args.n c.digit.result c.digit-2.result,
    )

pub returns : goal.returns
returns c =
    rw (← numeral_pieces c.args.n, ← first (goal.at.returns c).After-digit, ← second (goal.at.returns c).After-digit-2, ← third (goal.at.returns c).After-digit-3)
    (writes_more c.leading.ensures (writes_more c.leading-2.ensures c.byte.ensures))
