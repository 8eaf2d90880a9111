-- `put::digits` meets its contract: its two tests are those by which a numeral has one digit, two or three. Assumes nothing.
use mathlib.Core.Path.{ap, refl, sym}
use lib.ListN.{length}
use borrow.Author.Tests.{le-ltb}
use Rattle.model.proofs.Read.{one-digit}
use Rattle.text.proofs.Wrote.{numeral_2}
use Rattle.text.proofs.put.digits.Goals as goal

pub returns-then-n-lt10 : goal.returns-then-n-lt10
returns-then-n-lt10 c = sym (ap length (one-digit c.args.n c.if-n-lt10.true))

pub returns-then-n-lt100 : goal.returns-then-n-lt100
returns-then-n-lt100 c = sym (ap length (numeral_2 c.args.n c.if-n-lt10.false c.if-n-lt100.true))

pub returns : goal.returns
returns c = rw (le-ltb c.args.n 10 c.if-n-lt10.false, le-ltb c.args.n 100 c.if-n-lt100.false) refl
