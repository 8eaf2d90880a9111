-- `put_opening` meets its contract: by whether a call is met, PATH with two fields or SPARE with one, in either case 12 bytes at most. Assumes nothing.
use native.Mathlib.Omega.{arith}
use Rattle.model.specs.Text.{path_word}
use Rattle.model.proofs.Room.{numeral_short}
use Rattle.text.proofs.Wrote.{fields_one, pair_room, writes_long, writes_more}
use Rattle.sheetwriter.proofs.put_opening.Goals as goal

pub pair-requires : goal.pair-requires
pair-requires c = (omega arith, omega arith, omega (arith, pair_room path_word c.from-cart.result c.from-call.result))

pub field-requires : goal.field-requires
field-requires c = (omega arith, omega (arith, c.word.ensures.wrote.next, writes_long c.word.ensures, numeral_short c.from-cart.result))

pub returns-else-met : goal.returns-else-met
returns-else-met c = rw (c.if-met.false, fields_one c.args.ride.now.cart) (writes_more c.word.ensures (rw c.from-cart.ensures at c.field.ensures))
