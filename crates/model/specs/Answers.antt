-- The number of each answer. `Answer` is declared in src/answer.rt.
use Rattle.std.specs.Prelude.{ℕ}
use Rattle.model.specs.declared.answer.Answer.{Answer}
use Rattle.model.specs.declared.answer.Answer.TheVariants.{Plan, Cannot, TextTooLong, BadLine, NoNumber, OutOfRange, TooMany, Doubled, Uneven}
use Rattle.model.specs.declared.answer.Answer.TheVariants.{StoreTooShort, SheetTooShort, BadSheet, WrongSheet, BadMap, NoFloor}

abbrev pub number : Answer → ℕ
number Plan = 0
number Cannot = 1
number TextTooLong = 2
number BadLine = 3
number NoNumber = 4
number OutOfRange = 5
number TooMany = 6
number Doubled = 7
number Uneven = 8
number StoreTooShort = 9
number SheetTooShort = 10
number BadSheet = 11
number WrongSheet = 12
number BadMap = 13
number NoFloor = 14
