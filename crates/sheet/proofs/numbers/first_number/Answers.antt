-- `first_number` reads the first field behind a word, which ends within the line. Assumes nothing.
use Rattle.sheet.proofs.Fields.{inside_given}
use Rattle.sheet.proofs.numbers.first_number.Goals as goal

pub returns-clause-inside : goal.returns-clause-inside
returns-clause-inside c = inside_given c.args.line.now _ c.number.result c.number.ensures
