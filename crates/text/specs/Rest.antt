-- What is left of a text behind the place up to which its lines were read.
use Rattle.std.specs.Prelude.{ℕ, List, drop}
use Rattle.text.specs.declared.lines.Lines.{Lines}

abbrev pub rest_of : Lines → List ℕ
rest_of l = drop l.at l.text.now
