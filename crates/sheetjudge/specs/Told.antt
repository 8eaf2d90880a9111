-- The number that the answer to a sheet is told by.
use Rattle.std.specs.Prelude.{ℕ, ◌+◌, ◌*◌, Result, Ok, Err}
use Rattle.model.specs.declared.answer.Answer.{Answer}
use Rattle.model.specs.declared.answer.Refusal.{Refusal}
use Rattle.model.specs.Answers.{number}

abbrev pub told : Result Answer Refusal → ℕ
told (Ok a) = number a
told (Err r) = number r.answer + 256 * r.line
