-- What both calls decide first, by the text and the length of the store.
use Rattle.std.specs.Prelude.{ℕ, ◌≡◌, List, Result}
use Rattle.model.specs.declared.answer.Refusal.{Refusal}
use Rattle.model.specs.Promises.{check_verdict}
use Rattle.job.specs.declared.state.Job.{Job}
use Rattle.reader.specs.Reading.{verdict_of, Bounded}

pub record Admitted (text : List ℕ) (lent : ℕ) (r : Result Job Refusal) : Type 0 where
  pub says : verdict_of r ≡ check_verdict text lent
  pub bounded : Bounded r
