-- What stands in the sheet's buffer after a job is planned: the bytes of an answer, and behind them what stood there.
use Rattle.std.specs.Prelude.{ℕ, ◌≡◌, List, ◌++◌, length, drop}
use Rattle.model.specs.Job.{Job}
use Rattle.model.specs.Promises.{Answers}

pub record Written (j : Job) (sheet sheet' : List ℕ) (r : ℕ) : Type 0 where
  pub bytes : List ℕ
  pub answers : Answers j r bytes
  pub text : sheet' ≡ bytes ++ drop (length bytes) sheet
