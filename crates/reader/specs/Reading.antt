-- What the reader promises: the job that a text says, or why it says none.
use Rattle.std.specs.Prelude.{ℕ, ◌≤◌, ◌<◌, ◌+◌, ◌≡◌, List, Result, Ok, Err}
use Rattle.model.specs.declared.answer.Answer.TheVariants.{Cannot}
use Rattle.model.specs.declared.answer.Refusal.{Refusal}
use Rattle.model.specs.Answers.{number}
use Rattle.model.specs.Limits.{max_text}
use Rattle.model.specs.Job as model
use Rattle.model.specs.ReadJob as read
use Rattle.job.specs.declared.state.Job.{Job}
use Rattle.job.specs.Lists.{job_of}

abbrev pub verdict_of : Result Job Refusal → read.Verdict model.Job
verdict_of (Ok job) = read.accepted (job_of job)
verdict_of (Err r) = read.refused r.answer r.line

-- A refusal is neither PLAN nor CANNOT, and its line is no larger than a text can have.
abbrev pub Bounded : Result Job Refusal → Type 0
Bounded (Ok job) = Unit
Bounded (Err r) = (number Cannot < number r.answer) × (r.line ≤ max_text + 1)

-- The verdict is that of the text.
pub record Read (text : List ℕ) (r : Result Job Refusal) : Type 0 where
  pub says : verdict_of r ≡ read.read_job text
  pub bounded : Bounded r
