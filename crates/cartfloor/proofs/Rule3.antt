-- Rule 3 in one line: of an accepted job CANNOT is the planner's answer exactly if no plan exists, with a walk for every spare cart; and exactly if the calls alone cannot be served, whatever the
-- spare carts do. A PLAN is a plan, and serves the calls; CANNOT says that there is none, and its choke points that the calls cannot be served. Assumes nothing.
use Prim.Native.Nat.{ℕ, ◌%◌}
use mathlib.Core.Path.{◌≡◌, subst}
use mathlib.Core.List.{List, map}
use mathlib.Core.Logic.{◌↔◌, inl, inr}
use native.Mathlib.Omega.{arith}
use lib.ListN.{length}
use Rattle.model.specs.declared.answer.Answer.TheVariants.{Cannot}
use Rattle.model.specs.Answers.{number}
use Rattle.model.specs.Job.{Job}
use Rattle.model.specs.Plan.{Path, Ride, ride_of, Apart, CallsServed, Plan}
use Rattle.model.specs.ReadJob.{accepted}
use Rattle.model.specs.Promises.{Answers, Told, plan_verdict, Planned}
use Rattle.model.proofs.Contrary.{no_paths}
use Rattle.model.proofs.SparesKept.{calls_kept}

abbrev NoPlan : Job → Type 0
NoPlan j = (ps : List Path) (ss : List Ride) → Plan j ps ss → ⊥

abbrev Unserved : Job → Type 0
Unserved j = (ps : List Path) → CallsServed j ps → Apart (map ride_of ps) → ⊥

by_answer : (j : Job) (r : ℕ) (b : List ℕ) → Answers j r b → (r % 256 ≡ number Cannot) ↔ NoPlan j
by_answer j r b (inl (ps, ss, h, e, f)) = ((λ g. absurd (omega (arith, f, g))), λ n. absurd (n ps ss h.0))
by_answer j r b (inr (xs, h, e, f, n)) = ((λ g. n), λ g. omega (arith, f))

by_calls : (j : Job) (r : ℕ) (b : List ℕ) → Answers j r b → (r % 256 ≡ number Cannot) ↔ Unserved j
by_calls j r b (inl (ps, ss, h, e, f)) = ((λ g. absurd (omega (arith, f, g))), λ n. let (s, a) = calls_kept j ps ss h.0 in absurd (n ps s a))
by_calls j r b (inr (xs, h, e, f, n)) = ((λ g ps s a. no_paths j xs ps h.0 s a), λ g. omega (arith, f))

module _ (job store sheet store' sheet' : List ℕ) (r : ℕ) (j : Job) (read : plan_verdict job (length store) (length sheet) ≡ accepted j) (p : Planned job store sheet store' sheet' r) where
  answered : Answers j r p.bytes
  answered = subst (λ v. Told v r p.bytes) read p.told

  pub rule_3 : (r % 256 ≡ number Cannot) ↔ ((ps : List Path) (ss : List Ride) → Plan j ps ss → ⊥)
  rule_3 = by_answer j r p.bytes answered

  pub rule_3_calls : (r % 256 ≡ number Cannot) ↔ ((ps : List Path) → CallsServed j ps → Apart (map ride_of ps) → ⊥)
  rule_3_calls = by_calls j r p.bytes answered
