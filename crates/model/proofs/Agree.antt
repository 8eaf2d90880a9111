-- The check passes every sheet that the planner may write, and the planner may write every sheet that the check passes. Assumes nothing.
use Prim.Native.Nat.{ℕ, ◌+◌, ◌*◌, ◌<◌}
use mathlib.Core.Path.{◌≡◌, refl, ap, ◌∙◌}
use mathlib.Core.List.{List}
use mathlib.Core.Logic.{inl, inr}
use native.Mathlib.Omega.{arith}
use lib.ListN.{length}
use Rattle.model.specs.declared.answer.Answer.{Answer}
use Rattle.model.specs.declared.answer.Answer.TheVariants as answer
use Rattle.model.specs.Answers.{number}
use Rattle.model.specs.Job.{Job}
use Rattle.model.specs.Ready.{Fit}
use Rattle.model.specs.ReadSheet.{Sheet, bad, plan, cannot, read_sheet}
use Rattle.model.specs.Promises.{Answers, Judged}
use Rattle.model.proofs.Contrary.{weak}
use Rattle.model.proofs.Floor.{path_known, spare_known, choke_test}
use Rattle.model.proofs.Written.{plan_read, cannot_read}
use Rattle.model.proofs.Read.{plan_back, cannot_back}

module _ (j : Job) (f : Fit j) where
  -- PLAN for a PLAN, CANNOT for a CANNOT
  pub agree : (r : ℕ) (b : List ℕ) → Answers j r b → (a : Answer) × (r ≡ number a + 256 * length b) × Judged j (read_sheet j b) (number a)
  agree r b (inl (ps, ss, h, e, g)) =
      let sv = h.0.served in
      let q : read_sheet j b ≡ plan ps ss = ap (read_sheet j) e ∙ plan_read j f ps ss sv.size h.0.size (λ p m. path_known j f p (sv.leads p m)) (λ s m. spare_known j f s (h.0.stay s m)) in
      (answer.Plan, g, rw q (inl (h, refl)))
  agree r b (inr (xs, h, e, g, n)) =
      let q : read_sheet j b ≡ cannot xs = ap (read_sheet j) e ∙ cannot_read j f xs h.0.few (λ x m. choke_test j x (h.0.known x m)) in
      (answer.Cannot, g, rw q (inl (h, refl)))

-- with the number of its bytes
pub agree_back : (j : Job) (b : List ℕ) (a : ℕ) → a < 2 → Judged j (read_sheet j b) a → Answers j (a + 256 * length b) b
agree_back j b a few h = go (read_sheet j b) refl h
  where
    go : (s : Sheet) → read_sheet j b ≡ s → Judged j s a → Answers j (a + 256 * length b) b
    go (bad l) q e = absurd (omega arith)
    go (plan ps ss) q (inl (h, e)) = inl (ps, ss, h, (plan_back j b ps ss q).text, ap (λ x. x + 256 * length b) e)
    go (plan ps ss) q (inr (h, e)) = absurd (omega arith)
    go (cannot xs) q (inl (h, e)) = inr (xs, h, (cannot_back j b xs q).0, ap (λ x. x + 256 * length b) e, λ ps ss p. weak j xs ps ss h.0 p)
    go (cannot xs) q (inr (h, e)) = absurd (omega arith)
