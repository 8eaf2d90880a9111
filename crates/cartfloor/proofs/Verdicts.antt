-- What both calls know of a job that is let through: it is ready, and the store is long enough for it. Assumes nothing.
use Prim.Native.Nat.{ℕ, ◌≤◌}
use mathlib.Core.Path.{◌≡◌, refl, sym, subst}
use mathlib.Core.List.{List}
use mathlib.Core.Bool.{Bool, true, false, cond}
use lib.Dec.{ltb}
use borrow.Author.Tests.{ltb-false}
use Rattle.model.specs.declared.answer.Answer.TheVariants.{StoreTooShort}
use Rattle.model.specs.Job.{Job, store_least}
use Rattle.model.specs.ReadJob.{Verdict, refused, accepted, read_job}
use Rattle.model.specs.Ready.{Ready}
use Rattle.model.specs.Promises.{with_store, check_verdict}
use Rattle.model.proofs.Basics.{nope}
use Rattle.model.proofs.Ready.{read_ready}

passed : (n : ℕ) (v : Verdict Job) (j : Job) → with_store n v ≡ accepted j → (v ≡ accepted j) × (store_least j ≤ n)
passed n (refused a l) j e = nope (cc)
passed n (accepted i) j e = go (ltb n (store_least i)) refl e
  where
    go : (t : Bool) → ltb n (store_least i) ≡ t → cond t (refused StoreTooShort 0) (accepted i) ≡ accepted j → (accepted i ≡ accepted j) × (store_least j ≤ n)
    go true q e = nope (cc)
    go false q e = let same : i ≡ j = cc in (e, subst (λ i. store_least i ≤ n) same (ltb-false _ _ q))

module _ (text : List ℕ) (n : ℕ) (j : Job) (e : accepted j ≡ check_verdict text n) where
  pub ready : Ready j
  ready = read_ready text j (passed n (read_job text) j (sym e)).0

  pub stored : store_least j ≤ n
  stored = (passed n (read_job text) j (sym e)).1
