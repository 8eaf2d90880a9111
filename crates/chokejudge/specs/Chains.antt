-- Numbers in chains: from the last of each chain to the one before it.
use Rattle.std.specs.Prelude.{ℕ, ◌<◌, ◌≡◌, List, Option, None, Some, length, get_or}
use Rattle.model.specs.Limits.{max_calls, max_steps}
use Rattle.job.specs.declared.state.Call.{Call}
use Rattle.floor.specs.Made.{never}
use Rattle.chokejudge.specs.declared.calls.Chains.{Chains}
use Rattle.chokejudge.specs.ChokeLayers.{BayAt}

-- The last of the first n that P holds of, if there is one.
abbrev pub LastOf : (ℕ → Type 0) → ℕ → Option ℕ → Type 0
LastOf P n None = (k : ℕ) → k < n → P k → ⊥
LastOf P n (Some h) = (h < n) × P h × ((k : ℕ) → h < k → k < n → P k → ⊥)

-- The first n numbers in the chains 0, .., m - 1, where P t holds of those in chain t.
pub record Linked (P : ℕ → ℕ → Type 0) (m n : ℕ) (latest before : List (Option ℕ)) : Type 0 where
  pub last : (t : ℕ) → t < m → LastOf (P t) n (get_or latest t None)
  pub back : (t k : ℕ) → k < n → P t k → LastOf (P t) k (get_or before k None)

-- The bays of the first n calls, by their steps.
abbrev pub Chained : List Call → ℕ → Chains → Type 0
Chained calls n c = Linked (BayAt calls) max_steps n c.latest c.before

-- Number k is in the chain of its key; with a key past all steps it is in none.
abbrev pub HasKey : (ℕ → ℕ) → ℕ → ℕ → Type 0
HasKey key t k = (key k ≡ t) × (t < never)

-- The first n numbers, by any key.
pub record Keyed (key : ℕ → ℕ) (n : ℕ) (latest before : List (Option ℕ)) : Type 0 where
  pub steps : length latest ≡ never
  pub calls : length before ≡ max_calls
  pub linked : Linked (HasKey key) never n latest before
