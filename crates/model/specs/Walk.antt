-- A walk is the list of its cells, from step 0 on.
use Rattle.std.specs.Prelude.{ℕ, suc, ◌<◌, ◌≤◌, ◌≡◌, List, ◌⊎◌, length, get_or}
use Rattle.model.specs.Lists.{In}
use Rattle.model.specs.Job.{Job, Call, CallKind, lift, bay, track}

-- A track joins its cells both ways.
abbrev pub Arc : Job → ℕ → ℕ → Type 0
Arc j u v = In (track u v) j.tracks ⊎ In (track v u) j.tracks

-- The cell v is open at the step t: no bay on it has an earlier step.
abbrev pub Open : Job → ℕ → ℕ → Type 0
Open j t v = (q : Call) → In q j.calls → q.kind ≡ bay → q.cell ≡ v → t ≤ q.deadline

-- In a step a cart stands, or goes along one track.
abbrev pub Move : Job → ℕ → ℕ → Type 0
Move j u v = (u ≡ v) ⊎ Arc j u v

-- It does so from the step t to the next, and the cell that it comes to is open then.
abbrev pub Step : Job → ℕ → ℕ → ℕ → Type 0
Step j t u v = Move j u v × Open j (suc t) v

-- The walk w has the step t, and is on the cell v then.
abbrev pub At : List ℕ → ℕ → ℕ → Type 0
At w t v = (t < length w) × (get_or w t 0 ≡ v)

-- The walk w starts on the cell c.
pub record Walk (j : Job) (c : ℕ) (w : List ℕ) : Type 0 where
  pub starts : At w 0 c
  pub steps : (t : ℕ) → suc t < length w → Step j t (get_or w t 0) (get_or w (suc t) 0)

-- A call of this kind and deadline is met at the step t: one at a lift at any step up to its deadline, one in a bay at its own step alone.
abbrev pub InTime : CallKind → ℕ → ℕ → Type 0
InTime lift d t = t ≤ d
InTime bay d t = t ≡ d

-- The walk w ends on the call's cell, at a step at which the call is met. To be there at another step is to cross the cell.
pub record Serves (w : List ℕ) (q : Call) : Type 0 where
  pub last : ℕ
  pub size : length w ≡ suc last
  pub in_time : InTime q.kind q.deadline last
  pub ends : get_or w last 0 ≡ q.cell
