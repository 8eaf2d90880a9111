-- What holds of a job that was read: all that the layers above the reader rely on.
use Rattle.std.specs.Prelude.{ℕ, ◌≤◌, ◌<◌, ◌≡◌, map, ◌⊎◌, length}
use Rattle.model.specs.Limits.{max_cells, max_tracks, max_carts, max_calls, max_steps}
use Rattle.model.specs.Lists.{In, NoDup}
use Rattle.model.specs.Job.{Job, Track, Call, track_of}

-- the two tracks join the same cells, either way round
abbrev pub SameEnds : Track → Track → Type 0
SameEnds s t = ((s.from ≡ t.from) × (s.to ≡ t.to)) ⊎ ((s.from ≡ t.to) × (s.to ≡ t.from))

-- of the lines read so far
pub record Fit (j : Job) : Type 0 where
  pub few_cells : j.cells ≤ max_cells
  pub few_tracks : length j.tracks ≤ max_tracks
  pub few_carts : length j.carts ≤ max_carts
  pub few_calls : length j.calls ≤ max_calls
  pub known_tracks : (t : Track) → In t j.tracks → (t.from < j.cells) × (t.to < j.cells)
  pub known_carts : (c : ℕ) → In c j.carts → c < j.cells
  pub known_calls : (q : Call) → In q j.calls → (q.cell < j.cells) × (q.deadline < max_steps)
  pub no_loop : (t : Track) → In t j.tracks → t.from ≡ t.to → ⊥
  pub own_tracks : (i k : ℕ) → i < k → k < length j.tracks → SameEnds (track_of j i) (track_of j k) → ⊥
  pub own_cells : NoDup j.carts
  pub own_targets : NoDup (map (λ q. q.cell) j.calls)

-- of a whole job
pub record Ready (j : Job) : Type 0 where
  pub fit : Fit j
  pub has_cells : 0 < j.cells
  pub enough : length j.calls ≤ length j.carts
