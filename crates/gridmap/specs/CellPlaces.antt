-- Where the cells of a map stand, and the tracks that are found from that.
use Rattle.std.specs.Prelude.{ℕ, suc, ◌+◌, ◌*◌, ◌≤◌, ◌<◌, ◌≡◌, List, [], ◌∷◌, ◌++◌, map, length, Bool, true, cond, Option, Some, None, get_or}
use Rattle.model.specs.Limits.{max_cells, max_tracks, max_side}
use Rattle.model.specs.Job.{Track, track}
use Rattle.model.specs.GridMap.{cell_at, map_cells, cell_number, tracks_of}
use Rattle.job.specs.declared.state.Track as held
use Rattle.job.specs.Lists.{as_track}

-- The places of the largest map: its letters, and a line feed behind each row.
abbrev pub max_places : ℕ
max_places = max_side * (max_side + 1)

-- In rows of w letters, the cell in row r and column c stands at the place r * (w + 1) + c, noted under its number, if a floor can have that number.
abbrev pub CellsPlaced : List (List ℕ) → ℕ → List ℕ → Type 0
CellsPlaced m w places = (r c : ℕ) → cell_at m r c ≡ true → cell_number m r c < max_cells → (c < w) × (get_or places (cell_number m r c) 0 ≡ r * suc w + c)

-- i is the first from j on, below n, whose place is not before the place p; or it is n.
pub record PlaceReached (places : List ℕ) (j n p i : ℕ) : Type 0 where
  pub low : j ≤ i
  pub high : i ≤ n
  pub before : (k : ℕ) → j ≤ k → k < i → get_or places k 0 < p
  pub there : i < n → p ≤ get_or places i 0

abbrev pub track_if : Bool → ℕ → ℕ → List Track
track_if there a b = cond there (track a b ∷ []) []

-- the track from a to b, if there is a b
abbrev pub track_by : ℕ → Option ℕ → List Track
track_by a None = []
track_by a (Some b) = track a b ∷ []

-- What is held is followed by these tracks, which are n at most.
pub record TracksNoted (n : ℕ) (ts : List Track) (held held' : List held.Track) : Type 0 where
  pub tracks : map as_track held' ≡ map as_track held ++ ts
  pub few : length held' ≤ length held + n

-- The tracks are those of any map with as many cells as there are places, at these.
pub record TracksFound (places : List ℕ) (stride : ℕ) (held : List held.Track) : Type 0 where
  pub tracks : (m : List (List ℕ)) (w : ℕ) → stride ≡ suc w → length places ≡ map_cells m → CellsPlaced m w places → map as_track held ≡ tracks_of m
  pub few : length held ≤ max_tracks
