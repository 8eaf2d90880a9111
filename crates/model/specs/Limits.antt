-- The limits of a job and of a map. `Limits` of src/lib.rt has the same numbers, and guards there hold the two together.
use Rattle.std.specs.Prelude.{ℕ}

abbrev pub max_cells : ℕ
max_cells = 256

abbrev pub max_tracks : ℕ
max_tracks = 512

abbrev pub max_carts : ℕ
max_carts = 64

abbrev pub max_calls : ℕ
max_calls = 64

-- the steps from 0 on: a deadline is below this
abbrev pub max_steps : ℕ
max_steps = 256

-- rows of a map, and letters of a row
abbrev pub max_side : ℕ
max_side = 64

-- bytes of a job text
abbrev pub max_text : ℕ
max_text = 16384
