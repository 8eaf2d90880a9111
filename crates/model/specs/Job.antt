-- A job: a floor, and the carts and calls on it. Cells, tracks, carts and calls are numbered from 0.
use Rattle.std.specs.Prelude.{ℕ, ◌+◌, ◌*◌, max, List, [], ◌∷◌, length, get_or}

-- the two cells that a track joins, in the order of its line
pub record Track : Type 0 where
  pub from : ℕ
  pub to : ℕ

-- At a lift a cart leaves the floor, in a bay it parks for the rest of the job.
pub data CallKind : Type 0 where
  lift bay : CallKind

-- a lift or bay cell, and the step by which a lift takes the call's cart there, or at which it parks in the bay
pub record Call : Type 0 where
  pub kind : CallKind
  pub cell : ℕ
  pub deadline : ℕ

pub record Job : Type 0 where
  pub cells : ℕ
  pub tracks : List Track
  -- the cell of each cart at step 0
  pub carts : List ℕ
  pub calls : List Call

abbrev pub track : ℕ → ℕ → Track
track u v = record { from = u; to = v }

abbrev pub call : CallKind → ℕ → ℕ → Call
call k v t = record { kind = k; cell = v; deadline = t }

abbrev pub track_of : Job → ℕ → Track
track_of j k = get_or j.tracks k (track 0 0)

abbrev pub cart_cell : Job → ℕ → ℕ
cart_cell j k = get_or j.carts k 0

abbrev pub call_of : Job → ℕ → Call
call_of j k = get_or j.calls k (call lift 0 0)

-- H: the largest deadline, a bay's step among them; 0 if there are no calls
abbrev pub latest : List Call → ℕ
latest [] = 0
latest (q ∷ qs) = max q.deadline (latest qs)

abbrev pub horizon : Job → ℕ
horizon j = latest j.calls

-- the least lengths of the lent buffers
abbrev pub store_least : Job → ℕ
store_least j = (horizon j + 1) * 32 * (j.cells + 2 * length j.tracks) + 4096

abbrev pub sheet_least : Job → ℕ
sheet_least j = length j.carts * (4 * (horizon j + 1) + 16) + 64
