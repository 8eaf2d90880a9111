-- The table of what stands in a job already: a bit for each two cells, either way round, then a row of cells for the carts and one for the calls
-- and bays.
use Rattle.std.specs.Prelude.{ℕ, ◌+◌, ◌*◌, ◌<◌, ◌≡◌, List, length, map, ◌||◌}
use Rattle.model.specs.Limits.{max_cells}
use Rattle.model.specs.Job as model
use Rattle.model.specs.ReadJob.{leads, member}
use Rattle.job.specs.Bits.{bit_at, pairs_below, pair_at}

abbrev pub cart_row : ℕ
cart_row = pairs_below max_cells

abbrev pub call_row : ℕ
call_row = cart_row + max_cells

abbrev pub table_size : ℕ
table_size = call_row + max_cells

-- The table has all its bits, and says which cells a track joins, and which cells have a cart, and which a call or bay.
pub record Noted (seen : List ℕ) (j : model.Job) : Type 0 where
  pub size : 8 * length seen ≡ table_size
  pub tracks : (a b : ℕ) → a < max_cells → b < max_cells → bit_at seen (pair_at a b) ≡ (leads a b j.tracks || leads b a j.tracks)
  pub carts : (a : ℕ) → a < max_cells → bit_at seen (cart_row + a) ≡ member a j.carts
  pub calls : (a : ℕ) → a < max_cells → bit_at seen (call_row + a) ≡ member a (map (λ q. q.cell) j.calls)
