-- Lists of known cells: one more of them, and a row. Assumes nothing.
use Prim.Native.Nat.{ℕ, ◌<◌, ◌≤◌}
use mathlib.Core.Path.{◌≡◌}
use mathlib.Core.List.{List, [], ◌∷◌, ◌++◌}
use mathlib.Core.Logic.{inl, inr}
use lib.ListN.{length}
use Rattle.model.specs.Limits.{max_cells}
use Rattle.floor.specs.Tables.{Cells, Rows, row_of}

pub cells_more : (n : ℕ) (l : List ℕ) (b : ℕ) → Cells n l → b < n → Cells n (l ++ (b ∷ []))
cells_more n [] b h k x (inl e) = rw e k
cells_more n [] b h k x (inr m) = elim m [ ]
cells_more n (a ∷ l) b h k x (inl e) = h x (inl e)
cells_more n (a ∷ l) b h k x (inr m) = cells_more n l b (λ y i. h y (inr i)) k x m

-- A row has known cells, and no more than there can be.
pub row_cells : {n c : ℕ} {near begin row : List ℕ} → Rows n near begin → c < n → row ≡ row_of near begin c → Cells n row × (length row ≤ max_cells)
row_cells {c = c} r h e = rw e (λ x i. r.known c x h i, r.few c h)
