-- Tables of the floor: the cells that one step leads from, the deadlines of the calls' cells, when bays close, the carts' cells.
use Rattle.std.specs.Prelude.{ℕ, ◌+◌, ◌-◌, ◌*◌, ◌<◌, ◌≤◌, ◌≡◌, List, [], cond, ltb, ◌↔◌, length, get_or, take, drop}
use Rattle.model.specs.Limits.{max_cells, max_tracks, max_steps}
use Rattle.model.specs.Lists.{In}
use Rattle.model.specs.Job.{Job, CallKind, call}
use Rattle.model.specs.Walk.{Open, Move}

-- as many entries as all rows can have: each cell, and both ends of each track
abbrev pub near_size : ℕ
near_size = max_cells + 2 * max_tracks

-- row c of `near`: from where it begins to where the next does
abbrev pub row_of : List ℕ → List ℕ → ℕ → List ℕ
row_of near begin c = take (get_or begin (c + 1) 0 - get_or begin c 0) (drop (get_or begin c 0) near)

-- The row has cells below n.
abbrev pub Cells : ℕ → List ℕ → Type 0
Cells n row = (x : ℕ) → In x row → x < n

-- The rows of the first n cells can be read: each is a part of the table, no longer than there can be cells, and its cells are below n.
pub record Rows (n : ℕ) (near begin : List ℕ) : Type 0 where
  pub size : length near ≡ near_size
  pub begins : length begin ≡ max_cells + 1
  pub climbs : (c : ℕ) → c < n → get_or begin c 0 ≤ get_or begin (c + 1) 0
  pub fits : (c : ℕ) → c < n → get_or begin (c + 1) 0 ≤ near_size
  pub few : (c : ℕ) → c < n → length (row_of near begin c) ≤ max_cells
  pub known : (c x : ℕ) → c < n → In x (row_of near begin c) → x < n

-- Row c has c itself and the cells that a track joins to c, and no others.
pub record Near (j : Job) (near begin : List ℕ) : Type 0 where
  pub rows : Rows j.cells near begin
  pub only : (c x : ℕ) → c < j.cells → In x (row_of near begin c) → Move j x c
  pub all : (c x : ℕ) → c < j.cells → Move j x c → In x (row_of near begin c)

-- Entry c of `due` is one more than the deadline of the call on c, or 0.
pub record Due (j : Job) (due : List ℕ) : Type 0 where
  pub size : length due ≡ max_cells
  pub targets : (c t : ℕ) → c < j.cells → (get_or due c 0 ≡ t + 1) ↔ ((k : CallKind) × In (call k c t) j.calls)

-- Entry c of `shut` is the first step at which c is closed, or one past all steps: by it, c is open at the step t.
abbrev pub OpenAt : List ℕ → ℕ → ℕ → Type 0
OpenAt shut t c = t < get_or shut c 0

pub record Shut (j : Job) (shut : List ℕ) : Type 0 where
  pub size : length shut ≡ max_cells
  pub opens : (c t : ℕ) → c < max_cells → t ≤ max_steps → OpenAt shut t c ↔ Open j t c

-- row c at the step t: none where c is closed then
abbrev pub row_at : List ℕ → List ℕ → List ℕ → ℕ → ℕ → List ℕ
row_at near begin shut c t = cond (ltb t (get_or shut c 0)) (row_of near begin c) []

-- Entry c of `cart_on` is one more than the number of the cart that starts on c, or 0.
pub record CartOn (j : Job) (cart_on : List ℕ) : Type 0 where
  pub size : length cart_on ≡ max_cells
  pub cart : (c : ℕ) → c < j.cells → 0 < get_or cart_on c 0 → (get_or cart_on c 0 - 1 < length j.carts) × (get_or j.carts (get_or cart_on c 0 - 1) 0 ≡ c)
  pub has_cart : (c : ℕ) → In c j.carts → 0 < get_or cart_on c 0

-- What the tables say.
pub record Tables (j : Job) (near begin due shut cart_on : List ℕ) : Type 0 where
  pub sides : Near j near begin
  pub dues : Due j due
  pub shuts : Shut j shut
  pub carts : CartOn j cart_on
