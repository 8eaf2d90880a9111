-- A plan gives each call a cart of its own, and each cart a walk: to its call, or, if no call gets it, to the step H.
use Rattle.std.specs.Prelude.{ℕ, suc, ◌+◌, ◌<◌, ◌≡◌, List, ◌++◌, map, length}
use Rattle.model.specs.Lists.{In, NoDup, Rising, Lex}
use Rattle.model.specs.Job.{Job, Call, cart_cell, call_of, horizon}
use Rattle.model.specs.Walk.{At, Walk, Serves}

-- the numbers of a cart and a call, and the cells from step 0 to the one at which the cart is lifted or parked
pub record Path : Type 0 where
  pub cart : ℕ
  pub call : ℕ
  pub cells : List ℕ

-- the number of a cart, and the cells that it is on from step 0 to its last; all that matters of a path to the other carts, and all there is of a spare cart
pub record Ride : Type 0 where
  pub cart : ℕ
  pub cells : List ℕ

abbrev pub ride_of : Path → Ride
ride_of p = record { cart = p.cart; cells = p.cells }

-- The path leads its cart to its call.
pub record Leads (j : Job) (p : Path) : Type 0 where
  pub known_cart : p.cart < length j.carts
  pub known_call : p.call < length j.calls
  pub walks : Walk j (cart_cell j p.cart) p.cells
  pub serves : Serves p.cells (call_of j p.call)

-- A spare cart stays on the floor: it walks to the step H, and ends on any cell.
pub record StaysOn (j : Job) (s : Ride) : Type 0 where
  pub known_cart : s.cart < length j.carts
  pub walks : Walk j (cart_cell j s.cart) s.cells
  pub size : length s.cells ≡ suc (horizon j)

-- The cart that walks w is on the cell v at the step t. It is on the floor up to the end of its walk, that step included; one that meets a call is lifted or parked from the next.
abbrev pub OnFloor : List ℕ → ℕ → ℕ → Type 0
OnFloor w t v = At w t v

-- Both are on one cell at the step t.
abbrev pub Share : List ℕ → List ℕ → ℕ → Type 0
Share w x t = (v : ℕ) × OnFloor w t v × OnFloor x t v

-- Between the step t and the next, one goes from u to v and the other from v to u.
abbrev pub Trade : List ℕ → List ℕ → ℕ → Type 0
Trade w x t = (u v : ℕ) × OnFloor w t u × OnFloor w (suc t) v × OnFloor x t v × OnFloor x (suc t) u

-- No two carts share a cell, and no two trade the ends of a track.
abbrev pub NoShare : List Ride → Type 0
NoShare rs = (r s : Ride) → In r rs → In s rs → (t : ℕ) → Share r.cells s.cells t → r.cart ≡ s.cart

abbrev pub NoTrade : List Ride → Type 0
NoTrade rs = (r s : Ride) → In r rs → In s rs → (t : ℕ) → Trade r.cells s.cells t → r.cart ≡ s.cart

-- No cart has two rides, and no two carts are in each other's way.
pub record Apart (rs : List Ride) : Type 0 where
  pub own_cart : NoDup (map (λ r. r.cart) rs)
  pub no_share : NoShare rs
  pub no_trade : NoTrade rs

-- Each call, lift or bay, has one of the paths.
pub record CallsServed (j : Job) (ps : List Path) : Type 0 where
  pub size : length ps ≡ length j.calls
  pub leads : (p : Path) → In p ps → Leads j p
  pub own_call : NoDup (map (λ p. p.call) ps)

-- A plan: the paths ps serve the calls, and each cart without a path has one of the walks ss.
pub record Plan (j : Job) (ps : List Path) (ss : List Ride) : Type 0 where
  pub served : CallsServed j ps
  pub stay : (s : Ride) → In s ss → StaysOn j s
  pub size : length ps + length ss ≡ length j.carts
  pub apart : Apart (map ride_of ps ++ ss)

-- The order of calls and of the lines of a plan: by deadline, equal deadlines by cell. A cell has one call at most.
abbrev pub Sooner : Call → Call → Type 0
Sooner p q = Lex p.deadline p.cell q.deadline q.cell

abbrev pub Before : Job → Path → Path → Type 0
Before j p q = Sooner (call_of j p.call) (call_of j q.call)

abbrev pub PlanInOrder : Job → List Path → Type 0
PlanInOrder j ps = Rising (Before j) ps

-- The order of the spare carts: by number.
abbrev pub SparesInOrder : List Ride → Type 0
SparesInOrder ss = Rising (λ r s. r.cart < s.cart) ss
