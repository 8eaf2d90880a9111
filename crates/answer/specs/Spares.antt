-- Carts that no call gets, and the lines that they are given in the flow.
use Rattle.std.specs.Prelude.{ℕ, suc, ◌<◌, ◌≡◌, List, [], Bool, true, false, length, get_or}
use Rattle.model.specs.Lists.{In}
use Rattle.model.specs.Job.{Job, Call}
use Rattle.model.specs.Choke.{point}
use Rattle.job.specs.declared.held.Ride.{Ride}
use Rattle.job.specs.Held.{Some}
use Rattle.flow.specs.Flow.{off, end}
use Rattle.network.specs.declared.planes.Grid.{Grid}
use Rattle.network.specs.Graph.{node_of}
use Rattle.network.specs.Store.{place_in, with_next, with_prev}
use Rattle.network.specs.Links.{back_link, on_link}
use Rattle.network.specs.Holds.{Holds}
use Rattle.network.specs.Keeping.{KeepsAll}

-- The cart on the cell c at the step t goes on to c, and at the next step has come from there.
abbrev pub linked : Grid → List ℕ → ℕ → ℕ → List ℕ
linked g s c t = with_prev g (with_next g s (place_in g c t) c) (place_in g c (suc t)) c

-- A cart's line begins, or rather ends, on its cell at step 0: that node is used.
abbrev pub Started : Job → List ℕ → ℕ → Type 0
Started j s c = back_link j s (point c 0) ≡ off → ⊥

-- The cart on c has a line now, and those that had one have one still.
pub record StartsMore (j : Job) (s s' : List ℕ) (c : ℕ) : Type 0 where
  pub new : Started j s' c
  pub old : (d : ℕ) → Started j s d → Started j s' d

-- The flow serves every call; the list has the carts' cells.
pub record Unkept (j : Job) (carts : List ℕ) (grid : Grid) (s : List ℕ) : Type 0 where
  pub listed : j.carts ≡ carts
  pub holds : Holds j grid s
  pub full : (q : Call) → In q j.calls → on_link j s (node_of j q) ≡ end

-- It still does, and every cart has a line.
pub record AllKept (j : Job) (grid : Grid) (s : List ℕ) : Type 0 where
  pub keeps : KeepsAll j grid s
  pub all : (c : ℕ) → In c j.carts → Started j s c

-- the k-th ride, and its cart
abbrev pub ride_at : List Ride → ℕ → Ride
ride_at rides k = get_or rides k (record { cart = 0; call = 0; last = 0; cells = [] })

abbrev pub cart_at : List Ride → ℕ → ℕ
cart_at rides k = (ride_at rides k).cart

-- The table marks the paths' carts, and no others.
pub record CartsTaken (paths : List Ride) (table : List Bool) : Type 0 where
  pub marked : (k : ℕ) → k < length paths → get_or table (cart_at paths k) false ≡ true
  pub only : (c : ℕ) → get_or table c false ≡ true → Some (length paths) (λ k. cart_at paths k ≡ c)
