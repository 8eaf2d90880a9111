-- What the search's inner functions find in the store: where a position leads.
use Rattle.std.specs.Prelude.{ℕ, ◌+◌, ◌-◌, ◌<◌, ◌≤◌, min, ◌≡◌, List, Option, None, Some, cond, ◌⊎◌, leb, get_or}
use Rattle.model.specs.Lists.{In}
use Rattle.model.specs.Job.{Job}
use Rattle.model.specs.Choke.{Point, point, Known}
use Rattle.floor.specs.Tables.{OpenAt, row_at}
use Rattle.floor.specs.declared.tables.Tables as floor
use Rattle.network.specs.Store.{place_at, as_point, used_at, mark_at, leads_to}
use Rattle.network.specs.Holds.{Holds}
use Rattle.network.specs.declared.planes.Grid.{Grid}
use Rattle.route.specs.declared.search.Hop.{Hop}

-- x is a cell at a step, of the job whose flow the store holds.
abbrev pub Stands : Job → Grid → List ℕ → Point → Type 0
Stands j g s x = Holds j g s × Known j x

-- The node x is used, and y its successor.
abbrev pub Down : Grid → List ℕ → Point → Point → Point → Type 0
Down g s x y via = (via ≡ x) × (used_at g s (place_at g x) ≡ 0 → ⊥) × (y ≡ leads_to g s x)

-- By way of the node x one gets to y: to x itself where it is unused, else to its successor.
abbrev pub By : Grid → List ℕ → Point → Point → Point → Type 0
By g s x y via = ((via ≡ x) × (used_at g s (place_at g x) ≡ 0) × (y ≡ x)) ⊎ Down g s x y via

-- The same, by way of a cell of the row at the step t that is open at the next.
abbrev pub ByRow : Grid → List ℕ → List ℕ → List ℕ → ℕ → Point → Point → Type 0
ByRow g s shut row t y via = (c : ℕ) × In c row × OpenAt shut (t + 1) c × By g s (point c t) y via

-- From the node x, with the row of its cell, one gets to y.
abbrev pub FromNode : Grid → List ℕ → List ℕ → List ℕ → Point → Point → Point → Type 0
FromNode g s shut row x y via = ((0 < x.step) × ByRow g s shut row (x.step - 1) y via) ⊎ Down g s x y via

-- By way of the cell c at a step from `first` to before `past`.
abbrev pub BySteps : Grid → List ℕ → ℕ → ℕ → ℕ → Point → Point → Type 0
BySteps g s c first past y via = (t : ℕ) × (first ≤ t) × (t < past) × By g s (point c t) y via

-- the first step at which the call on c can be met: a bay's own, which closes its cell
abbrev pub first_of : List ℕ → List ℕ → ℕ → ℕ
first_of due shut c = cond (leb (get_or shut c 0) (get_or due c 0)) (get_or due c 0 - 1) 0

-- From the call on c one gets to y.
abbrev pub FromCall : Grid → List ℕ → List ℕ → List ℕ → ℕ → Point → Point → Type 0
FromCall g s due shut c y via = BySteps g s c (first_of due shut c) (get_or due c 0) y via

-- From the position x, a call or a node.
abbrev pub From : Grid → List ℕ → List ℕ → List ℕ → List ℕ → List ℕ → Point → Point → Point → Type 0
From g s near begin due shut x y via =
    ((x.step ≡ g.top) × FromCall g s due shut x.cell y via) ⊎ ((x.step ≡ g.top → ⊥) × FromNode g s shut (row_at near begin shut x.cell x.step) x y via)

abbrev pub Stamped : Grid → List ℕ → ℕ → Point → Type 0
Stamped g s stamp x = mark_at g s (place_at g x) ≡ stamp

-- What is found is one of the positions that P allows and that is not marked; none, if all of them are.
abbrev pub Finds : (Point → Point → Type 0) → (Point → Type 0) → Option Hop → Type 0
Finds P M None = (x via : Point) → P x via → M x
Finds P M (Some h) = P (as_point h.node) (as_point h.via) × (M (as_point h.node) → ⊥)

-- What is found, if it is a position, is one that P allows and that is not marked.
abbrev pub Guesses : (Point → Point → Type 0) → (Point → Type 0) → Option Hop → Type 0
Guesses P M None = Unit {0}
Guesses P M (Some h) = P (as_point h.node) (as_point h.via) × (M (as_point h.node) → ⊥)

-- The steps of the cell c from `first` to before `past` are tried from the latest down: what is found is by way of one of them, and by way of all later ones all is marked.
abbrev pub Tries : Grid → List ℕ → ℕ → ℕ → ℕ → (Point → Type 0) → Option Hop → Type 0
Tries g s c first past M None = (x via : Point) → BySteps g s c first past x via → M x
Tries g s c first past M (Some h) =
    BySteps g s c first past (as_point h.node) (as_point h.via) × (M (as_point h.node) → ⊥) × ((x w : Point) → BySteps g s c (h.via.step + 1) past x w → M x)

-- What is found is by way of the step `ahead`, one of these.
abbrev pub Aims : Grid → List ℕ → ℕ → ℕ → ℕ → ℕ → (Point → Type 0) → Option Hop → Type 0
Aims g s c first past ahead M None = ⊥
Aims g s c first past ahead M (Some h) = BySteps g s c first past (as_point h.node) (as_point h.via) × (M (as_point h.node) → ⊥) × (h.via.step ≡ ahead)

-- What is found from a call: by way of the step `ahead`, which is tried first, or else of those below `below` from the latest down.
abbrev pub CallTries : Grid → List ℕ → List ℕ → List ℕ → ℕ → ℕ → ℕ → (Point → Type 0) → Option Hop → Type 0
CallTries g s due shut c below ahead M r =
    Tries g s c (first_of due shut c) (min (get_or due c 0) below) M r ⊎ Aims g s c (first_of due shut c) (min (get_or due c 0) below) ahead M r

-- What is found from the position x.
pub record Sees (g : Grid) (s : List ℕ) (T : floor.Tables) (x : Point) (below ahead stamp : ℕ) (r : Option Hop) : Type 0 where
  pub call : x.step ≡ g.top → CallTries g s T.due T.shut x.cell below ahead (Stamped g s stamp) r
  pub node : (x.step ≡ g.top → ⊥) → Finds (FromNode g s T.shut (row_at T.near.near T.near.begin T.shut x.cell x.step) x) (Stamped g s stamp) r
