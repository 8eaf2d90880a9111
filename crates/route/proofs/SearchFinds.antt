-- How what is found one way is what is found another way, where that allows more or the rest is marked. Assumes nothing.
use Prim.Native.Nat.{ℕ, suc, ◌+◌, ◌-◌, ◌<◌, ◌≤◌}
use mathlib.Core.Path.{◌≡◌, sym, ◌∙◌, ap, subst}
use mathlib.Core.List.{List}
use mathlib.Core.Bool.{Bool, true}
use mathlib.Core.Logic.{◌⊎◌, inl, inr, ⊎_elim}
use native.Mathlib.Omega.{arith}
use native.Mathlib.Decide.{dec_lt}
use lib.ListN.{length, get_or}
use borrow.Author.Tests.{le-leb, lt-leb}
use Rattle.model.specs.Lists.{In}
use Rattle.model.specs.Job.{Job}
use Rattle.model.specs.Choke.{Point, point}
use Rattle.model.proofs.Lists.{in_get_or, in_place}
use Rattle.floor.specs.Tables.{Cells, Near, OpenAt, Shut, row_at}
use Rattle.floor.proofs.JobTables.{row_known}
use Rattle.network.specs.Graph.{top, Inside}
use Rattle.network.specs.declared.planes.Grid.{Grid}
use Rattle.network.proofs.StoreLaws.{is_in_use}
use Rattle.network.specs.declared.planes.Node.{Node}
use Rattle.network.specs.Holds.{Holds}
use Rattle.network.specs.Store.{as_point, place_at, used_at, used_test, leads_to}
use Rattle.network.proofs.Points.{point_step}
use Rattle.network.proofs.HoldsLaws.{leads_on, place_below}
use Rattle.std.specs.Prelude.{Option, None, Some}
use Rattle.route.specs.declared.search.Hop.{Hop}
use Rattle.route.specs.Finds.{Stands, Down, By, ByRow, BySteps, first_of, Stamped, Finds, Guesses, Tries, Aims}

module _ (P Q : Point → Point → Type 0) (M : Point → Type 0) (more : (y via : Point) → P y via → Q y via) where
  pub found_rest : ((y via : Point) → Q y via → P y via ⊎ M y) → (r : Option Hop) → Finds P M r → Finds Q M r
  found_rest rest None f = λ y via q. ⊎_elim (f y via) (λ m. m) (rest y via q)
  found_rest rest (Some h) f = (more (as_point h.node) (as_point h.via) f.0, f.1)

  pub found_guess : (r : Option Hop) → Finds P M r → Guesses Q M r
  found_guess None f = tt
  found_guess (Some h) f = (more (as_point h.node) (as_point h.via) f.0, f.1)

pub in_at : (l : List ℕ) {x : ℕ} (i : ℕ) → x ≡ get_or l i 0 → i < length l → In x l
in_at l i e h = rw e (in_get_or l i 0 h)

pub row-cells : {j : Job} {near begin shut row : List ℕ} → Near j near begin → Shut j shut → (c t : ℕ) → c < j.cells → row ≡ row_at near begin shut c t → Cells j.cells row
row-cells n o c t k e = rw e (λ x i. row_known n o c t x k i)

-- By way of the first i cells of the row all is marked.
abbrev pub RowMarked : Grid → List ℕ → List ℕ → List ℕ → ℕ → ℕ → ℕ → Type 0
RowMarked g s shut row t stamp i = (k : ℕ) → k < i → OpenAt shut (t + 1) (get_or row k 0) → Finds (By g s (point (get_or row k 0) t)) (Stamped g s stamp) None

module _ (g : Grid) (s shut row : List ℕ) (t stamp i : ℕ) (p : RowMarked g s shut row t stamp i) where
  pub row_more : (c : ℕ) → c ≡ get_or row i 0 → (OpenAt shut (t + 1) c → Finds (By g s (point c t)) (Stamped g s stamp) None) → RowMarked g s shut row t stamp (i + 1)
  row_more c e h k l = go (dec_lt k i)
    where
      go : Dec (k < i) → OpenAt shut (t + 1) (get_or row k 0) → Finds (By g s (point (get_or row k 0) t)) (Stamped g s stamp) None
      go (yes m) = p k m
      go (no m) = let q : i ≡ k = omega arith in rw q at (rw e at h)

  pub row_all : i ≡ length row → Finds (ByRow g s shut row t) (Stamped g s stamp) None
  row_all e y via (c, m, o, b) = let (k, l, f) = in_place c row 0 m in p k (omega arith) (rw f at o) y via (rw f at b)

-- By way of a node one gets to one position.
module _ (g : Grid) (s : List ℕ) {x y via : Point} where
  pub by_way : By g s x y via → via ≡ x
  by_way (inl b) = b.0
  by_way (inr b) = b.0

  pub by_one : By g s x y via → {z w : Point} → By g s x z w → z ≡ y
  by_one (inl b) (inl d) = d.2 ∙ sym b.2
  by_one (inl b) (inr d) = absurd (d.1 b.1)
  by_one (inr b) (inl d) = absurd (b.1 d.1)
  by_one (inr b) (inr d) = d.2 ∙ sym b.2

-- By way of the steps of the cell from t to before `past` all is marked.
abbrev pub StepsMarked : Grid → List ℕ → ℕ → ℕ → ℕ → ℕ → Type 0
StepsMarked g s c stamp t past = (y w : Point) → BySteps g s c t past y w → Stamped g s stamp y

module _ (g : Grid) (s : List ℕ) (c stamp t past : ℕ) (p : StepsMarked g s c stamp t past) where
  pub steps_more : (u : ℕ) → t ≡ suc u → Finds (By g s (point c u)) (Stamped g s stamp) None → StepsMarked g s c stamp u past
  steps_more u e h y w (k, l, m, b) = go (dec_lt u k)
    where
      go : Dec (u < k) → Stamped g s stamp y
      go (yes n) = p y w (k, omega arith, m, b)
      go (no n) = let q : k ≡ u = omega arith in h y w (rw q at b)

  pub steps_all : (first : ℕ) → t ≤ first → Tries g s c first past (Stamped g s stamp) None
  steps_all first l y w (k, n, m, b) = p y w (k, omega arith, m, b)

  pub steps_push : (first u : ℕ) (h : Hop) → t ≡ suc u → first ≤ u → t ≤ past → Finds (By g s (point c u)) (Stamped g s stamp) (Some h)
      → Tries g s c first past (Stamped g s stamp) (Some h)
  steps_push first u h e l n k = let q = point_step (by_way g s k.0) in ((u, l, omega arith, k.0), k.1, λ y w (i, a, b, d). p y w (i, omega arith, b, d))

-- The first step of a call's window, by its two tables.
module _ (due shut : List ℕ) (c : ℕ) where
  pub first_bay : get_or shut c 0 ≤ get_or due c 0 → first_of due shut c ≡ get_or due c 0 - 1
  first_bay l = rw (le-leb (get_or shut c 0) (get_or due c 0) l)

  pub first_lift : get_or due c 0 < get_or shut c 0 → first_of due shut c ≡ 0
  first_lift l = rw (lt-leb (get_or shut c 0) (get_or due c 0) l)

-- A node that is no call's.
pub no_call : {j : Job} {g : Grid} {s : List ℕ} {x : Point} → Holds j g s → Inside j x → (x.step ≡ g.top → ⊥) → Stands j g s x
no_call {j} {x = x} h k ne = let ne' : x.step ≡ top j → ⊥ = rw h.grid at ne in (h, (k.0, omega (arith, k.1)))

-- At a node, whose use is read at v, where it stands.
module _ {j : Job} {g : Grid} {s : List ℕ} {n : Node} (h : Stands j g s (as_point n)) {v : ℕ} {u : Bool} (ev : v ≡ place_at g (as_point n)) (eu : u ≡ used_test g s v) (used : u ≡ true) where
  taken : used_at g s (place_at g (as_point n)) ≡ 0 → ⊥
  taken e = is_in_use eu used (ap (used_at g s) ev ∙ e)

  low : n.step ≡ g.top → ⊥
  low e = let f : n.step ≡ top j = rw h.0.grid at e in omega (arith, h.1.1)

  -- Where it leads on has its place too.
  pub after_place : {y : Node} → as_point y ≡ leads_to g s (as_point n) → place_at g (as_point y) < g.nodes
  after_place ey = subst (λ (z : Point). place_at g z < g.nodes) (sym ey) (place_below h.0 (leads_on h.0 (h.1.0, omega (arith, h.1.1)) low taken).1)

  pub by_down : (r : Option Hop) (M : Point → Type 0) → Finds (Down g s (as_point n)) M r → Finds (By g s (as_point n)) M r
  by_down r M = found_rest (Down g s (as_point n)) (By g s (as_point n)) M (λ y via b. inr b) (λ y via q. ⊎_elim (λ b. absurd (taken b.1)) inl q) r

-- What is found by way of one step of a cell.
pub aims_found : (g : Grid) (s : List ℕ) (c first past ahead stamp : ℕ) (h : Hop) → Finds (By g s (point c ahead)) (Stamped g s stamp) (Some h)
    → first ≤ ahead → ahead < past → Aims g s c first past ahead (Stamped g s stamp) (Some h)
aims_found g s c first past ahead stamp h k a b = ((ahead, a, b, k.0), k.1, point_step (by_way g s k.0))
