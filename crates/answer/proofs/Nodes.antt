-- What the bytes of a node say, read by the grid that the code has: whether it is used or marked, and where its cart came from, or where it is met if it is a call.
-- Assumes nothing.
use Prim.Native.Nat.{ℕ, ◌-◌}
use mathlib.Core.Path.{◌≡◌}
use mathlib.Core.List.{List}
use mathlib.Core.Bool.{Bool, cond}
use lib.Dec.{eqb}
use borrow.Author.Tests.{eq-eqb, ne_eqb}
use Rattle.model.specs.Job.{Job}
use Rattle.model.specs.Choke.{Point, point}
use Rattle.model.proofs.Basics.{and_second}
use Rattle.flow.specs.Flow.{off, to}
use Rattle.network.specs.declared.planes.Grid.{Grid}
use Rattle.network.specs.Graph.{Inside}
use Rattle.network.specs.Store.{place_at, used_at, mark_at, prev_at, came_from, grid_of, idx, inside, is_used, is_marked}
use Rattle.network.specs.Links.{back_link}
use Rattle.network.proofs.NodeBytes.{link_off, link_to, link_of, used, unused, inside_test}

-- The code has in locals where the node stands and what its byte says.
module _ (g : Grid) (s : List ℕ) (x : Point) {v a : ℕ} (here : v ≡ place_at g x) (told : a ≡ prev_at g s v) where
  by : {b : Bool} → eqb x.step g.top ≡ b → came_from g s x ≡ cond b (point x.cell a) (point a (x.step - 1))
  by e = rw (e, told, here)

  pub came_call : x.step ≡ g.top → came_from g s x ≡ point x.cell a
  came_call e = by (eq-eqb x.step g.top e)

  pub came_step : (x.step ≡ g.top → ⊥) → came_from g s x ≡ point a (x.step - 1)
  came_step ne = by (ne_eqb x.step g.top ne)

module _ (j : Job) {g : Grid} (known : g ≡ grid_of j) (s : List ℕ) (x : Point) where
  pub mark_is : (stamp : ℕ) → Inside j x → is_marked j s stamp x ≡ eqb (mark_at g s (place_at g x)) stamp
  mark_is stamp k = rw known (and_second (inside j x) (eqb (mark_at (grid_of j) s (idx j x)) stamp) (inside_test j x k))

  pub back_off : used_at g s (place_at g x) ≡ 0 → back_link j s x ≡ off
  back_off e = link_off (is_used j s x) _ (unused j s x (rw known at e))

  pub back_to : Inside j x → (used_at g s (place_at g x) ≡ 0 → ⊥) → (x.step ≡ 0 → ⊥) → back_link j s x ≡ to (came_from g s x)
  back_to k u later = rw known (link_to (is_used j s x) (eqb x.step 0) _ (used j s x k (λ e. u (rw known e))) (ne_eqb x.step 0 later))

  pub back_of : {y : Point} → back_link j s x ≡ to y → came_from g s x ≡ y
  back_of e = rw known (link_of (is_used j s x) (eqb x.step 0) _ _ e).2
