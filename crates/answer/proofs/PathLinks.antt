-- Where a cart comes from by the bytes is where it does by the links of the flow in which no two carts trade: the bytes of the two nodes say whether their carts would.
-- A call takes no part in trades, since it is met on its own cell. Assumes nothing.
use Prim.Native.Nat.{ℕ, ◌-◌, ◌<◌}
use mathlib.Core.Path.{◌≡◌, refl, sym, ◌∙◌, ap}
use mathlib.Core.List.{List}
use mathlib.Core.Bool.{Bool, true, false}
use native.Mathlib.Omega.{arith}
use Rattle.model.specs.Job.{Job}
use Rattle.model.specs.Choke.{Point, point}
use Rattle.flow.specs.Flow.{Link, off, to}
use Rattle.network.specs.declared.planes.Grid.{Grid}
use Rattle.network.specs.Graph.{top, Inside}
use Rattle.network.specs.Store.{place_at, used_at, prev_at, came_from, is_used}
use Rattle.network.specs.Links.{back_link}
use Rattle.network.specs.Keeping.{KeepsAll}
use Rattle.network.specs.Stand.{other_by, stood_back}
use Rattle.network.proofs.NodeBytes.{link_off, used_byte, used_known}
use Rattle.network.proofs.Points.{point_cell, point_eq, to_eq}
use Rattle.network.proofs.ChokeTargets.{edge_earlier}
use Rattle.network.proofs.Calm.{Meets, trades, passes, meets}
use Rattle.answer.specs.Trail.{back_from, HasCart, CameFrom}
use Rattle.answer.proofs.Nodes.{came_call, came_step, back_to}

-- The cart on v came from u. It stood if the other one came from v's cell, and else it went.
module _ (back : Point → Link Point) (v u : Point) (e : back v ≡ to u) where
  abbrev pub Comes : Type 0
  Comes = back (point u.cell v.step) ≡ to (point v.cell u.step)

  pub stood : Comes → stood_back back v ≡ to (point v.cell u.step)
  stood f = go (meets back v)
    where
      go : Meets back v → stood_back back v ≡ to (point v.cell u.step)
      go (trades w (g, h) q) = ap back (q ∙ point_eq (point_cell (to_eq (sym g ∙ e))) refl) ∙ f
      go (passes none q) = absurd (none u (e, f))

  pub went : (Comes → ⊥) → stood_back back v ≡ to u
  went ne = go (meets back v)
    where
      go : Meets back v → stood_back back v ≡ to u
      go (trades w (g, h) q) = let p : w ≡ u = to_eq (sym g ∙ e) in absurd (ne (rw p at h))
      go (passes none q) = ap back q ∙ e

module _ {j : Job} {g : Grid} {s : List ℕ} (h : KeepsAll j g s) (x : Point) (cart : HasCart j s x) where
  pub back_used : back_link j s x ≡ off → ⊥
  back_used f = cart (ap (back_link j s) (ap (other_by (back_link j s) x) f) ∙ f)

  used : is_used j s x ≡ true
  used = go (is_used j s x) refl
    where
      go : (b : Bool) → is_used j s x ≡ b → b ≡ true
      go true e = refl
      go false e = absurd (back_used (link_off (is_used j s x) _ e))

  pub cart_known : Inside j x
  cart_known = used_known j s x used

  came : 0 < x.step → back_link j s x ≡ to (came_from g s x)
  came later = back_to j h.grid s x cart_known (λ e. used_byte j s x used (rw h.grid at e)) (λ e. omega arith)

  abbrev last : g.top ≡ top j
  last = ap (λ g. g.top) h.grid

  -- The code has in locals where the node stands and what its byte says: where the flow has the cart come from, or the step at which it is met.
  module _ {v a : ℕ} (here : v ≡ place_at g x) (told : a ≡ prev_at g s v) where
    pub call_met : x.step ≡ g.top → back_from j s x ≡ to (point x.cell a)
    call_met e =
        let b : back_link j s x ≡ to (point x.cell a) = came (omega (arith, last)) ∙ ap to (came_call g s x here told e) in
        stood (back_link j s) x (point x.cell a) b b

  module _ (later : 0 < x.step) (low : x.step < g.top) {v a : ℕ} (here : v ≡ place_at g x) (told : a ≡ prev_at g s v) where
    abbrev before : Point
    before = point a (x.step - 1)

    abbrev other : Point
    other = point a x.step

    back : back_link j s x ≡ to before
    back = came later ∙ ap to (came_step g s x here told (λ e. omega arith))

    pub other_known : Inside j other
    other_known = ((edge_earlier (h.flow.edge x before back) (omega (arith, last))).known_before, cart_known.1)

    -- And where the node of that cell stands, and what its byte says.
    module _ {w b : ℕ} (there : w ≡ place_at g other) (says : b ≡ prev_at g s w) where
      other_came : came_from g s other ≡ point b (x.step - 1)
      other_came = came_step g s other there says (λ e. omega arith)

      pub from_same : (used_at g s w ≡ 0 → ⊥) → b ≡ x.cell → CameFrom j s x x.cell
      from_same u e =
          stood (back_link j s) x before back
          (back_to j h.grid s other other_known (λ z. u (rw there z)) (λ z. omega arith) ∙ ap to (other_came ∙ point_eq e refl))
