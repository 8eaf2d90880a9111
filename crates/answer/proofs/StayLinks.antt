-- Where a cart goes on to by the bytes is where it does by the links of the flow in which no two carts trade, if it meets no call: its line goes on to a step, whose cell the byte tells; and the
-- bytes of the node beside say whether another cart would come from there. Assumes nothing.
use Prim.Native.Nat.{ℕ, suc, ◌+◌, ◌<◌}
use mathlib.Core.Path.{◌≡◌, refl, sym, ◌∙◌, ap}
use mathlib.Core.List.{List}
use mathlib.Core.Logic.{inl, inr}
use native.Mathlib.Omega.{arith}
use native.Mathlib.Numerals.{add-one}
use Rattle.model.specs.Job.{Job}
use Rattle.model.specs.Choke.{Point, point}
use Rattle.model.proofs.Basics.{nope}
use Rattle.flow.specs.Flow.{Link, off, end, to}
use Rattle.flow.proofs.Line.{chain_more}
use Rattle.network.specs.declared.planes.Grid.{Grid}
use Rattle.network.specs.Graph.{top, Inside, node_of, MetFrom, Edge}
use Rattle.network.specs.Store.{place_at, used_at, next_at, prev_at, came_from}
use Rattle.network.specs.Links.{back_link}
use Rattle.network.specs.Keeping.{KeepsAll, BeginsAt}
use Rattle.network.proofs.Points.{point_cell, point_eq}
use Rattle.network.proofs.ChokeTargets.{target_top}
use Rattle.answer.specs.Trail.{back_from, MeetsNone, GoesTo}
use Rattle.answer.proofs.Nodes.{came_step, back_off, back_to, back_of}
use Rattle.answer.proofs.PathLinks.{cart_known, stood, went, back_used}

module _ {j : Job} {g : Grid} {s : List ℕ} (h : KeepsAll j g s) (x : Point) (u : MeetsNone j s x) (early : x.step + 1 < g.top) where
  abbrev last : g.top ≡ top j
  last = ap (λ g. g.top) h.grid

  pub here_known : Inside j x
  here_known = cart_known h x u.cart

  -- A call that is met from here is on the line.
  unmet : (y : Point) → back_link j s y ≡ to x → MetFrom j y x → ⊥
  unmet y e m =
      let q = m.call in
      let v = node_of j q in
      let f : back_link j s v ≡ to x = ap (back_link j s) (sym m.here) ∙ e in
      let comes : back_link j s (point x.cell (top j)) ≡ to (point q.cell x.step) =
      ap (back_link j s) (point_eq m.there refl) ∙ f ∙ ap to (point_eq m.there refl) in
      u.free q m.listed (1, (x, stood (back_link j s) v x f comes ∙ ap to (point_eq (sym m.there) refl), refl))

  -- The line goes on to a step.
  abbrev GoesOn : Type 0
  GoesOn = (y : Point) × (back_link j s y ≡ to x) × (y.step ≡ suc x.step) × (next_at g s (place_at g x) ≡ y.cell)

  goes_on : GoesOn
  goes_on = go (h.on x) refl
    where
      led : (y : Point) → h.on x ≡ to y → Edge j y x → GoesOn
      led y e (inl m) = absurd (unmet y (h.flow.back y x e) m)
      led y e (inr d) = (y, h.flow.back y x e, d.falls, h.tells x y e d.in_time)

      starts : BeginsAt j (λ z. ⊥) x → ⊥
      starts (inl e) = omega (arith, target_top j x e, last)
      starts (inr (inl e)) = omega (arith, last)
      starts (inr (inr e)) = e

      go : (l : Link Point) → h.on x ≡ l → GoesOn
      go off e = absurd (back_used h x u.cart (h.flow.off_next x e))
      go end e = absurd (starts (h.flow.starts x e))
      go (to y) e = led y e (h.flow.edge y x (h.flow.back y x e))

  -- The code has in locals where the node and the one beside it stand, and what their bytes say.
  module _ {v n : ℕ} (here : v ≡ place_at g x) (told : n ≡ next_at g s v) where
    abbrev ahead : Point
    ahead = point n (suc x.step)

    comes_from : back_link j s ahead ≡ to x
    comes_from =
        let (y, e, t, c) = goes_on in
        let same : ahead ≡ y = point_eq (told ∙ ap (next_at g s) here ∙ c) (sym t) in
        ap (back_link j s) same ∙ e

    pub on_stands : n ≡ x.cell → GoesTo j s x n
    on_stands e =
        let same : point x.cell (suc x.step) ≡ ahead = point_eq (sym e) refl in
        stood (back_link j s) ahead x comes_from (ap (back_link j s) same ∙ comes_from ∙ ap to (point_eq (sym e) refl)) ∙ ap to (point_eq e refl)

    abbrev beside : Point
    beside = point x.cell (suc x.step)

    module _ {w : ℕ} (there : w ≡ place_at g (point x.cell (x.step + 1))) where
      at : w ≡ place_at g beside
      at = there ∙ ap (λ t. place_at g (point x.cell t)) (add-one x.step)

      pub on_free : used_at g s w ≡ 0 → GoesTo j s x n
      on_free e = went (back_link j s) ahead x comes_from (λ f. nope (cc (back_off j h.grid s beside (rw at at e))))

      module _ {b : ℕ} (says : b ≡ prev_at g s w) where
        beside_came : came_from g s beside ≡ point b x.step
        beside_came = came_step g s beside at says (λ e. omega arith) ∙ point_eq refl (omega arith)

        pub on_other : (b ≡ n → ⊥) → GoesTo j s x n
        on_other ne = went (back_link j s) ahead x comes_from (λ f. ne (point_cell (sym beside_came ∙ back_of j h.grid s beside f)))

        pub on_same : (used_at g s w ≡ 0 → ⊥) → b ≡ n → GoesTo j s x x.cell
        on_same used e =
            let back : back_link j s beside ≡ to (point n x.step) =
            back_to j h.grid s beside (here_known.0, omega (arith, last)) (λ z. used (rw at z)) (λ z. omega arith) ∙ ap to (beside_came ∙ point_eq e refl) in
            stood (back_link j s) beside (point n x.step) back comes_from

  pub unmet_next : (c : ℕ) → GoesTo j s x c → MeetsNone j s (point c (suc x.step))
  unmet_next c e = record { cart = λ f. nope (cc); free = λ q i (k, ch). u.free q i (suc k, chain_more (back_from j s) k (node_of j q) (point c (suc x.step)) x ch e) }
