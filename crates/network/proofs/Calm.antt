-- Where two carts that would trade places both stand instead, the links are still a flow, since two of its nodes exchange where they lead. No two carts trade in it:
-- a link that changed leads to its own cell, and two that did not and traded would have changed. Assumes nothing.
use Prim.Native.Nat.{ℕ, suc}
use mathlib.Core.Path.{◌≡◌, refl, sym, ◌∙◌, ap}
use mathlib.Core.Bool.{Bool, true, false}
use mathlib.Core.Logic.{◌⊎◌, inl, inr}
use lib.Dec.{eqb}
use borrow.Author.Tests.{eqb-true, eq-eqb}
use Rattle.model.specs.Job.{Job}
use Rattle.model.specs.Choke.{Point, point}
use Rattle.model.proofs.Basics.{nope, and_left, and_right, and_both}
use Rattle.flow.specs.Flow.{Link, off, end, to, Flow}
use Rattle.flow.specs.Exchange.{led}
use Rattle.flow.proofs.Exchange.{exchanged}
use Rattle.network.specs.Graph.{Edge, graph_from}
use Rattle.network.specs.Traced.{Calm}
use Rattle.network.specs.Stand.{is_to, other_by, other, stood_back, stood_on}
use Rattle.network.proofs.Points.{point_cell, point_step, point_eq, to_eq}

is-to : (x : Point) (l : Link Point) → is_to x l ≡ true → l ≡ to x
is-to x off e = nope (cc)
is-to x end e = nope (cc)
is-to x (to y) e =
    let a = eqb y.cell x.cell in
    let b = eqb y.step x.step in
    ap to (point_eq (eqb-true y.cell x.cell (and_left a b e)) (eqb-true y.step x.step (and_right a b e)))

to_is : (x : Point) (l : Link Point) → l ≡ to x → is_to x l ≡ true
to_is x off e = nope (cc)
to_is x end e = nope (cc)
to_is x (to y) e =
    let f = to_eq e in
    and_both (eqb y.cell x.cell) (eqb y.step x.step) (eq-eqb y.cell x.cell (point_cell f)) (eq-eqb y.step x.step (point_step f))

module _ (back : Point → Link Point) where
  -- The cart on v came from u, and the one then on u's cell came from v's. A cart that stood is one of these, with itself.
  abbrev TradesAt : Point → Point → Type 0
  TradesAt v u = (back v ≡ to u) × (back (point u.cell v.step) ≡ to (point v.cell u.step))

  pub data Meets (v : Point) : Type 0 where
    trades : (u : Point) → TradesAt v u → other back v ≡ point u.cell v.step → Meets v
    passes : ((u : Point) → TradesAt v u → ⊥) → other back v ≡ v → Meets v

  pub meets : (v : Point) → Meets v
  meets v = go (back v) refl
    where
      on : (u : Point) → back v ≡ to u → (b : Bool) → is_to (point v.cell u.step) (back (point u.cell v.step)) ≡ b → Meets v
      on u e true f = trades u (e, is-to _ _ f) (rw (e, other_by, f))
      on u e false f = passes (λ w (g, h). let q : u ≡ w = to_eq (sym e ∙ g) in nope (cc (to_is (point v.cell u.step) (back (point u.cell v.step)) (rw q h)))) (rw (e, other_by, f))

      go : (l : Link Point) → back v ≡ l → Meets v
      go off e = passes (λ w (g, h). nope (cc)) (rw (e, other_by))
      go end e = passes (λ w (g, h). nope (cc)) (rw (e, other_by))
      go (to u) e = on u e _ refl

  twice : (v : Point) → other back (other back v) ≡ v
  twice v = go (meets v)
    where
      -- the other node of two that trade, and v with it
      turn : (u : Point) → TradesAt v u → Meets (point u.cell v.step) → other back (point u.cell v.step) ≡ v
      turn u (e, f) (trades w (g, h) q) = let p : w ≡ point v.cell u.step = to_eq (sym g ∙ f) in q ∙ point_eq (point_cell p) refl
      turn u (e, f) (passes none q) = absurd (none (point v.cell u.step) (f, e))

      go : Meets v → other back (other back v) ≡ v
      go (trades u t q) = ap (other back) q ∙ turn u t (meets (point u.cell v.step))
      go (passes none q) = ap (other back) q ∙ q

  leads : (v : Point) → (other back v ≡ v) ⊎ ((w : Point) × (back v ≡ to w))
  leads v = go (meets v)
    where
      go : Meets v → (other back v ≡ v) ⊎ ((w : Point) × (back v ≡ to w))
      go (trades u t q) = inr (u, t.0)
      go (passes none q) = inl q

  -- A link now leads to the node's own cell, or where it did, and that in no trade.
  abbrev CalmLink : ℕ → ℕ → ℕ → Type 0
  CalmLink u w t = (u ≡ w) ⊎ ((back (point u (suc t)) ≡ to (point w t)) × (TradesAt (point u (suc t)) (point w t) → ⊥))

  now_leads : (u w t : ℕ) → stood_back back (point u (suc t)) ≡ to (point w t) → CalmLink u w t
  now_leads u w t e = go (meets (point u (suc t)))
    where
      go : Meets (point u (suc t)) → CalmLink u w t
      go (trades x (f, g) q) = inl (point_cell (to_eq (sym g ∙ ap back (sym q) ∙ e)))
      go (passes none q) = inr (ap back (sym q) ∙ e, none (point w t))

  pub stood_calm : Calm (stood_back back)
  stood_calm u w t e f = go (now_leads u w t e) (now_leads w u t f)
    where
      go : CalmLink u w t → CalmLink w u t → u ≡ w
      go (inl q) r = q
      go (inr p) (inl q) = sym q
      go (inr (g, none)) (inr (h, _)) = absurd (none (g, h))

module _ {j : Job} {S : Point → Type 0} {back on : Point → Link Point} (ok : Flow (graph_from j S) back on) where
  -- A cart that stands instead of trading could have: its cell is open, as the cart came to it. A call trades with itself alone.
  stands : (v u : Point) → Edge j v u → Edge j v (point v.cell u.step)
  stands v u (inl m) = inl (record { call = m.call; listed = m.listed; here = m.here; there = point_cell m.here; in_time = m.in_time })
  stands v u (inr d) = inr (record {
    falls = d.falls;
    moves = (inl refl, d.moves.1);
    leaves = d.moves.1;
    in_time = d.in_time;
    known = d.known;
    known_before = d.known;
  })

  edge : (v w : Point) → stood_back back v ≡ to w → Edge j v w
  edge v w e = go (meets back v)
    where
      go : Meets back v → Edge j v w
      go (trades u (f, g) q) = let p : w ≡ point v.cell u.step = to_eq (sym e ∙ ap back q ∙ g) in rw p (stands v u (ok.edge v u f))
      go (passes none q) = ok.edge v w (ap back (sym q) ∙ e)

  pub stood_flow : Flow (graph_from j S) (stood_back back) (stood_on back on)
  stood_flow = exchanged ok (record { twice = twice back; leads = leads back; edge = edge })

  -- The lines begin where they did.
  pub stood_ends : (v : Point) → on v ≡ end → stood_on back on v ≡ end
  stood_ends v e = ap (led (other back)) e
