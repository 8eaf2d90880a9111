-- The turns of augment's loop: each may lay its hop, as the stack is as it was and every node on it has its place, and has one hop more laid then;
-- after the last the way is in the flow. They are stated with the code's grid. Assumes nothing.
use Prim.Native.Nat.{ℕ, suc, ◌-◌, ◌<◌, ◌≤◌}
use mathlib.Core.Path.{◌≡◌, ap}
use mathlib.Core.List.{List}
use native.Mathlib.Omega.{arith}
use Rattle.model.specs.Job.{Job}
use Rattle.model.specs.Choke.{Point}
use Rattle.network.specs.Store.{grid_of, place_at, cell_at, step_at, with_used, with_mark}
use Rattle.network.proofs.Points.{point_eq}
use Rattle.network.specs.declared.planes.Grid.{Grid}
use Rattle.network.proofs.StoreBytes.{idx_below}
use Rattle.route.specs.Stack.{pos_at}
use Rattle.route.specs.Search.{Laying, Augmented}
use Rattle.route.specs.Lay.{laid, Layable}
use Rattle.route.proofs.Stack.{Stacked, via_inside}
use Rattle.route.proofs.Laid.{Laid, laid_more}
use Rattle.route.proofs.AugmentLinks.{all_laid}

layable : {j : Job} {s : List ℕ} {e : ℕ} → Stacked j s e → (s' : List ℕ) (i : ℕ) → i < e → Laid (grid_of j) s s' (suc i) e → Layable (grid_of j) s' i
layable {j} {s} w s' i l done =
    let a : i < (grid_of j).nodes = omega (arith, w.small) in
    let b : suc i < (grid_of j).nodes = omega (arith, w.small) in
    let k = done.stack in
    record {
      room = omega (arith, w.room, done.long);
      next = b;
      here = rw (k.cell i a, k.step i a) (idx_below j (w.known i (omega arith)));
      there = rw (k.cell (suc i) b, k.step (suc i) b) (idx_below j (w.known (suc i) l));
      by = rw (ap (place_at (grid_of j)) (k.via (suc i) b)) (idx_below j (via_inside w i l));
    }

module _ {j : Job} {s : List ℕ} {g : Grid} {depth : ℕ} (a : Laying j s g depth) where
  stacked : Stacked j s (depth - 1)
  stacked = record {
    fit = a.holds.ready.fit;
    room = rw a.holds.grid at a.holds.room;
    small = omega (arith, a.stack.fit, a.stack.deep);
    known = λ i l. a.stack.known i (omega (arith, a.stack.deep));
    ok = a.holds.flow;
    way = a.stack.way;
  }

  module _ {s' : List ℕ} {i : ℕ} (h : 0 < i) (l : i ≤ depth - 1) (done : Laid g s s' i (depth - 1)) where
    done' : Laid (grid_of j) s s' (suc (i - 1)) (depth - 1)
    done' = let up : i ≡ suc (i - 1) = omega arith in rw up at (rw a.holds.grid at done)

    pub may_lay : Layable g s' (i - 1)
    may_lay = rw a.holds.grid (layable stacked s' (i - 1) (omega arith) done')

    pub more_laid : {s'' : List ℕ} → s'' ≡ laid g s' (i - 1) → Laid g s s'' (i - 1) (depth - 1)
    more_laid e = rw (e, a.holds.grid) (laid_more stacked s' (i - 1) (omega arith) done')

  -- The node v was read off the stack's first entry, and its bytes are written last.
  pub is_laid : {s' s₁ s₂ : List ℕ} {i v : ℕ} {x : Point} → i ≤ 0 → Laid g s s' i (depth - 1) → x.cell ≡ cell_at g s 0 → x.step ≡ step_at g s 0 → v ≡ place_at g x
      → s₁ ≡ with_used g s' v 1 → s₂ ≡ with_mark g s₁ v 0 → Augmented j s s₂ (pos_at (grid_of j) s 0)
  is_laid {s'} {s₁} {s₂} {i} {v} {x} h done ec et ev e₁ e₂ =
      let none : i ≡ 0 = omega arith in
      let done' : Laid (grid_of j) s s' 0 (depth - 1) = rw none at (rw a.holds.grid at done) in
      let first : x ≡ pos_at g s 0 = point_eq ec et in
      rw (e₂, e₁, ev, first, a.holds.grid) (all_laid stacked done')
