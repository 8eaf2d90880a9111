-- What is written where a cart stands, and the links that are read then: those of the node that it stands on at the next step lead to the one before it, and all others stay. Assumes nothing.
use Prim.Native.Nat.{ℕ, suc, ◌≤◌, ◌<◌}
use mathlib.Core.Path.{◌≡◌, refl, sym, ◌∙◌, ap}
use mathlib.Core.List.{List}
use mathlib.Core.Bool.{true, false}
use native.Mathlib.Omega.{arith}
use lib.Dec.{eqb}
use lib.ListN.{length, length-set}
use borrow.Author.Tests.{ne_eqb}
use Rattle.model.specs.Job.{Job, horizon}
use Rattle.model.specs.Choke.{Point, point}
use Rattle.flow.specs.Flow.{to}
use Rattle.flow.specs.Update.{upd}
use Rattle.flow.proofs.Update.{Upd, changed, kept, look}
use Rattle.network.specs.declared.planes.Grid.{Grid}
use Rattle.network.specs.Graph.{top, Inside}
use Rattle.network.specs.Store.{grid_of, idx, used_at, next_at, prev_at, came_from, with_used, with_next, with_prev, Spacious, is_used}
use Rattle.network.specs.Links.{back_link}
use Rattle.network.proofs.Points.{point_eq, dec_point}
use Rattle.network.proofs.StoreBytes.{idx_below, idx_one}
use Rattle.network.proofs.NodeBytes.{link_to, link_same, used, used_same, used_known}
use Rattle.network.proofs.PlaneLaws as planes
use Rattle.network.proofs.PlaneLaws.{Same, SetAt, set_here}

-- The node at u goes on to the cell c, that at v came from it and is used.
pub record Stood (g : Grid) (s s' : List ℕ) (u v c b : ℕ) : Type 0 where
  pub long : length s' ≡ length s
  pub used : SetAt g.nodes v b (used_at g s) (used_at g s')
  pub next : SetAt g.nodes u c (next_at g s) (next_at g s')
  pub prev : SetAt g.nodes v c (prev_at g s) (prev_at g s')

module _ (g : Grid) (s : List ℕ) (h : Spacious g s) (u v c : ℕ) (hu : u < g.nodes) (hv : v < g.nodes) where
  abbrev s₁ : List ℕ
  s₁ = with_next g s u c

  abbrev s₂ : List ℕ
  s₂ = with_prev g s₁ v c

  -- v was used
  pub stood_used : Stood g s (with_prev g (with_next g s u c) v c) u v c (used_at g s v)
  stood_used =
      let same : Same g.nodes (used_at g s) (used_at g s₂) = λ w l. planes.kept g s₁ 3 v c hv 0 (λ e. omega arith) w l ∙ planes.kept g s 2 u c hu 0 (λ e. omega arith) w l in
      record {
        long = simp length-set;
        used = record { here = same v hv; else = λ w l n. same w l };
        next = let a = set_here g s 2 u c hu h (omega arith) in
            record { here = planes.kept g s₁ 3 v c hv 2 (λ e. omega arith) u hu ∙ a.here; else = λ w l n. planes.kept g s₁ 3 v c hv 2 (λ e. omega arith) w l ∙ a.else w l n };
        prev = let a = set_here g s₁ 3 v c hv (simp length-set h) (omega arith) in
            record { here = a.here; else = λ w l n. a.else w l n ∙ planes.kept g s 2 u c hu 3 (λ e. omega arith) w l };
      }

  -- and was not
  pub stood_new : (b : ℕ) → Stood g s (with_used g (with_prev g (with_next g s u c) v c) v b) u v c b
  stood_new b =
      let o = stood_used in
      let a = set_here g s₂ 0 v b hv (simp length-set h) (omega arith) in
      record {
        long = simp length-set;
        used = record { here = a.here; else = λ w l n. a.else w l n ∙ o.used.else w l n };
        next = record { here = planes.kept g s₂ 0 v b hv 2 (λ e. omega arith) u hu ∙ o.next.here; else = λ w l n. planes.kept g s₂ 0 v b hv 2 (λ e. omega arith) w l ∙ o.next.else w l n };
        prev = record { here = planes.kept g s₂ 0 v b hv 3 (λ e. omega arith) v hv ∙ o.prev.here; else = λ w l n. planes.kept g s₂ 0 v b hv 3 (λ e. omega arith) w l ∙ o.prev.else w l n };
      }

module _ (j : Job) {s s' : List ℕ} {c t b : ℕ} (known : c < j.cells) (early : suc t ≤ horizon j) (filled : b ≡ 0 → ⊥)
    (w : Stood (grid_of j) s s' (idx j (point c t)) (idx j (point c (suc t))) c b) where
  abbrev v : Point
  v = point c (suc t)

  inside_v : Inside j v
  inside_v = (known, omega arith)

  here : back_link j s' v ≡ to (point c t)
  here =
      let u : is_used j s' v ≡ true = used j s' v inside_v (λ e. filled (sym w.used.here ∙ e)) in
      let low : eqb (suc t) (top j) ≡ false = ne_eqb (suc t) (top j) (λ e. omega arith) in
      let came : came_from (grid_of j) s' v ≡ point c t = rw (low, w.prev.here) (point_eq refl (omega arith)) in
      link_to (is_used j s' v) (eqb (suc t) 0) (came_from (grid_of j) s' v) u (ne_eqb (suc t) 0 (λ e. omega arith)) ∙ ap to came

  there : (y : Point) → (y ≡ v → ⊥) → back_link j s' y ≡ back_link j s y
  there y n =
      let apart : Inside j y → idx j y ≡ idx j v → ⊥ = λ i e. n (idx_one j i inside_v e) in
      let e : is_used j s' y ≡ is_used j s y = used_same j s s' y (λ i. ap (λ x. eqb x 0) (w.used.else (idx j y) (idx_below j i) (apart i))) in
      link_same (is_used j s' y) (is_used j s y) (eqb y.step 0) _ _ e
      (λ u. let i = used_known j s' y u in rw (w.prev.else (idx j y) (idx_below j i) (apart i)) refl)

  pub back_stood : (y : Point) → back_link j s' y ≡ upd dec_point (back_link j s) (point c (suc t)) (to (point c t)) y
  back_stood y = go (look dec_point (back_link j s) v (to (point c t)) y)
    where
      go : Upd dec_point (back_link j s) v (to (point c t)) y → back_link j s' y ≡ upd dec_point (back_link j s) v (to (point c t)) y
      go (changed e f) = ap (back_link j s') e ∙ here ∙ sym f
      go (kept n f) = there y n ∙ sym f
