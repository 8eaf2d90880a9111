-- A row that is written from its end on holds the way of a cart: each call finds the part before its own cell. Assumes nothing.
use Prim.Native.Nat.{ℕ, suc, ◌-◌, ◌<◌}
use mathlib.Core.Path.{◌≡◌, sym, ap, ◌∙◌}
use mathlib.Core.List.{List}
use native.Mathlib.Omega.{arith}
use lib.ListN.{length, get_or, set}
use lib.Seq.{get_or-set_same, get_or-set_other}
use Rattle.model.specs.Job.{Job}
use Rattle.model.specs.Choke.{Point, point}
use Rattle.model.proofs.Basics.{nope}
use Rattle.model.proofs.Decide.{dec-lt}
use Rattle.flow.specs.Flow.{to}
use Rattle.network.specs.declared.planes.Grid.{Grid}
use Rattle.network.specs.Keeping.{KeepsAll}
use Rattle.network.proofs.Points.{point_eq}
use Rattle.network.proofs.Calm.{stood_flow}
use Rattle.answer.specs.Trail.{back_from, HasCart, CameFrom, Trail}

module _ {j : Job} {g : Grid} {s : List ℕ} (h : KeepsAll j g s) (x : Point) where
  pub cart_before : (c : ℕ) → CameFrom j s x c → HasCart j s (point c (x.step - 1))
  cart_before c e f = nope (cc ((stood_flow h.flow).forth x (point c (x.step - 1)) e, (stood_flow h.flow).off_prev (point c (x.step - 1)) f))

  module _ (cart : HasCart j s x) (row : List ℕ) (long : x.step < length row) where
    abbrev row₁ : List ℕ
    row₁ = set row x.step x.cell

    here : get_or row₁ x.step 0 ≡ x.cell
    here = get_or-set_same row x.step x.cell 0 long

    other : (t : ℕ) → x.step < t → get_or row₁ t 0 ≡ get_or row t 0
    other t l = get_or-set_other row x.step t x.cell 0 (λ e. omega arith)

    pub trail_more : (x.step ≡ 0 → ⊥) → (c : ℕ) {r : ℕ} {row' : List ℕ} → CameFrom j s x c → Trail j s (point c (x.step - 1)) row₁ row' r → Trail j s x row row' r
    trail_more later c {r} {row'} came tr = record {
      ends = ends;
      follows = λ t l. follows t l (dec-lt t (x.step - 1));
      begins = tr.begins;
      starts = tr.starts;
      kept = λ t l. tr.kept t (omega arith) ∙ other t l;
    }
      where
        ends : get_or row' x.step 0 ≡ x.cell
        ends = tr.kept x.step (omega arith) ∙ here

        follows : (t : ℕ) → t < x.step → Dec (t < x.step - 1) → back_from j s (point (get_or row' (suc t) 0) (suc t)) ≡ to (point (get_or row' t 0) t)
        follows t l (yes b) = tr.follows t b
        follows t l (no b) =
            let low : t ≡ x.step - 1 = omega arith in
            let high : suc t ≡ x.step = omega arith in
            ap (back_from j s) (point_eq {y = x} (ap (λ i. get_or row' i 0) high ∙ ends) high) ∙ came
            ∙ ap to (point_eq (sym (ap (λ i. get_or row' i 0) low ∙ tr.ends)) (sym low))
