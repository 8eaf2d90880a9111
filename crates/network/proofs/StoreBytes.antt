-- Bytes of the store by plane and node: what a write changes, and that each point of the graph has a place of its own below the number of nodes.
-- Quotient and rest by the width of a plane (of a row of cells) say which it is. Assumes nothing.
use Prim.Native.Nat.{ℕ, suc, ◌+◌, ◌*◌, ◌<◌, ◌≤◌}
use mathlib.Core.Path.{◌≡◌, ap}
use mathlib.Core.List.{List}
use native.Mathlib.Nat.{mul-le-mul_right, suc-mul}
use native.Mathlib.Omega.{arith}
use lib.ListN.{length, set}
use lib.Seq.{get_or-set_same, get_or-set_other}
use Rattle.model.specs.Job.{Job}
use Rattle.model.specs.Choke.{Point}
use Rattle.model.proofs.Decide.{dec-lt}
use Rattle.network.specs.Graph.{top, Inside}
use Rattle.network.specs.Store.{nodes, idx, spot, at}
use Rattle.network.specs.declared.planes.Grid.{Grid}
use Rattle.network.proofs.Points.{point_eq}

module _ (k : ℕ) where
  -- A number p * k + i with i < k tells p and i.
  row_le : (p q i v : ℕ) → v < k → p * k + i ≡ q * k + v → p ≤ q
  row_le p q i v h e = go (dec-lt q p)
    where
      go : Dec (q < p) → p ≤ q
      go (yes l) = absurd (omega (arith, mul-le-mul_right k l, suc-mul q k))
      go (no l) = omega arith

  pub row_one : (p q i v : ℕ) → i < k → v < k → p * k + i ≡ q * k + v → (p ≡ q) × (i ≡ v)
  row_one p q i v h l e =
      let le : p ≤ q = row_le p q i v l e in
      let ge : q ≤ p = row_le q p v i h (omega arith) in
      let same : p ≡ q = omega arith in
      (same, omega (arith, ap (λ z. z * k) same))

  pub row_below : (p q i : ℕ) → i < k → p ≤ q → p * k + i < suc q * k
  row_below p q i h le = omega (arith, mul-le-mul_right k le, suc-mul q k)

module _ (g : Grid) (s : List ℕ) (q i b : ℕ) where
  pub at_same : spot g q i < length s → at g (set s (spot g q i) b) q i ≡ b
  at_same h = get_or-set_same s (spot g q i) b 0 h

  pub at_other : (p v : ℕ) → i < g.nodes → v < g.nodes → (p ≡ q → v ≡ i → ⊥) → at g (set s (spot g q i) b) p v ≡ at g s p v
  at_other p v h l ne = get_or-set_other s (spot g q i) (spot g p v) b 0 (λ e. let r = row_one g.nodes p q v i l h e in ne r.0 r.1)

module _ (j : Job) where
  pub idx_below : {x : Point} → Inside j x → idx j x < nodes j
  idx_below {x} h = omega (arith, row_below j.cells x.step (top j) x.cell h.0 h.1)

  pub idx_one : {x y : Point} → Inside j x → Inside j y → idx j x ≡ idx j y → x ≡ y
  idx_one {x} {y} h l e = let r = row_one j.cells x.step y.step x.cell y.cell h.0 l.0 e in point_eq r.1 r.0
