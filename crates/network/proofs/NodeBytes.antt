-- What the bytes of a node say: whether it is used, and where its links lead. A link is read off the test of use, the test of the end, and a byte; it is the same where those are.
-- Assumes nothing.
use Prim.Native.Nat.{ℕ, ◌+◌, ◌*◌, ◌≤◌}
use mathlib.Core.Path.{◌≡◌, refl, sym, ◌∙◌, ap}
use mathlib.Core.List.{List}
use mathlib.Core.Bool.{Bool, true, false, cond, not, ◌&&◌, and-false}
use native.Mathlib.Nat.{mul-le-mul_right}
use native.Mathlib.Omega.{arith}
use borrow.Author.Tests.{eq-eqb, ne_eqb, eqb-false, not-true, lt-ltb, le-leb, ltb-true, leb-true}
use lib.Dec.{eqb, ltb, leb}
use Rattle.model.specs.Limits.{max_cells, max_steps}
use Rattle.model.specs.Job.{Job}
use Rattle.model.specs.Choke.{Point}
use Rattle.model.specs.Ready.{Ready}
use Rattle.model.proofs.Basics.{nope, and_left, and_right, and_both}
use Rattle.model.proofs.Written.{few_steps}
use Rattle.flow.specs.Flow.{Link, off, end, to}
use Rattle.network.specs.Graph.{top, Inside}
use Rattle.network.specs.Store.{nodes, grid_of, idx, used_at, inside, is_used}
use Rattle.network.proofs.Points.{to_eq}

pub link_off : (b : Bool) (y : Link Point) → b ≡ false → cond b y off ≡ off
link_off b y e = rw e

pub link_end : (b c : Bool) (y : Link Point) → b ≡ true → c ≡ true → cond b (cond c end y) off ≡ end
link_end b c y e f = rw (e, f)

pub link_to : (b c : Bool) (x : Point) → b ≡ true → c ≡ false → cond b (cond c end (to x)) off ≡ to x
link_to b c x e f = rw (e, f)

pub link_of : (b c : Bool) (x y : Point) → cond b (cond c end (to x)) off ≡ to y → (b ≡ true) × (c ≡ false) × (x ≡ y)
link_of true true x y e = nope (cc)
link_of true false x y e = (refl, refl, to_eq e)
link_of false c x y e = nope (cc)

pub link_used : (b : Bool) (y : Link Point) (x : Point) → cond b y off ≡ to x → b ≡ true
link_used true y x e = refl
link_used false y x e = nope (cc)

pub link_same : (b b' c : Bool) (x x' : Point) → b ≡ b' → (b ≡ true → x ≡ x') → cond b (cond c end (to x)) off ≡ cond b' (cond c end (to x')) off
link_same true b' c x x' e h = rw (sym e, h refl)
link_same false b' c x x' e h = rw (sym e)

pub few_nodes : (j : Job) → Ready j → nodes j ≤ max_cells * (max_steps + 1)
few_nodes j ready =
    let most : top j + 1 ≤ max_steps + 1 = omega (arith, few_steps j ready.fit) in
    omega (arith, mul-le-mul_right j.cells most, ready.fit.few_cells)

-- The test of a point of the graph.
module _ (j : Job) (x : Point) where
  pub inside_test : Inside j x → inside j x ≡ true
  inside_test h = and_both (ltb x.cell j.cells) (leb x.step (top j)) (lt-ltb x.cell j.cells h.0) (le-leb x.step (top j) h.1)

  pub test_inside : inside j x ≡ true → Inside j x
  test_inside e = (
    ltb-true x.cell j.cells (and_left (ltb x.cell j.cells) (leb x.step (top j)) e),
    leb-true x.step (top j) (and_right (ltb x.cell j.cells) (leb x.step (top j)) e),
  )

module _ (j : Job) (s : List ℕ) (v : Point) where
  abbrev pub use_byte : ℕ
  use_byte = used_at (grid_of j) s (idx j v)

  pub used : Inside j v → (use_byte ≡ 0 → ⊥) → is_used j s v ≡ true
  used h ne = and_both (inside j v) (not (eqb use_byte 0)) (inside_test j v h) (ap not (ne_eqb use_byte 0 ne))

  pub unused : use_byte ≡ 0 → is_used j s v ≡ false
  unused e = ap (λ b. inside j v && not b) (eq-eqb use_byte 0 e) ∙ and-false (inside j v)

  pub used_byte : is_used j s v ≡ true → use_byte ≡ 0 → ⊥
  used_byte h = eqb-false use_byte 0 (not-true (eqb use_byte 0) (and_right (inside j v) (not (eqb use_byte 0)) h))

  pub used_known : is_used j s v ≡ true → Inside j v
  used_known h = test_inside j v (and_left (inside j v) (not (eqb use_byte 0)) h)

-- The tests of use agree if those of the bytes do at a known point.
pub used_same : (j : Job) (s s' : List ℕ) (v : Point) → (Inside j v → eqb (use_byte j s' v) 0 ≡ eqb (use_byte j s v) 0) → is_used j s' v ≡ is_used j s v
used_same j s s' v h = go (inside j v) refl
  where
    go : (b : Bool) → inside j v ≡ b → (b && not (eqb (use_byte j s' v) 0)) ≡ (b && not (eqb (use_byte j s v) 0))
    go true e = ap not (h (test_inside j v e))
    go false e = refl
