-- A cart that no call gets is given a line, a step at a time; and so each of them. Those that have one keep it, as step 0 stays as it was. Assumes nothing.
use Prim.Native.Nat.{ℕ, ◌+◌, ◌<◌, ◌≤◌}
use mathlib.Core.Path.{◌≡◌, refl, sym, ◌∙◌, ap}
use mathlib.Core.List.{List}
use mathlib.Core.Bool.{true}
use native.Mathlib.Omega.{arith}
use lib.Dec.{eqb}
use lib.ListN.{length, get_or}
use Rattle.model.specs.Lists.{In}
use Rattle.model.specs.Limits.{max_steps}
use Rattle.model.specs.Job.{Job, cart_cell}
use Rattle.model.specs.Choke.{Point, point}
use Rattle.model.proofs.Basics.{nope}
use Rattle.model.proofs.Decide.{dec-lt}
use Rattle.model.proofs.Lists.{in_get_or, in_place}
use Rattle.model.proofs.Written.{few_steps}
use Rattle.flow.specs.Flow.{to}
use Rattle.network.specs.declared.planes.Grid.{Grid}
use Rattle.network.specs.Graph.{Inside}
use Rattle.network.specs.Store.{grid_of, place_in, used_at, with_used, came_from, is_used, Within}
use Rattle.network.specs.Links.{back_link}
use Rattle.network.specs.Keeping.{KeepsAll, LooseAt, SameStarts}
use Rattle.network.proofs.Points.{dec_point}
use Rattle.network.proofs.KeepLaws.{keeps_within, keeps_first, loose_last, start_loose, start_used, start_others}
use Rattle.answer.specs.Spares.{Started, StartsMore, Unkept, AllKept}
use Rattle.network.proofs.NodeBytes.{link_end}
use Rattle.network.proofs.NodeBytes as bytes

pub top_few : {j : Job} {g : Grid} {s : List ℕ} → KeepsAll j g s → (0 < g.top) × (g.top ≤ max_steps)
top_few {j} k = (omega (arith, ap (λ g. g.top) k.grid), omega (arith, ap (λ g. g.top) k.grid, few_steps j k.ready.fit))

-- The line of the cart on c has come to x.
pub record KeptTo (j : Job) (g : Grid) (s₀ s : List ℕ) (c : ℕ) (x : Point) : Type 0 where
  pub loose : LooseAt j g s x
  pub more : StartsMore j s₀ s c

module _ {j : Job} {g : Grid} {s : List ℕ} (k : KeepsAll j g s) (c : ℕ) (cart : In c j.carts) where
  start_inside : Inside j (point c 0)
  start_inside = (k.ready.fit.known_carts c cart, omega arith)

  pub start_within : Within g s (place_in g c 0)
  start_within = keeps_within k start_inside

  pub kept_first : {s' : List ℕ} → used_at g s (place_in g c 0) ≡ 0 → s' ≡ with_used g s (place_in g c 0) 1 → KeptTo j g s s' c (point c 0)
  kept_first {s'} free e = record { loose = start_loose k c cart free e; more = record { new = λ f. nope (cc (start_used k c cart free e)); old = old } }
    where
      old : (d : ℕ) → Started j s d → Started j s' d
      old d h f = go (dec_point (point d 0) (point c 0))
        where
          go : Dec (point d 0 ≡ point c 0) → ⊥
          go (yes q) = nope (cc (start_used k c cart free e, ap (back_link j s') q))
          go (no n) = h (sym (start_others k c cart free e (point d 0) n) ∙ f)

module _ {j : Job} {g : Grid} {s₀ s s' : List ℕ} {c : ℕ} where
  pub kept_more : {x y : Point} → KeptTo j g s₀ s c x → LooseAt j g s' y × SameStarts j s s' → KeptTo j g s₀ s' c y
  kept_more h (l, same) = record { loose = l; more = record { new = λ f. h.more.new (sym (same (point c 0) refl) ∙ f); old = λ d st f. h.more.old d st (sym (same (point d 0) refl) ∙ f) } }

pub kept_last : {j : Job} {g : Grid} {s₀ s : List ℕ} {c a t : ℕ} → KeptTo j g s₀ s c (point a t) → t < g.top → g.top ≤ t + 1 → KeepsAll j g s × StartsMore j s₀ s c
kept_last h low high = (loose_last h.loose (omega (arith, ap (λ g. g.top) h.loose.keeps.grid)), h.more)

-- The first k carts have lines.
pub record KeptUpTo (j : Job) (g : Grid) (s : List ℕ) (k : ℕ) : Type 0 where
  pub keeps : KeepsAll j g s
  pub some : (i : ℕ) → i < k → Started j s (cart_cell j i)

module _ {j : Job} {carts : List ℕ} {g : Grid} {s₀ : List ℕ} (u : Unkept j carts g s₀) where
  pub kept_none : KeptUpTo j g s₀ 0
  kept_none = record { keeps = keeps_first u.holds u.full; some = λ i l. absurd (omega arith) }

  pub cart_in : {k c : ℕ} → k < length carts → c ≡ get_or carts k 0 → In c j.carts
  cart_in {k} l e = rw (e, u.listed) (in_get_or carts k 0 l)

  module _ {s : List ℕ} {k c : ℕ} (h : KeptUpTo j g s k) (l : k < length carts) (e : c ≡ get_or carts k 0) where
    is : cart_cell j k ≡ c
    is = ap (λ cs. get_or cs k 0) u.listed ∙ sym e

    -- It has a line already, or is given one.
    pub kept_had : (used_at g s (place_in g c 0) ≡ 0 → ⊥) → KeptUpTo j g s (k + 1)
    kept_had used = record { keeps = h.keeps; some = λ i m. go i m (dec-lt i k) }
      where
        there : is_used j s (point c 0) ≡ true
        there = bytes.used j s (point c 0) (h.keeps.ready.fit.known_carts c (cart_in l e), omega arith) (λ f. used (rw h.keeps.grid f))

        had : Started j s c
        had f = nope (cc (link_end (is_used j s (point c 0)) (eqb 0 0) (to (came_from (grid_of j) s (point c 0))) there refl))

        go : (i : ℕ) → i < k + 1 → Dec (i < k) → Started j s (cart_cell j i)
        go i m (yes n) = h.some i n
        go i m (no n) = let z : i ≡ k = omega arith in rw (z, is) had

    pub kept_given : {s' : List ℕ} → KeepsAll j g s' × StartsMore j s s' c → KeptUpTo j g s' (k + 1)
    kept_given {s'} (w, more) = record { keeps = w; some = λ i m. go i m (dec-lt i k) }
      where
        go : (i : ℕ) → i < k + 1 → Dec (i < k) → Started j s' (cart_cell j i)
        go i m (yes n) = more.old (cart_cell j i) (h.some i n)
        go i m (no n) = let z : i ≡ k = omega arith in rw (z, is) more.new

  pub kept_all : {s : List ℕ} {k : ℕ} → k ≡ length carts → KeptUpTo j g s k → AllKept j g s
  kept_all {s} {k} e h = record { keeps = h.keeps; all = all }
    where
      all : (c : ℕ) → In c j.carts → Started j s c
      all c i = let (m, l, f) = in_place c j.carts 0 i in rw f (h.some m (omega (arith, ap length u.listed)))
