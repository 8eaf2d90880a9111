-- One cart of the chain stands. If nobody was to come to its cell, the loose end is there, a step later. Else it is where that one is: it comes from another cell, and so fewer carts than before move
-- in this step, which is why the chain ends. Assumes nothing.
use Prim.Native.Nat.{ℕ, suc, ◌+◌, ◌≤◌, ◌<◌}
use mathlib.Core.Path.{◌≡◌, refl, ◌∙◌, ap}
use mathlib.Core.List.{List}
use mathlib.Core.Bool.{Bool, true, false, cond}
use mathlib.Core.Logic.{inl, inr}
use native.Mathlib.Omega.{arith}
use native.Mathlib.Numerals.{add-one}
use lib.Dec.{eqb}
use borrow.Author.Tests.{eq-eqb, ne_eqb}
use Rattle.model.specs.Limits.{max_cells, max_steps}
use Rattle.model.specs.Job.{Job, horizon}
use Rattle.model.specs.Choke.{Point, point}
use Rattle.model.proofs.Basics.{nope}
use Rattle.model.proofs.Written.{few_steps}
use Rattle.model.proofs.Tabled.{total, total_falls}
use Rattle.flow.specs.Flow.{to}
use Rattle.network.specs.declared.planes.Grid.{Grid}
use Rattle.network.specs.Graph.{top, Inside}
use Rattle.network.specs.Store.{place_in, used_at, prev_at, with_used, with_next, with_prev, Within}
use Rattle.network.specs.Links.{back_link}
use Rattle.network.specs.Keeping.{LooseAt, SameStarts}
use Rattle.network.proofs.Points.{point_eq}
use Rattle.network.proofs.StandBytes.{Stood, stood_used, stood_new}
use Rattle.network.proofs.KeepLaws.{keeps_within, loose_known, led_loose, same_starts}
use Rattle.answer.specs.Spares.{linked}
use Rattle.answer.proofs.Nodes.{came_step, back_off, back_to}

-- What `link` writes.
pub links : (g : Grid) (s : List ℕ) {s₁ s₂ : List ℕ} (u v c t : ℕ) → s₁ ≡ with_next g s u c → s₂ ≡ with_prev g s₁ v c → u ≡ place_in g c t → v ≡ place_in g c (t + 1) → s₂ ≡ linked g s c t
links g s u v c t e f h k = rw (f, e, h, k, add-one t) refl

-- 1 if the cart that is on the cell c behind the step t came from another, else 0; and how many of those there are
abbrev moves : Grid → List ℕ → ℕ → ℕ → ℕ
moves g s t c = cond (eqb (used_at g s (place_in g c (suc t))) 0) 0 (cond (eqb (prev_at g s (place_in g c (suc t))) c) 0 1)

abbrev pub movers : Grid → List ℕ → ℕ → ℕ
movers g s t = total (moves g s t) g.cells

module _ {j : Job} {g : Grid} {s : List ℕ} {c t : ℕ} (h : LooseAt j g s (point c t)) (early : suc t < g.top) where
  abbrev last : g.top ≡ top j
  last = ap (λ g. g.top) h.keeps.grid

  in_time : suc t ≤ horizon j
  in_time = omega (arith, last)

  here : Inside j (point c t)
  here = loose_known h in_time

  next : Inside j (point c (suc t))
  next = (here.0, omega (arith, in_time))

  pub cell_few : c < max_cells
  cell_few = omega (arith, here.0, h.keeps.ready.fit.few_cells)

  pub step_few : t < max_steps
  step_few = omega (arith, in_time, few_steps j h.keeps.ready.fit)

  pub here_within : Within g s (place_in g c t)
  here_within = keeps_within h.keeps here

  pub next_within : Within g s (place_in g c (suc t))
  next_within = keeps_within h.keeps next

  -- Somebody was to come.
  module _ (used : used_at g s (place_in g c (suc t)) ≡ 0 → ⊥) {came : ℕ} (told : came ≡ prev_at g s (place_in g c (suc t))) where
    written : Stood g s (linked g s c t) (place_in g c t) (place_in g c (suc t)) c (used_at g s (place_in g c (suc t)))
    written = stood_used g s here_within.0 (place_in g c t) (place_in g c (suc t)) c here_within.1 next_within.1

    comes : back_link j s (point c (suc t)) ≡ to (point came t)
    comes =
        back_to j h.keeps.grid s (point c (suc t)) next used (λ e. omega arith)
        ∙ ap to (came_step g s (point c (suc t)) refl told (λ e. omega arith) ∙ point_eq refl (omega arith))

    pub turn_loose : LooseAt j g (linked g s c t) (point came t)
    turn_loose = led_loose h in_time used written (inr comes)

    pub turn_starts : SameStarts j s (linked g s c t)
    turn_starts = same_starts h in_time used written

    -- It moved, as the loose end itself leads nowhere.
    moved : came ≡ c → ⊥
    moved e =
        let b : back_link j s (point c (suc t)) ≡ to (point c t) = comes ∙ ap to (point_eq e refl) in
        nope (cc (h.keeps.flow.forth (point c (suc t)) (point c t) b, h.loose))

    pub turn_fewer : movers g (linked g s c t) t < movers g s t
    turn_fewer = total_falls (moves g (linked g s c t) t) (moves g s t) c g.cells (rw h.keeps.grid here.0) falls others
      where
        before : moves g s t c ≡ 1
        before = rw (ne_eqb (used_at g s (place_in g c (suc t))) 0 used, ne_eqb (prev_at g s (place_in g c (suc t))) c (λ e. moved (told ∙ e)))

        after : moves g (linked g s c t) t c ≡ 0
        after = rw (eq-eqb (prev_at g (linked g s c t) (place_in g c (suc t))) c written.prev.here) (go (eqb (used_at g (linked g s c t) (place_in g c (suc t))) 0))
          where
            go : (b : Bool) → ◌≡◌ {A = ℕ} (cond b 0 0) 0
            go true = refl
            go false = refl

        falls : moves g (linked g s c t) t c < moves g s t c
        falls = omega (arith, before, after)

        others : (k : ℕ) → k < g.cells → (k ≡ c → ⊥) → moves g (linked g s c t) t k ≡ moves g s t k
        others k l n =
            let kept : Inside j (point k (suc t)) = (omega (arith, ap (λ g. g.cells) h.keeps.grid), next.1) in
            let small = (keeps_within h.keeps kept).1 in
            let apart : place_in g k (suc t) ≡ place_in g c (suc t) → ⊥ = λ e. n (omega arith) in
            rw (written.used.else (place_in g k (suc t)) small apart, written.prev.else (place_in g k (suc t)) small apart) refl

  -- Nobody was.
  module _ (free : used_at g s (place_in g c (suc t)) ≡ 0) where
    filled : ◌≡◌ {A = ℕ} 1 0 → ⊥
    filled e = omega arith

    alone : Stood g s (with_used g (linked g s c t) (place_in g c (suc t)) 1) (place_in g c t) (place_in g c (suc t)) c 1
    alone = stood_new g s here_within.0 (place_in g c t) (place_in g c (suc t)) c here_within.1 next_within.1 1

    pub end_loose : LooseAt j g (with_used g (linked g s c t) (place_in g c (suc t)) 1) (point c (suc t))
    end_loose = led_loose h in_time filled alone (inl (refl, back_off j h.keeps.grid s (point c (suc t)) free))

    pub end_starts : SameStarts j s (with_used g (linked g s c t) (place_in g c (suc t)) 1)
    end_starts = same_starts h in_time filled alone

-- The chain so far: where its loose end is now, and that step 0 is as it was.
pub record ChainTo (j : Job) (g : Grid) (s₀ s : List ℕ) (x : Point) : Type 0 where
  pub loose : LooseAt j g s x
  pub starts : SameStarts j s₀ s

pub chain_more : {j : Job} {g : Grid} {s₀ s s' : List ℕ} {x y : Point} → ChainTo j g s₀ s x → LooseAt j g s' y → SameStarts j s s' → ChainTo j g s₀ s' y
chain_more ch h st = record { loose = h; starts = λ x e. st x e ∙ ch.starts x e }

pub ended : (g : Grid) (s : List ℕ) {s₁ s₂ : List ℕ} (v c t : ℕ) → s₁ ≡ linked g s c t → s₂ ≡ with_used g s₁ v 1 → v ≡ place_in g c (suc t) → s₂ ≡ with_used g (linked g s c t) (place_in g c (suc t)) 1
ended g s v c t e f h = rw (f, e, h) refl

pub chain_end : {j : Job} {g : Grid} {s₀ s s' : List ℕ} {c t : ℕ} → ChainTo j g s₀ s (point c t) → suc t < g.top → used_at g s (place_in g c (suc t)) ≡ 0
    → s' ≡ with_used g (linked g s c t) (place_in g c (suc t)) 1 → LooseAt j g s' (point c (suc t)) × SameStarts j s₀ s'
chain_end ch early free e = let r = chain_more ch (end_loose ch.loose early free) (end_starts ch.loose early free) in rw e (r.loose, r.starts)
