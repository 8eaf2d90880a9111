-- What writes to the store change, plane by plane: the bytes written, and no others. Assumes nothing.
use Prim.Native.Nat.{ℕ, ◌+◌, ◌*◌, ◌/◌, ◌%◌, ◌<◌, ◌≤◌}
use mathlib.Core.Path.{◌≡◌, ◌∙◌}
use mathlib.Core.List.{List}
use native.Mathlib.Omega.{arith}
use lib.ListN.{length, set, length-set}
use Rattle.model.specs.Choke.{Point}
use Rattle.network.specs.Store.{spot, at, mark_at, used_at, next_at, prev_at, cell_at, step_at, via_at, with_mark, with_used, with_next, with_prev, with_entry, Spacious}
use Rattle.network.specs.Holds.{SameFlow}
use Rattle.network.specs.declared.planes.Grid.{Grid}
use Rattle.network.proofs.Points.{point_eq}
use Rattle.network.proofs.StoreBytes.{at_same, at_other, row_below}

-- What k places have is the same; or it differs at most at v, where it is b now.
abbrev pub Same : {A : Type 0} → ℕ → (ℕ → A) → (ℕ → A) → Type 0
Same k f f' = (w : ℕ) → w < k → f' w ≡ f w

pub record SetAt {A : Type 0} (k v : ℕ) (b : A) (f f' : ℕ → A) : Type 0 where
  pub here : f' v ≡ b
  pub else : (w : ℕ) → w < k → (w ≡ v → ⊥) → f' w ≡ f w

-- The planes of the stack are the same.
pub record SameStack (g : Grid) (s s' : List ℕ) : Type 0 where
  pub cell : Same g.nodes (cell_at g s) (cell_at g s')
  pub step : Same g.nodes (step_at g s) (step_at g s')
  pub via : Same g.nodes (via_at g s) (via_at g s')

-- The node at v was marked, and entry d of the stack was set.
pub record Pushed (g : Grid) (s s' : List ℕ) (v stamp d : ℕ) (x via : Point) : Type 0 where
  pub same : SameFlow g s s'
  pub mark : SetAt g.nodes v stamp (mark_at g s) (mark_at g s')
  pub cell : SetAt g.nodes d x.cell (cell_at g s) (cell_at g s')
  pub step : SetAt g.nodes d x.step (step_at g s) (step_at g s')
  pub way : SetAt g.nodes d via (via_at g s) (via_at g s')

-- The node at u leads on to the cell c now, that at v came from x, b says whether u is used, and the node at w has the mark m.
pub record Joined (g : Grid) (s s' : List ℕ) (u c v x b w m : ℕ) : Type 0 where
  pub long : length s' ≡ length s
  pub used : SetAt g.nodes u b (used_at g s) (used_at g s')
  pub mark : SetAt g.nodes w m (mark_at g s) (mark_at g s')
  pub next : SetAt g.nodes u c (next_at g s) (next_at g s')
  pub prev : SetAt g.nodes v x (prev_at g s) (prev_at g s')
  pub stack : SameStack g s s'

-- The node at v is used now, and not marked.
pub record Opened (g : Grid) (s s' : List ℕ) (v b m : ℕ) : Type 0 where
  pub long : length s' ≡ length s
  pub used : SetAt g.nodes v b (used_at g s) (used_at g s')
  pub mark : SetAt g.nodes v m (mark_at g s) (mark_at g s')
  pub next : Same g.nodes (next_at g s) (next_at g s')
  pub prev : Same g.nodes (prev_at g s) (prev_at g s')

module _ {A : Type 0} {k v : ℕ} {b : A} {f f' f'' : ℕ → A} where
  set_same : v < k → SetAt k v b f f' → Same k f' f'' → SetAt k v b f f''
  set_same l a e = record { here = e v l ∙ a.here; else = λ w h n. e w h ∙ a.else w h n }

  same_set : Same k f f' → SetAt k v b f' f'' → SetAt k v b f f''
  same_set e a = record { here = a.here; else = λ w h n. a.else w h n ∙ e w h }

-- One write, to the plane q.
module _ (g : Grid) (s : List ℕ) (q v b : ℕ) (l : v < g.nodes) where
  pub set_here : 9 * g.nodes ≤ length s → q ≤ 8 → SetAt g.nodes v b (at g s q) (at g (set s (spot g q v) b) q)
  set_here h few = record { here = at_same g s q v b (omega (arith, row_below g.nodes q 8 v l few)); else = λ w m n. at_other g s q v b q w l m (λ _ e. n e) }

  pub kept : (p : ℕ) → (p ≡ q → ⊥) → Same g.nodes (at g s p) (at g (set s (spot g q v) b) p)
  kept p n w m = at_other g s q v b p w l m (λ e _. n e)

two_bytes : (t : ℕ) → t % 256 + 256 * (t / 256) ≡ t
two_bytes t = omega arith

module _ (g : Grid) (s : List ℕ) (h : Spacious g s) where
  -- An entry of the stack is written plane by plane: those of the position, then those of the node by way of which it was reached.
  module _ (v stamp d : ℕ) (x via : Point) (hv : v < g.nodes) (hd : d < g.nodes) where
    abbrev m₁ : List ℕ
    m₁ = with_mark g s v stamp

    abbrev m₂ : List ℕ
    m₂ = set m₁ (spot g 4 d) x.cell

    abbrev m₃ : List ℕ
    m₃ = set m₂ (spot g 5 d) (x.step % 256)

    abbrev m₄ : List ℕ
    m₄ = set m₃ (spot g 6 d) (x.step / 256)

    abbrev m₅ : List ℕ
    m₅ = set m₄ (spot g 7 d) via.cell

    abbrev m₆ : List ℕ
    m₆ = with_entry g m₁ d x via

    -- What is written behind a plane leaves it, and so does what is written before.
    past₅ : (p : ℕ) → p < 8 → Same g.nodes (at g m₅ p) (at g m₆ p)
    past₅ p l = kept g m₅ 8 d via.step hd p (λ e. omega arith)

    past₄ : (p : ℕ) → p < 7 → Same g.nodes (at g m₄ p) (at g m₆ p)
    past₄ p l w m = past₅ p (omega arith) w m ∙ kept g m₄ 7 d via.cell hd p (λ e. omega arith) w m

    past₃ : (p : ℕ) → p < 6 → Same g.nodes (at g m₃ p) (at g m₆ p)
    past₃ p l w m = past₄ p (omega arith) w m ∙ kept g m₃ 6 d (x.step / 256) hd p (λ e. omega arith) w m

    past₂ : (p : ℕ) → p < 5 → Same g.nodes (at g m₂ p) (at g m₆ p)
    past₂ p l w m = past₃ p (omega arith) w m ∙ kept g m₂ 5 d (x.step % 256) hd p (λ e. omega arith) w m

    past₁ : (p : ℕ) → p < 4 → Same g.nodes (at g m₁ p) (at g m₆ p)
    past₁ p l w m = past₂ p (omega arith) w m ∙ kept g m₁ 4 d x.cell hd p (λ e. omega arith) w m

    till₁ : (p : ℕ) → (p ≡ 1 → ⊥) → Same g.nodes (at g s p) (at g m₁ p)
    till₁ p n = kept g s 1 v stamp hv p n

    till₂ : (p : ℕ) → 4 < p → Same g.nodes (at g s p) (at g m₂ p)
    till₂ p l w m = kept g m₁ 4 d x.cell hd p (λ e. omega arith) w m ∙ till₁ p (λ e. omega arith) w m

    till₃ : (p : ℕ) → 5 < p → Same g.nodes (at g s p) (at g m₃ p)
    till₃ p l w m = kept g m₂ 5 d (x.step % 256) hd p (λ e. omega arith) w m ∙ till₂ p (omega arith) w m

    till₄ : (p : ℕ) → 6 < p → Same g.nodes (at g s p) (at g m₄ p)
    till₄ p l w m = kept g m₃ 6 d (x.step / 256) hd p (λ e. omega arith) w m ∙ till₃ p (omega arith) w m

    till₅ : (p : ℕ) → 7 < p → Same g.nodes (at g s p) (at g m₅ p)
    till₅ p l w m = kept g m₄ 7 d via.cell hd p (λ e. omega arith) w m ∙ till₄ p (omega arith) w m

    flow : (p : ℕ) → p < 4 → (p ≡ 1 → ⊥) → Same g.nodes (at g s p) (at g m₆ p)
    flow p l n w m = past₁ p l w m ∙ till₁ p n w m

    low : SetAt g.nodes d (x.step % 256) (at g s 5) (at g m₆ 5)
    low = set_same hd (same_set (till₂ 5 (omega arith)) (set_here g m₂ 5 d (x.step % 256) hd (simp length-set h) (omega arith))) (past₃ 5 (omega arith))

    over : SetAt g.nodes d (x.step / 256) (at g s 6) (at g m₆ 6)
    over = set_same hd (same_set (till₃ 6 (omega arith)) (set_here g m₃ 6 d (x.step / 256) hd (simp length-set h) (omega arith))) (past₄ 6 (omega arith))

    way_cell : SetAt g.nodes d via.cell (at g s 7) (at g m₆ 7)
    way_cell = set_same hd (same_set (till₄ 7 (omega arith)) (set_here g m₄ 7 d via.cell hd (simp length-set h) (omega arith))) (past₅ 7 (omega arith))

    way_step : SetAt g.nodes d via.step (at g s 8) (at g m₆ 8)
    way_step = same_set (till₅ 8 (omega arith)) (set_here g m₅ 8 d via.step hd (simp length-set h) (omega arith))

    pub pushes : Pushed g s (with_entry g (with_mark g s v stamp) d x via) v stamp d x via
    pushes = record {
      same = record { long = simp length-set; used = flow 0 (omega arith) (λ e. omega arith); next = flow 2 (omega arith) (λ e. omega arith); prev = flow 3 (omega arith) (λ e. omega arith) };
      mark = set_same hv (set_here g s 1 v stamp hv h (omega arith)) (past₁ 1 (omega arith));
      cell = set_same hd (same_set (till₁ 4 (λ e. omega arith)) (set_here g m₁ 4 d x.cell hd (simp length-set h) (omega arith))) (past₂ 4 (omega arith));
      step = record { here = (λ i. low.here i + 256 * over.here i) ∙ two_bytes x.step; else = λ w m n i. low.else w m n i + 256 * over.else w m n i };
      way = record { here = point_eq way_cell.here way_step.here; else = λ w m n. point_eq (way_cell.else w m n) (way_step.else w m n) };
    }

  module _ (u c v x b w m : ℕ) (hu : u < g.nodes) (hv : v < g.nodes) (hw : w < g.nodes) where
    abbrev s₁ : List ℕ
    s₁ = with_next g s u c

    abbrev s₂ : List ℕ
    s₂ = with_prev g s₁ v x

    abbrev s₃ : List ℕ
    s₃ = with_used g s₂ u b

    stack : (p : ℕ) → 4 ≤ p → Same g.nodes (at g s p) (at g (with_mark g s₃ w m) p)
    stack p l y n =
        kept g s₃ 1 w m hw p (λ e. omega arith) y n ∙ kept g s₂ 0 u b hu p (λ e. omega arith) y n ∙ kept g s₁ 3 v x hv p (λ e. omega arith) y n ∙ kept g s 2 u c hu p (λ e. omega arith) y n

    pub joins : Joined g s (with_mark g (with_used g (with_prev g (with_next g s u c) v x) u b) w m) u c v x b w m
    joins = record {
      long = simp length-set;
      used = set_same hu (same_set (λ y n. kept g s₁ 3 v x hv 0 (λ e. omega arith) y n ∙ kept g s 2 u c hu 0 (λ e. omega arith) y n) (set_here g s₂ 0 u b hu (simp length-set h) (omega arith)))
          (kept g s₃ 1 w m hw 0 (λ e. omega arith));
      mark = same_set (λ y n. kept g s₂ 0 u b hu 1 (λ e. omega arith) y n ∙ kept g s₁ 3 v x hv 1 (λ e. omega arith) y n ∙ kept g s 2 u c hu 1 (λ e. omega arith) y n)
          (set_here g s₃ 1 w m hw (simp length-set h) (omega arith));
      next = set_same hu (set_here g s 2 u c hu h (omega arith))
          (λ y n. kept g s₃ 1 w m hw 2 (λ e. omega arith) y n ∙ kept g s₂ 0 u b hu 2 (λ e. omega arith) y n ∙ kept g s₁ 3 v x hv 2 (λ e. omega arith) y n);
      prev = set_same hv (same_set (kept g s 2 u c hu 3 (λ e. omega arith)) (set_here g s₁ 3 v x hv (simp length-set h) (omega arith)))
          (λ y n. kept g s₃ 1 w m hw 3 (λ e. omega arith) y n ∙ kept g s₂ 0 u b hu 3 (λ e. omega arith) y n);
      stack = record {
        cell = stack 4 (omega arith);
        step = λ y n i. stack 5 (omega arith) y n i + 256 * stack 6 (omega arith) y n i;
        via = λ y n. point_eq (stack 7 (omega arith) y n) (stack 8 (omega arith) y n);
      };
    }

  module _ (v b m : ℕ) (hv : v < g.nodes) where
    pub opens : Opened g s (with_mark g (with_used g s v b) v m) v b m
    opens = record {
      long = simp length-set;
      used = set_same hv (set_here g s 0 v b hv h (omega arith)) (kept g (with_used g s v b) 1 v m hv 0 (λ e. omega arith));
      mark = same_set (kept g s 0 v b hv 1 (λ e. omega arith)) (set_here g (with_used g s v b) 1 v m hv (simp length-set h) (omega arith));
      next = λ w l. kept g (with_used g s v b) 1 v m hv 2 (λ e. omega arith) w l ∙ kept g s 0 v b hv 2 (λ e. omega arith) w l;
      prev = λ w l. kept g (with_used g s v b) 1 v m hv 3 (λ e. omega arith) w l ∙ kept g s 0 v b hv 3 (λ e. omega arith) w l;
    }
