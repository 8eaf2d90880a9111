-- The store after the hops from i on are laid, plane by plane: each hop's byte stands at its node, and every other byte is as it was.
-- As no two hops write one byte of a plane, a hop more adds its own bytes and keeps the others'. Assumes nothing.
use Prim.Native.Nat.{ℕ, suc, ◌<◌, ◌≤◌}
use mathlib.Core.Path.{◌≡◌, sym, ◌∙◌}
use mathlib.Core.List.{List}
use mathlib.Core.Logic.{◌⊎◌, inl, inr, ⊎_elim}
use native.Mathlib.Omega.{arith}
use lib.ListN.{length}
use Rattle.model.specs.Job.{Job}
use Rattle.model.specs.Choke.{point}
use Rattle.model.proofs.Decide.{dec_eq}
use Rattle.network.specs.Store.{nodes, grid_of, idx, place_at, used_at, mark_at, next_at, prev_at}
use Rattle.network.specs.declared.planes.Grid.{Grid}
use Rattle.network.proofs.StoreBytes.{idx_below, idx_one}
use Rattle.network.proofs.PlaneLaws.{SetAt, SameStack, Joined, joins}
use Rattle.route.specs.Stack.{pos_at, via_of}
use Rattle.route.specs.Lay.{use_of, from_of, joined, laid}
use Rattle.route.specs.Search.{MarksOr}
use Rattle.route.proofs.Stack.{pos_in, via_in, Stacked, vias_apart, places_apart, via_inside}

-- The functions differ at most at the nodes a m with i ≤ m < e, where the new one is b m.
pub record Over (k : ℕ) (a b : ℕ → ℕ) (i e : ℕ) (f f' : ℕ → ℕ) : Type 0 where
  pub new : (m : ℕ) → i ≤ m → m < e → f' (a m) ≡ b m
  pub old : (v : ℕ) → v < k → ((m : ℕ) → i ≤ m → m < e → v ≡ a m → ⊥) → f' v ≡ f v

over_more : {k : ℕ} {a b : ℕ → ℕ} {i e : ℕ} {f f' f'' : ℕ → ℕ} → i < e → ((m : ℕ) → m < e → a m < k) → ((m : ℕ) → i < m → m < e → a m ≡ a i → ⊥)
    → Over k a b (suc i) e f f' → SetAt k (a i) (b i) f' f'' → Over k a b i e f f''
over_more {a = a} {b} {i} {e} {f'' = f''} h small own o w =
    record { new = λ m l g. new m l g (dec_eq m i); old = λ v l g. w.else v l (g i (omega arith) h) ∙ o.old v l (λ m p q. g m (omega arith) q) }
  where
    new : (m : ℕ) → i ≤ m → m < e → Dec (m ≡ i) → f'' (a m) ≡ b m
    new m l g (yes q) = rw q w.here
    new m l g (no q) = let l' : i < m = omega arith in w.else (a m) (small m g) (own m l' g) ∙ o.new m l' g

-- the byte of the node that hop m goes by, and what the position that it leaves keeps of that node
abbrev pub use_at : Grid → List ℕ → ℕ → ℕ
use_at g s m = use_of g (pos_at g s m) (via_of g s m)

abbrev pub from_at : Grid → List ℕ → ℕ → ℕ
from_at g s m = from_of g (pos_at g s m) (via_of g s m)

-- The hops from i to below e are laid.
pub record Laid (g : Grid) (s s' : List ℕ) (i e : ℕ) : Type 0 where
  pub long : length s' ≡ length s
  pub marks : MarksOr g s s' 0
  pub stack : SameStack g s s'
  pub used : Over g.nodes (λ m. place_at g (via_of g s m)) (use_at g s) i e (used_at g s) (used_at g s')
  pub next : Over g.nodes (λ m. place_at g (via_of g s m)) (λ m. (pos_at g s m).cell) i e (next_at g s) (next_at g s')
  pub prev : Over g.nodes (λ m. place_at g (pos_at g s m)) (from_at g s) i e (prev_at g s) (prev_at g s')

-- Marks that are as they were or 0, after a write of one that is 0.
pub marks_more : (g : Grid) (s s' s'' : List ℕ) (w : ℕ) → MarksOr g s s' 0 → SetAt g.nodes w 0 (mark_at g s') (mark_at g s'') → MarksOr g s s'' 0
marks_more g s s' s'' w m e v l = go (dec_eq v w)
  where
    go : Dec (v ≡ w) → (mark_at g s'' v ≡ mark_at g s v) ⊎ (mark_at g s'' v ≡ 0)
    go (yes q) = inr (rw q e.here)
    go (no q) = let f = e.else v l q in ⊎_elim (λ p. inl (f ∙ p)) (λ p. inr (f ∙ p)) (m v l)

module _ {j : Job} {s : List ℕ} {e : ℕ} (w : Stacked j s e) (s' : List ℕ) (i : ℕ) (l : i < e) (done : Laid (grid_of j) s s' (suc i) e) where
  abbrev s'' : List ℕ
  s'' = joined (grid_of j) s' (pos_in j s i) (via_in j s i) (pos_in j s (suc i))

  wrote : Joined (grid_of j) s' s'' (idx j (via_in j s i)) (pos_in j s i).cell (idx j (pos_in j s i)) (from_at (grid_of j) s i) (use_at (grid_of j) s i) (idx j (pos_in j s (suc i))) 0
  wrote =
      joins (grid_of j) s' (omega (arith, w.room, done.long)) _ _ _ _ _ _ _
      (idx_below j (via_inside w i l)) (idx_below j (w.known i (omega arith))) (idx_below j (w.known (suc i) l))

  via_below : (m : ℕ) → m < e → idx j (via_in j s m) < nodes j
  via_below m h = idx_below j (via_inside w m h)

  via_own : (m : ℕ) → i < m → m < e → idx j (via_in j s m) ≡ idx j (via_in j s i) → ⊥
  via_own m h g q = vias_apart w i m h g (sym (idx_one j (via_inside w m g) (via_inside w i l) q))

  pos_own : (m : ℕ) → i < m → m < e → idx j (pos_in j s m) ≡ idx j (pos_in j s i) → ⊥
  pos_own m h g q = places_apart w i m h (omega arith) (sym (idx_one j (w.known m (omega arith)) (w.known i (omega arith)) q))

  joined_laid : Laid (grid_of j) s s'' i e
  joined_laid = record {
    long = wrote.long ∙ done.long;
    marks = marks_more (grid_of j) s s' s'' _ done.marks wrote.mark;
    stack = let a = wrote.stack in let b = done.stack in
        record { cell = λ v h. a.cell v h ∙ b.cell v h; step = λ v h. a.step v h ∙ b.step v h; via = λ v h. a.via v h ∙ b.via v h };
    used = over_more l via_below via_own done.used wrote.used;
    next = over_more l via_below via_own done.next wrote.next;
    prev = over_more l (λ m h. idx_below j (w.known m (omega arith))) pos_own done.prev wrote.prev;
  }

  -- The hop reads the stack, and that is as it was.
  pub laid_more : Laid (grid_of j) s (laid (grid_of j) s' i) i e
  laid_more =
      let a : i < nodes j = omega (arith, w.small) in
      let b : suc i < nodes j = omega (arith, w.small) in
      let k = done.stack in
      let same : laid (grid_of j) s' i ≡ s'' = λ n. joined (grid_of j) s' (point (k.cell i a n) (k.step i a n)) (k.via (suc i) b n) (point (k.cell (suc i) b n) (k.step (suc i) b n)) in
      rw same joined_laid
