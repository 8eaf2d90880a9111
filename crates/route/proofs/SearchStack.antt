-- A depth-first search over the residual arcs of a flow, apart from its bytes: M are the marked nodes, the stack holds pos 0 .. pos (d - 1), and a hop by way
-- of via i leads from pos i to the next. Each marked node is on the stack or done; a marked goal is on top. F is what is known of the marks at the beginning. Assumes nothing.
use Prim.Native.Nat.{ℕ, zero, suc, ◌<◌}
use mathlib.Core.Path.{◌≡◌, refl, sym, ◌∙◌}
use mathlib.Core.List.{List, [], ◌∷◌, ◌++◌}
use mathlib.Core.Logic.{◌⊎◌, inl, inr, ⊎_elim}
use native.Mathlib.Omega.{arith}
use native.Mathlib.Decide.{ℕ_discrete, dec_lt}
use Rattle.model.specs.Lists.{In, NoDup}
use Rattle.flow.specs.Flow.{Link, off, arr, dep, Graph, Residual}
use Rattle.flow.specs.Way.{Hop, ats, last_at, Hops, Way}
use Rattle.flow.proofs.Hops.{last_split, hops_more}

-- All that is two arcs from v is marked.
abbrev pub Done : {N : Type 0} → Graph N → (N → Link N) → (N → Link N) → (N → Type 0) → N → Type 0
Done {N} G next prev M v = (w y : N) → Residual G next prev (dep v) (arr w) → Residual G next prev (arr w) (dep y) → M y

pub record Dfs {N : Type 0} (G : Graph N) (next prev : N → Link N) (F : Type 0) (M : N → Type 0) (pos via : ℕ → N) (x : N) (d : ℕ) : Type 0 where
  pub root : M x
  pub marked : (i : ℕ) → i < d → M (pos i)
  pub first : 0 < d → pos 0 ≡ x
  pub once : (i k : ℕ) → i < d → k < d → pos i ≡ pos k → i ≡ k
  pub hops : (i : ℕ) → suc i < d → Residual G next prev (dep (pos i)) (arr (via i)) × Residual G next prev (arr (via i)) (dep (pos (suc i)))
  pub done : F → (v : N) → M v → ((i : ℕ) × (i < d) × (pos i ≡ v)) ⊎ Done G next prev M v
  pub goals : F → (v : N) → M v → G.Goal v → (i : ℕ) × (suc i ≡ d) × (pos i ≡ v)

module _ {N : Type 0} (G : Graph N) (next prev : N → Link N) (F : Type 0) where
  pub dfs_start : (M : N → Type 0) (pos via : ℕ → N) (x : N) → M x → (F → (v : N) → M v → v ≡ x) → pos 0 ≡ x → Dfs G next prev F M pos via x 1
  dfs_start M pos via x m lone e = record {
    root = m;
    marked = λ i h. let z : i ≡ 0 = omega arith in rw (z, e) m;
    first = λ h. e;
    once = λ i k h h' f. omega arith;
    hops = λ i h. absurd (omega arith);
    done = λ f v mv. inl (0, omega arith, e ∙ sym (lone f v mv));
    goals = λ f v mv g. (0, refl, e ∙ sym (lone f v mv));
  }

  module _ {M : N → Type 0} {pos via : ℕ → N} {x : N} {m : ℕ} (r : Dfs G next prev F M pos via x (suc m)) (dull : G.Goal (pos m) → ⊥) where
    no_goals : F → (v : N) → M v → G.Goal v → ⊥
    no_goals f v mv g =
        let t = r.goals f v mv g in
        let z : t.0 ≡ m = omega (arith, t.1) in
        let q : pos m ≡ v = rw z at t.2 in
        dull (rw q g)

    pub dfs_pop : Done G next prev M (pos m) → Dfs G next prev F M pos via x m
    dfs_pop dn = record {
      root = r.root;
      marked = λ i h. r.marked i (omega arith);
      first = λ h. r.first (omega arith);
      once = λ i k h h'. r.once i k (omega arith) (omega arith);
      hops = λ i h. r.hops i (omega arith);
      done = λ f v mv. ⊎_elim (λ (t : (i : ℕ) × (i < suc m) × (pos i ≡ v)). place v t.0 t.1 t.2 (ℕ_discrete t.0 m)) inr (r.done f v mv);
      goals = λ f v mv g. absurd (no_goals f v mv g);
    }
      where
        place : (v : N) (i : ℕ) → i < suc m → pos i ≡ v → Dec (i ≡ m) → ((i : ℕ) × (i < m) × (pos i ≡ v)) ⊎ Done G next prev M v
        place v i h e (yes z) = let q : pos m ≡ v = rw z at e in inr (rw q at dn)
        place v i h e (no z) = inl (i, omega arith, e)

    module _ {M' : N → Type 0} {pos' via' : ℕ → N} {y : N} (free : M y → ⊥) (keeps : (v : N) → M v → M' v) (new : M' y) (only : (v : N) → M' v → M v ⊎ (v ≡ y))
        (pos-old : (i : ℕ) → i < suc m → pos' i ≡ pos i) (pos-new : pos' (suc m) ≡ y) (via-old : (i : ℕ) → suc i < suc m → via' i ≡ via i)
        (there : Residual G next prev (dep (pos m)) (arr (via' m))) (then : Residual G next prev (arr (via' m)) (dep y)) where
      data Place (i : ℕ) : Type 0 where
        old : i < suc m → pos' i ≡ pos i → Place i
        top : i ≡ suc m → pos' i ≡ y → Place i

      place : (i : ℕ) → i < suc (suc m) → Place i
      place i h = go (dec_lt i (suc m))
        where
          go : Dec (i < suc m) → Place i
          go (yes l) = old l (pos-old i l)
          go (no l) = let z : i ≡ suc m = omega arith in top z (rw z pos-new)

      apart : (i : ℕ) → i < suc m → pos i ≡ y → ⊥
      apart i h e = free (rw e at (r.marked i h))

      pub dfs_push : Dfs G next prev F M' pos' via' x (suc (suc m))
      dfs_push = record {
        root = keeps x r.root;
        marked = λ i h. marked i (place i h);
        first = λ h. pos-old 0 (omega arith) ∙ r.first (omega arith);
        once = λ i k h h'. once i k (place i h) (place k h');
        hops = λ i h. hops i h (dec_lt (suc i) (suc m));
        done = λ f v mv. done f v (only v mv);
        goals = λ f v mv g. goals f v g (only v mv);
      }
        where
          marked : (i : ℕ) → Place i → M' (pos' i)
          marked i (old h e) = rw e (keeps (pos i) (r.marked i h))
          marked i (top h e) = rw e new

          once : (i k : ℕ) → Place i → Place k → pos' i ≡ pos' k → i ≡ k
          once i k (old h e) (old h' e') q = r.once i k h h' (sym e ∙ q ∙ e')
          once i k (old h e) (top h' e') q = absurd (apart i h (sym e ∙ q ∙ e'))
          once i k (top h e) (old h' e') q = absurd (apart k h' (sym e' ∙ sym q ∙ e))
          once i k (top h e) (top h' e') q = h ∙ sym h'

          hops : (i : ℕ) → suc i < suc (suc m) → Dec (suc i < suc m)
              → Residual G next prev (dep (pos' i)) (arr (via' i)) × Residual G next prev (arr (via' i)) (dep (pos' (suc i)))
          hops i h (yes l) = rw (pos-old i (omega arith), pos-old (suc i) l, via-old i l) (r.hops i l)
          hops i h (no l) = let z : i ≡ m = omega arith in rw (z, pos-old m (omega arith), pos-new) (there, then)

          done : F → (v : N) → M v ⊎ (v ≡ y) → ((i : ℕ) × (i < suc (suc m)) × (pos' i ≡ v)) ⊎ Done G next prev M' v
          done f v (inr e) = inl (suc m, omega arith, pos-new ∙ sym e)
          done f v (inl mv) = ⊎_elim
              (λ (t : (i : ℕ) × (i < suc m) × (pos i ≡ v)). inl (t.0, omega (arith, t.1), pos-old t.0 t.1 ∙ t.2))
              (λ (t : Done G next prev M v). inr (λ w u a b. keeps u (t w u a b))) (r.done f v mv)

          goals : F → (v : N) → G.Goal v → M v ⊎ (v ≡ y) → (i : ℕ) × (suc i ≡ suc (suc m)) × (pos' i ≡ v)
          goals f v g (inl mv) = absurd (no_goals f v mv g)
          goals f v g (inr e) = (suc m, refl, pos-new ∙ sym e)

-- The hops of the stack, as a list that grows at its end.
module _ {N : Type 0} (G : Graph N) (next prev : N → Link N) where
  at_snoc : (hs : List (Hop N)) (h : Hop N) (y : N) → In y (ats (hs ++ (h ∷ []))) → In y (ats hs) ⊎ (y ≡ h.at)
  at_snoc [] h y (inl e) = inr e
  at_snoc [] h y (inr i) = absurd i
  at_snoc (k ∷ hs) h y (inl e) = inl (inl e)
  at_snoc (k ∷ hs) h y (inr i) = ⊎_elim (λ a. inl (inr a)) inr (at_snoc hs h y i)

  once_snoc : (s : N) (hs : List (Hop N)) (h : Hop N) → NoDup (s ∷ ats hs) → (In h.at (s ∷ ats hs) → ⊥) → NoDup (s ∷ ats (hs ++ (h ∷ [])))
  once_snoc s [] h nd ne = (λ i. ⊎_elim (λ e. ne (inl (sym e))) (λ b. absurd b) i, (λ i. absurd i, tt))
  once_snoc s (k ∷ hs) h nd ne =
      (λ i. ⊎_elim nd.0 (λ e. ne (inl (sym e))) (at_snoc (k ∷ hs) h s i), once_snoc k.at hs h nd.1 (λ i. ne (inr i)))

  module _ (hop : ℕ → Hop N) (hs : ℕ → List (Hop N)) (none : hs 0 ≡ []) (more : (m : ℕ) → hs (suc m) ≡ hs m ++ (hop m ∷ []))
      (pos : ℕ → N) (at-pos : (i : ℕ) → (hop i).at ≡ pos (suc i)) (x : N) (first : pos 0 ≡ x) where
    last_pos : (m : ℕ) → last_at x (hs m) ≡ pos m
    last_pos zero = rw none (sym first)
    last_pos (suc m) = rw (more m) (last_split x (hs m) (hop m) [] ∙ at-pos m)

    in_pos : (m : ℕ) (y : N) → In y (x ∷ ats (hs m)) → (i : ℕ) × (i < suc m) × (pos i ≡ y)
    in_pos m y (inl e) = (0, omega arith, first ∙ sym e)
    in_pos zero y (inr i) = absurd (rw none at i)
    in_pos (suc m) y (inr i) = ⊎_elim (λ (a : In y (ats (hs m))). let t = in_pos m y (inr a) in (t.0, omega (arith, t.1), t.2))
        (λ e. (suc m, omega arith, sym (at-pos m) ∙ sym e)) (at_snoc (hs m) (hop m) y (rw (more m) at i))

    hops-to : (m : ℕ) → ((i : ℕ) → i < m → Residual G next prev (dep (pos i)) (arr (hop i).via) × Residual G next prev (arr (hop i).via) (dep (pos (suc i))))
        → Hops G next prev x (hs m)
    hops-to zero a = rw none tt
    hops-to (suc m) a =
        let t = a m (omega arith) in
        rw (more m) (hops_more G next prev x (hs m) (hop m ∷ []) (hops-to m (λ i h. a i (omega arith))) (rw (last_pos m, at-pos m) (t.0, t.1, tt)))

    once_to : (m : ℕ) → ((i k : ℕ) → i < suc m → k < suc m → pos i ≡ pos k → i ≡ k) → NoDup (x ∷ ats (hs m))
    once_to zero o = rw none (λ i. absurd i, tt)
    once_to (suc m) o =
        rw (more m) (once_snoc x (hs m) (hop m) (once_to m (λ i k h h'. o i k (omega arith) (omega arith)))
        (λ i. let t = in_pos m (hop m).at i in absurd (omega (arith, t.1, o t.0 (suc m) (omega (arith, t.1)) (omega arith) (t.2 ∙ at-pos m)))))

    pub dfs_way : {F : Type 0} {M : N → Type 0} (m : ℕ) → Dfs G next prev F M pos (λ i. (hop i).via) x (suc m)
        → G.Start x → next x ≡ off → G.Goal (pos m) → Way G next prev x (hs m)
    dfs_way m r st un g = record {
      start = st;
      unused = un;
      hops = hops-to m (λ i h. r.hops i (omega arith));
      once = once_to m r.once;
      goal = rw (last_pos m) g;
    }
