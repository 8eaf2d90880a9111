-- A layer that grew: by nothing, by one cell, by two sets of cells one after the other, by what each of a list's cells adds. What was in the layer before a step stays so while cells
-- of that step are added. Assumes nothing.
use Prim.Native.Nat.{ℕ, ◌+◌, ◌<◌}
use mathlib.Core.Path.{◌≡◌, refl, sym, ◌∙◌, ap, subst}
use mathlib.Core.List.{List, [], ◌∷◌, ◌++◌}
use mathlib.Core.Logic.{⊎_elim, ◌⊎◌, ◌↔◌, inl, inr}
use native.Mathlib.Omega.{arith}
use lib.ListN.{length, get_or, set, take}
use lib.Seq.{get_or-set_same, take-length}
use Rattle.std.proofs.lemmas.List.{append-nil, append_assoc, take_more, length-append}
use Rattle.model.specs.Lists.{In}
use Rattle.model.proofs.Lists.{in_left, in_right, in_part}
use Rattle.floor.specs.Tables.{OpenAt}
use Rattle.floor.proofs.TableLaws.{AfterSet, new, old, after_set}
use Rattle.chokejudge.specs.declared.layer.Reach.{Reach}
use Rattle.chokejudge.specs.Grown.{Roomy, Older, Grown}
use Rattle.chokejudge.proofs.Numbers.{zero_or}
use Rattle.chokejudge.proofs.MemberLaws.{members_add}

pub grown_none : {shut : List ℕ} (t : ℕ) {P : ℕ → Type 0} (a : Reach) → ((v : ℕ) → P v → OpenAt shut t v → 0 < get_or a.since v 0) → Grown shut t P a a
grown_none t a h = record {
  added = [];
  queue = sym (append-nil a.queue.items);
  count = omega arith;
  opens = refl;
  closed = refl;
  kept = λ v p. refl;
  only = λ v e p. absurd (omega arith);
  all = h;
}

-- One cell: it was in the layer or is closed, or it is put in.
pub grown_out : {shut : List ℕ} (t : ℕ) (a : Reach) (v : ℕ) → (get_or a.since v 0 ≡ 0 → OpenAt shut t v → ⊥) → Grown shut t (λ x. x ≡ v) a a
grown_out t a v out = grown_none t a (λ x e o. ⊎_elim (λ z. absurd (out (ap (λ y. get_or a.since y 0) (sym e) ∙ z) (rw e at o))) (λ p. p) (zero_or (get_or a.since x 0)))

pub grown_new : {shut : List ℕ} (t : ℕ) (a b : Reach) (v : ℕ) → b.since ≡ set a.since v (t + 1) → b.queue.items ≡ a.queue.items ++ (v ∷ []) → b.opens ≡ a.opens → b.closed ≡ a.closed
    → v < length a.since → get_or a.since v 0 ≡ 0 → OpenAt shut t v → Grown shut t (λ x. x ≡ v) a b
grown_new {shut = shut} t a b v e q s c h z o = record {
  added = v ∷ [];
  queue = q;
  count = rw e (omega (arith, members_add a.since v (t + 1) h z (omega arith)));
  opens = s;
  closed = c;
  kept = λ x p. rw e (kept x p (after_set a.since v (t + 1) x h));
  only = λ x d p. rw e (only x d (rw e at p) (after_set a.since v (t + 1) x h));
  all = λ x d o. rw (e, d, get_or-set_same a.since v (t + 1) 0 h) (omega arith);
}
  where
    kept : (x : ℕ) → 0 < get_or a.since x 0 → AfterSet a.since v (t + 1) x → get_or (set a.since v (t + 1)) x 0 ≡ get_or a.since x 0
    kept x p (new d f) = absurd (omega (arith, ap (λ y. get_or a.since y 0) d))
    kept x p (old d f) = f

    only : (x : ℕ) → get_or a.since x 0 ≡ 0 → 0 < get_or (set a.since v (t + 1)) x 0 → AfterSet a.since v (t + 1) x
        → (get_or (set a.since v (t + 1)) x 0 ≡ t + 1) × OpenAt shut t x × ((x ≡ v) × In x (v ∷ []))
    only x d p (new f g) = (g, rw f o, (f, inl f))
    only x d p (old f g) = absurd (omega arith)

pub grown_as : {shut : List ℕ} {t : ℕ} {P Q : ℕ → Type 0} {a b : Reach} → ((v : ℕ) → P v ↔ Q v) → Grown shut t P a b → Grown shut t Q a b
grown_as e g = record {
  added = g.added;
  queue = g.queue;
  count = g.count;
  opens = g.opens;
  closed = g.closed;
  kept = g.kept;
  only = λ v z p. let (s, o, (b, d)) = g.only v z p in (s, o, ((e v).0 b, d));
  all = λ v q. g.all v ((e v).1 q);
}

module _ {shut : List ℕ} {t : ℕ} {P Q : ℕ → Type 0} {a b c : Reach} (g : Grown shut t P a b) (h : Grown shut t Q b c) where
  then_only : (v : ℕ) → get_or a.since v 0 ≡ 0 → 0 < get_or c.since v 0 → (get_or b.since v 0 ≡ 0) ⊎ (0 < get_or b.since v 0)
      → (get_or c.since v 0 ≡ t + 1) × OpenAt shut t v × ((P v ⊎ Q v) × In v (g.added ++ h.added))
  then_only v z p (inl e) = let (s, o, (q, m)) = h.only v e p in (s, o, (inr q, in_right v g.added h.added m))
  then_only v z p (inr q) = let (s, o, (r, m)) = g.only v z q in (h.kept v q ∙ s, o, (inl r, in_left v g.added h.added m))

  pub grown_then : Grown shut t (λ v. P v ⊎ Q v) a c
  grown_then = record {
    added = g.added ++ h.added;
    queue = h.queue ∙ ap (λ q. q ++ h.added) g.queue ∙ append_assoc a.queue.items g.added h.added;
    count = omega (arith, g.count, h.count, length-append g.added h.added);
    opens = h.opens ∙ g.opens;
    closed = h.closed ∙ g.closed;
    kept = λ v p. h.kept v (omega (arith, g.kept v p)) ∙ g.kept v p;
    only = λ v z p. then_only v z p (zero_or (get_or b.since v 0));
    all = λ v. ⊎_elim (λ p o. let q = g.all v p o in omega (arith, h.kept v q)) (λ q o. h.all v q o);
  }

module _ {shut : List ℕ} {t : ℕ} {P : ℕ → Type 0} {a b : Reach} (g : Grown shut t P a b) where
  pub grown_roomy : Roomy a → Roomy b
  grown_roomy r = omega (arith, g.count, ap length g.queue, length-append a.queue.items g.added, r)

  pub older_same : (v : ℕ) → Older b t v ↔ Older a t v
  older_same v = (λ o. there o (zero_or (get_or a.since v 0)), λ o. (omega (arith, g.kept v o.0, o.0), omega (arith, g.kept v o.0, o.1)))
    where
      there : Older b t v → (get_or a.since v 0 ≡ 0) ⊎ (0 < get_or a.since v 0) → Older a t v
      there (p, q) (inl e) = absurd (omega (arith, (g.only v e p).0))
      there (p, q) (inr h) = (h, omega (arith, g.kept v h))

  pub older_some : (R : ℕ → Type 0) → ((x : ℕ) × R x × Older b t x) ↔ ((x : ℕ) × R x × Older a t x)
  older_some R = (λ p. (p.0, p.1, (older_same p.0).0 p.2), λ p. (p.0, p.1, (older_same p.0).1 p.2))

-- What the first i cells of a list add, by what one of them does.
abbrev pub Each : List ℕ → (ℕ → ℕ → Type 0) → ℕ → ℕ → Type 0
Each list S i v = (u : ℕ) × In u (take i list) × S u v

module _ {shut : List ℕ} {t : ℕ} (list : List ℕ) (S : ℕ → ℕ → Type 0) where
  pub each_none : (a : Reach) → Grown shut t (Each list S 0) a a
  each_none a = grown_none t a (λ v p. absurd p.1)

  pub each_more : {a b c : Reach} (i : ℕ) → i < length list → Grown shut t (Each list S i) a b → Grown shut t (S (get_or list i 0)) b c → Grown shut t (Each list S (i + 1)) a c
  each_more i h g k = grown_as (λ v. (there v, back v)) (grown_then g k)
    where
      there : (v : ℕ) → Each list S i v ⊎ S (get_or list i 0) v → Each list S (i + 1) v
      there v (inl (u, m, s)) = (u, rw (take_more list i 0 h) (in_left u (take i list) (get_or list i 0 ∷ []) m), s)
      there v (inr s) = (get_or list i 0, rw (take_more list i 0 h) (in_right (get_or list i 0) (take i list) (get_or list i 0 ∷ []) (inl refl)), s)

      back : (v : ℕ) → Each list S (i + 1) v → Each list S i v ⊎ S (get_or list i 0) v
      back v (u, m, s) = go (in_part u (take i list) (get_or list i 0 ∷ []) (rw (take_more list i 0 h) at m))
        where
          go : In u (take i list) ⊎ In u (get_or list i 0 ∷ []) → Each list S i v ⊎ S (get_or list i 0) v
          go (inl n) = inl (u, n, s)
          go (inr (inl e)) = inr (rw e at s)
          go (inr (inr n)) = absurd n

  pub each_all : {a b : Reach} (i : ℕ) → i ≡ length list → Grown shut t (Each list S i) a b → Grown shut t (λ v. (u : ℕ) × In u list × S u v) a b
  each_all i e g = grown_as (λ v. (λ p. (p.0, rw (e, take-length list) at p.1, p.2), λ p. (p.0, rw (e, take-length list) p.1, p.2))) g

-- Cells that add themselves.
pub themselves : {shut : List ℕ} {t : ℕ} {B R : ℕ → Type 0} {a b : Reach} → Grown shut t (λ v. (u : ℕ) × B u × (R u × (v ≡ u))) a b → Grown shut t (λ v. B v × R v) a b
themselves {B = B} {R = R} g = grown_as (λ v. (λ p. let e = sym p.2.1 in (subst B e p.1, subst R e p.2.0), λ p. (v, p.0, (p.1, refl)))) g
