-- The table holds one layer after the other. A cart may stand, so where the cells of a layer are open at the next step, the next layer keeps them but for its choke points. What
-- else a step leads to comes from a cell that was added at the step before, or was a choke point then: every other cell of the layer has been spread from, and what it leads to
-- stayed, or is closed from then on. A cell of a layer was in an earlier one, or was added at its step. Assumes nothing.
use Prim.Native.Nat.{ℕ, zero, suc, ◌+◌, ◌≤◌, ◌<◌}
use mathlib.Core.Path.{◌≡◌}
use mathlib.Core.List.{List}
use mathlib.Core.Logic.{⊎_elim, ◌⊎◌, ◌↔◌, inl, inr}
use native.Mathlib.Omega.{arith}
use native.Mathlib.Numerals.{add-one}
use lib.ListN.{get_or}
use Rattle.model.specs.Lists.{In}
use Rattle.floor.specs.Tables.{OpenAt}
use Rattle.chokejudge.specs.declared.layer.Reach.{Reach}
use Rattle.chokejudge.specs.ChokeLayers.{LayerOf}
use Rattle.chokejudge.specs.Grown.{last_cells, Older, Grown, Cleared}
use Rattle.chokejudge.proofs.Numbers.{zero_or}

module _ (First : ℕ → Type 0) (Side : ℕ → ℕ → Type 0) (shut : List ℕ) (Choke : ℕ → ℕ → Type 0) where
  abbrev Of : ℕ → ℕ → Type 0
  Of = LayerOf First Side (OpenAt shut) Choke

  -- The layer of step t.
  pub record Layered (t : ℕ) (a : Reach) : Type 0 where
    pub layer : (v : ℕ) → (0 < get_or a.since v 0) ↔ Of t v
    pub stamps : (v : ℕ) → get_or a.since v 0 ≤ t + 1
    pub opened : (v : ℕ) → 0 < get_or a.since v 0 → OpenAt shut t v
    pub fresh : (v : ℕ) → 0 < get_or a.since v 0 → In v (last_cells a) ⊎ ((s : ℕ) × (s < t) × Of s v)
    pub settled : (u v : ℕ) → 0 < get_or a.since u 0 → Side u v → OpenAt shut (t + 1) v → (0 < get_or a.since v 0) ⊎ (Choke t v ⊎ In u (last_cells a))

  -- What is left when choke points were taken out.
  left : {P : ℕ → Type 0} {l l' : List ℕ} → Cleared P l l' → (v : ℕ) → 0 < get_or l' v 0 → (get_or l' v 0 ≡ get_or l v 0) × (P v → ⊥)
  left k v p = (⊎_elim (λ e. e) (λ q. absurd (omega (arith, k.gone v q))) (k.each v), λ q. omega (arith, k.gone v q))

  -- The first layer: the cells of `First` were added to none, and the choke points of step 0 taken out.
  module _ (a b c : Reach) (open_first : (v : ℕ) → First v → OpenAt shut 0 v) (none : (v : ℕ) → get_or a.since v 0 ≡ 0) (g : Grown shut 0 First a b) (k : Cleared (Choke 0) b.since c.since)
      (listed : (v : ℕ) → In v g.added → In v (last_cells c)) where
    pub layered_first : Layered 0 c
    layered_first = record {
      layer = λ v. (there v, λ f. ⊎_elim (λ e. omega (arith, g.all v f.0 (open_first v f.0))) (λ q. absurd (f.1 q)) (k.each v));
      stamps = λ v. stamp v (zero_or (get_or c.since v 0));
      opened = λ v p. (new v p).1;
      fresh = λ v p. inl (listed v (new v p).2.1);
      settled = λ u v p s b. inr (inr (listed u (new u p).2.1));
    }
      where
        new : (v : ℕ) → 0 < get_or c.since v 0 → (get_or b.since v 0 ≡ 0 + 1) × OpenAt shut 0 v × (First v × In v g.added)
        new v p = g.only v (none v) (omega (arith, (left k v p).0))

        there : (v : ℕ) → 0 < get_or c.since v 0 → First v × (Choke 0 v → ⊥)
        there v p = ((new v p).2.0, (left k v p).1)

        stamp : (v : ℕ) → (get_or c.since v 0 ≡ 0) ⊎ (0 < get_or c.since v 0) → get_or c.since v 0 ≤ 0 + 1
        stamp v (inl e) = omega arith
        stamp v (inr p) = omega (arith, (left k v p).0, (new v p).0)

  module _ (floor : ℕ) (known : (v : ℕ) → First v → v < floor) (stays : (c : ℕ) → c < floor → Side c c) (even : (c x : ℕ) → c < floor → Side c x → (x < floor) × Side x c) where
    pub layer_known : (t v : ℕ) → Of t v → v < floor
    layer_known zero v (f, n) = known v f
    layer_known (suc t) v ((u, f, s), o, n) = (even u v (layer_known t u f) s).0

    -- what is added to the layer of step t: what the older cells of that step lead to, and its choke points that an older cell leads to
    abbrev pub Added : ℕ → Reach → ℕ → Type 0
    Added t a v = ((u : ℕ) × In u (last_cells a) × (Older a (t + 1) u × Side u v)) ⊎ (Choke t v × ((x : ℕ) × Side v x × Older a (t + 1) x))

    -- The next layer.
    module _ (t : ℕ) (choke : (v : ℕ) → Choke t v → v < floor) (a b c : Reach)
        (st : Layered t a)
        (lasts : (v : ℕ) → 0 < get_or a.since v 0 → OpenAt shut (t + 1) v)
        (g : Grown shut (t + 1) (Added t a) a b)
        (k : Cleared (Choke (t + 1)) b.since c.since)
        (listed : (v : ℕ) → In v g.added → In v (last_cells c)) where
      older : (u : ℕ) → 0 < get_or a.since u 0 → Older a (t + 1) u
      older u p = (p, st.stamps u)

      spread : (u v : ℕ) → 0 < get_or a.since u 0 → Side u v → OpenAt shut (t + 1) v → 0 < get_or b.since v 0
      spread u v p s o = go (st.settled u v p s o)
        where
          go : (0 < get_or a.since v 0) ⊎ (Choke t v ⊎ In u (last_cells a)) → 0 < get_or b.since v 0
          go (inl q) = omega (arith, g.kept v q)
          go (inr (inl q)) = g.all v (inr (q, (u, (even u v (layer_known t u ((st.layer u).0 p)) s).1, older u p))) o
          go (inr (inr q)) = g.all v (inl (u, q, (older u p, s))) o

      led : (v : ℕ) → 0 < get_or b.since v 0 → (u : ℕ) × Of t u × Side u v
      led v p = go (zero_or (get_or a.since v 0))
        where
          from : Added t a v → (u : ℕ) × Of t u × Side u v
          from (inl (u, m, (o, s))) = (u, (st.layer u).0 o.0, s)
          from (inr (q, (x, s, o))) = (x, (st.layer x).0 o.0, (even v x (choke v q) s).1)

          go : (get_or a.since v 0 ≡ 0) ⊎ (0 < get_or a.since v 0) → (u : ℕ) × Of t u × Side u v
          go (inl e) = from (g.only v e p).2.0
          go (inr q) = let f = (st.layer v).0 q in (v, f, stays v (layer_known t v f))

      led_open : (v : ℕ) → 0 < get_or b.since v 0 → OpenAt shut (t + 1) v
      led_open v p = ⊎_elim (λ e. (g.only v e p).1) (λ q. lasts v q) (zero_or (get_or a.since v 0))

      k' : Cleared (Choke (suc t)) b.since c.since
      k' = rw add-one at k

      there : (v : ℕ) → 0 < get_or c.since v 0 → Of (suc t) v
      there v p = let (e, q) = left k' v p in (led v (omega arith), rw add-one at (led_open v (omega arith)), q)

      back : (v : ℕ) → Of (suc t) v → 0 < get_or c.since v 0
      back v ((u, f, s), o, n) = ⊎_elim (λ e. omega (arith, spread u v ((st.layer u).1 f) s (rw add-one o))) (λ q. absurd (n q)) (k'.each v)

      stamp : (v : ℕ) → (get_or c.since v 0 ≡ 0) ⊎ (0 < get_or c.since v 0) → (get_or a.since v 0 ≡ 0) ⊎ (0 < get_or a.since v 0) → get_or c.since v 0 ≤ t + 1 + 1
      stamp v (inl e) o = omega arith
      stamp v (inr p) (inl e) = let (d, q) = left k v p in omega (arith, (g.only v e (omega arith)).0)
      stamp v (inr p) (inr h) = let (d, q) = left k v p in omega (arith, g.kept v h, st.stamps v)

      added : (v : ℕ) → get_or a.since v 0 ≡ 0 → 0 < get_or c.since v 0 → In v (last_cells c)
      added v e p = listed v (g.only v e (omega (arith, (left k v p).0))).2.1

      settled : (u v : ℕ) → 0 < get_or c.since u 0 → Side u v → OpenAt shut (t + 1 + 1) v → (0 < get_or c.since v 0) ⊎ (Choke (t + 1) v ⊎ In u (last_cells c))
      settled u v p s o = go (zero_or (get_or a.since u 0))
        where
          go : (get_or a.since u 0 ≡ 0) ⊎ (0 < get_or a.since u 0) → (0 < get_or c.since v 0) ⊎ (Choke (t + 1) v ⊎ In u (last_cells c))
          go (inl e) = inr (inr (added u e p))
          go (inr h) = ⊎_elim (λ e. inl (omega (arith, spread u v h s (omega arith)))) (λ q. inr (inl q)) (k.each v)

      pub layered_next : Layered (t + 1) c
      layered_next = record {
        layer = λ v. rw add-one (there v, back v);
        stamps = λ v. stamp v (zero_or (get_or c.since v 0)) (zero_or (get_or a.since v 0));
        opened = λ v p. led_open v (omega (arith, (left k v p).0));
        fresh = λ v p. ⊎_elim (λ e. inl (added v e p)) (λ q. inr (t, omega arith, (st.layer v).0 q)) (zero_or (get_or a.since v 0));
        settled = settled;
      }
