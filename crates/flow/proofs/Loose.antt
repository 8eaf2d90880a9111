-- A flow whose loose end is led on is a flow, with the loose end elsewhere; one that is given a line of one node, at a goal that no line uses, is a flow too.
-- What is done at a node is looked at once, by a view of its new next link and one of its new prev link. Assumes nothing.
use mathlib.Core.Path.{◌≡◌, refl, sym, ◌∙◌}
use mathlib.Core.Logic.{◌⊎◌, inl, inr}
use Rattle.model.proofs.Basics.{nope}
use Rattle.flow.specs.Flow.{Link, off, end, to, Graph, Flow}
use Rattle.flow.specs.Update.{upd}
use Rattle.flow.specs.Loose.{starting_at, LedOn, next_led, prev_led}
use Rattle.flow.proofs.Update.{Upd, changed, kept, look}

-- The starts of a flow are those of its lines.
pub restarted : {N : Type 0} {G : Graph N} {T : N → Type 0} {next prev : N → Link N} → Flow G next prev → ((v : N) → prev v ≡ end → T v) → Flow (starting_at G T) next prev
restarted ok h = record { forth = ok.forth; back = ok.back; edge = ok.edge; off_next = ok.off_next; off_prev = ok.off_prev; starts = h; goals = ok.goals }

module _ {N : Type 0} (dec : Discrete N) {G : Graph N} {next prev : N → Link N} (ok : Flow G next prev) where
  module _ {u v w : N} (l : LedOn G next prev u v w) where
    abbrev next' : N → Link N
    next' = next_led dec u v next

    abbrev prev' : N → Link N
    prev' = prev_led dec u v w prev

    -- The new loose end is not the old one: that had no line before it.
    moved : w ≡ u → ⊥
    moved e = go l.leaves
      where
        go : ((w ≡ v) × (next v ≡ off)) ⊎ (next v ≡ to w) → ⊥
        go (inl (f, g)) = l.apart (sym f ∙ e)
        go (inr f) = nope (cc (ok.forth v w f, l.loose))

    -- It was where v led, if that was used.
    freed : (a : N) → prev w ≡ to a → a ≡ v
    freed a e = go l.leaves
      where
        go : ((w ≡ v) × (next v ≡ off)) ⊎ (next v ≡ to w) → a ≡ v
        go (inl (f, g)) = nope (cc (ok.off_prev v g))
        go (inr f) = cc (ok.forth v w f)

    led : (b : N) → next v ≡ to b → b ≡ w
    led b e = go l.leaves
      where
        go : ((w ≡ v) × (next v ≡ off)) ⊎ (next v ≡ to w) → b ≡ w
        go (inl (f, g)) = nope (cc)
        go (inr f) = cc

    unled : next v ≡ off → w ≡ v
    unled e = go l.leaves
      where
        go : ((w ≡ v) × (next v ≡ off)) ⊎ (next v ≡ to w) → w ≡ v
        go (inl (f, g)) = f
        go (inr f) = nope (cc)

    data PrevLed (a : N) : Type 0 where
      ends : a ≡ w → prev' a ≡ end → PrevLed a
      comes : a ≡ u → prev' a ≡ to v → PrevLed a
      stays : (a ≡ w → ⊥) → (a ≡ u → ⊥) → prev' a ≡ prev a → PrevLed a

    look_prev : (a : N) → PrevLed a
    look_prev a = go (look dec (upd dec prev u (to v)) w end a) (look dec prev u (to v) a)
      where
        go : Upd dec (upd dec prev u (to v)) w end a → Upd dec prev u (to v) a → PrevLed a
        go (changed e f) q = ends e f
        go (kept n f) (changed e g) = comes e (f ∙ g)
        go (kept n f) (kept m g) = stays n m (f ∙ g)

    prev_stays : (a : N) → (a ≡ w → ⊥) → (a ≡ u → ⊥) → prev' a ≡ prev a
    prev_stays a n m = go (look_prev a)
      where
        go : PrevLed a → prev' a ≡ prev a
        go (ends e f) = absurd (n e)
        go (comes e f) = absurd (m e)
        go (stays n m f) = f

    comes_to : prev' u ≡ to v
    comes_to = go (look_prev u)
      where
        go : PrevLed u → prev' u ≡ to v
        go (ends e f) = absurd (moved (sym e))
        go (comes e f) = f
        go (stays n m f) = absurd (m refl)

    next_new : (a : N) → a ≡ v → next' a ≡ to u
    next_new a e = go (look dec next v (to u) a)
      where
        go : Upd dec next v (to u) a → next' a ≡ to u
        go (changed e f) = f
        go (kept n f) = absurd (n e)

    next_stays : (a : N) → (a ≡ v → ⊥) → next' a ≡ next a
    next_stays a n = go (look dec next v (to u) a)
      where
        go : Upd dec next v (to u) a → next' a ≡ next a
        go (changed e f) = absurd (n e)
        go (kept n f) = f

    new_forth : (a b : N) → next' a ≡ to b → prev' b ≡ to a
    new_forth a b e = go (look dec next v (to u) a)
      where
        go : Upd dec next v (to u) a → prev' b ≡ to a
        go (changed q f) = let r : b ≡ u = cc in rw (r, q) comes_to
        go (kept n f) =
            let p : prev b ≡ to a = ok.forth a b (sym f ∙ e) in
            prev_stays b (λ r. n (freed a (rw r at p))) (λ r. let z : prev u ≡ to a = rw r at p in nope (cc l.loose)) ∙ p

    new_back : (a b : N) → prev' b ≡ to a → next' a ≡ to b
    new_back a b e = go (look_prev b)
      where
        go : PrevLed b → next' a ≡ to b
        go (ends q f) = nope (cc)
        go (comes q f) = let r : a ≡ v = cc in rw q (next_new a r)
        go (stays n m f) =
            let p : next a ≡ to b = ok.back a b (sym f ∙ e) in
            next_stays a (λ r. n (led b (rw r at p))) ∙ p

    new_edge : (a b : N) → next' a ≡ to b → G.Edge a b
    new_edge a b e = go (look dec next v (to u) a)
      where
        go : Upd dec next v (to u) a → G.Edge a b
        go (changed q f) = let r : b ≡ u = cc in rw (r, q) l.edge
        go (kept n f) = ok.edge a b (sym f ∙ e)

    new_off_next : (a : N) → prev' a ≡ off → next' a ≡ off
    new_off_next a e = go (look_prev a)
      where
        go : PrevLed a → next' a ≡ off
        go (ends q f) = nope (cc)
        go (comes q f) = nope (cc)
        go (stays n m f) =
            let p : next a ≡ off = ok.off_next a (sym f ∙ e) in
            next_stays a (λ r. n (r ∙ sym (unled (rw r at p)))) ∙ p

    new_off_prev : (a : N) → next' a ≡ off → prev' a ≡ off
    new_off_prev a e = go (look dec next v (to u) a)
      where
        unused : (a ≡ w) → (a ≡ v → ⊥) → next a ≡ off → ⊥
        unused q n p = used l.leaves
          where
            used : ((w ≡ v) × (next v ≡ off)) ⊎ (next v ≡ to w) → ⊥
            used (inl (f, g)) = n (q ∙ f)
            used (inr f) = nope (cc (ok.forth v w f, ok.off_prev a p))

        go : Upd dec next v (to u) a → prev' a ≡ off
        go (changed q f) = nope (cc)
        go (kept n f) =
            let p : next a ≡ off = sym f ∙ e in
            prev_stays a (λ q. unused q n p) (λ q. let z : prev u ≡ off = rw q at (ok.off_prev a p) in nope (cc l.loose)) ∙ ok.off_prev a p

    pub led_on : {T : N → Type 0} → ((a : N) → G.Start a → (a ≡ u → ⊥) → T a) → T w → Flow (starting_at G T) (next_led dec u v next) (prev_led dec u v w prev)
    led_on {T} keep new = record {
      forth = new_forth;
      back = new_back;
      edge = new_edge;
      off_next = new_off_next;
      off_prev = new_off_prev;
      starts = λ a e. starts a e (look_prev a);
      goals = λ a e. goals a e (look dec next v (to u) a);
    }
      where
        starts : (a : N) → prev' a ≡ end → PrevLed a → T a
        starts a e (ends q f) = rw q new
        starts a e (comes q f) = nope (cc)
        starts a e (stays n m f) = keep a (ok.starts a (sym f ∙ e)) m

        goals : (a : N) → next' a ≡ end → Upd dec next v (to u) a → G.Goal a
        goals a e (changed q f) = nope (cc)
        goals a e (kept n f) = ok.goals a (sym f ∙ e)

  module _ {u : N} (free : next u ≡ off) (goal : G.Goal u) where
    no_prev : prev u ≡ off
    no_prev = ok.off_prev u free

    -- Links that change at u alone, where there were none.
    same : (link : N → Link N) → link u ≡ off → (a b : N) → upd dec link u end a ≡ to b → link a ≡ to b
    same link f a b e = go (look dec link u end a)
      where
        go : Upd dec link u end a → link a ≡ to b
        go (changed q g) = nope (cc)
        go (kept n g) = sym g ∙ e

    other : (link : N → Link N) → link u ≡ off → (a b : N) → link a ≡ to b → upd dec link u end a ≡ to b
    other link f a b e = go (look dec link u end a)
      where
        go : Upd dec link u end a → upd dec link u end a ≡ to b
        go (changed q g) = nope (cc)
        go (kept n g) = g ∙ e

    unused : (link back : N → Link N) → back u ≡ off → ((a : N) → link a ≡ off → back a ≡ off) → (a : N) → upd dec link u end a ≡ off → upd dec back u end a ≡ off
    unused link back f h a e = go (look dec link u end a) (look dec back u end a)
      where
        go : Upd dec link u end a → Upd dec back u end a → upd dec back u end a ≡ off
        go (changed q g) r = nope (cc)
        go (kept n g) (changed q r) = absurd (n q)
        go (kept n g) (kept m r) = r ∙ h a (sym g ∙ e)

    pub laid_open : {T : N → Type 0} → ((a : N) → G.Start a → T a) → T u → Flow (starting_at G T) (upd dec next u end) (upd dec prev u end)
    laid_open {T} keep new = record {
      forth = λ a b e. other prev no_prev b a (ok.forth a b (same next free a b e));
      back = λ a b e. other next free a b (ok.back a b (same prev no_prev b a e));
      edge = λ a b e. ok.edge a b (same next free a b e);
      off_next = unused prev next free ok.off_next;
      off_prev = unused next prev no_prev ok.off_prev;
      starts = λ a e. starts a e (look dec prev u end a);
      goals = λ a e. goals a e (look dec next u end a);
    }
      where
        starts : (a : N) → upd dec prev u end a ≡ end → Upd dec prev u end a → T a
        starts a e (changed q f) = rw q new
        starts a e (kept n f) = keep a (ok.starts a (sym f ∙ e))

        goals : (a : N) → upd dec next u end a ≡ end → Upd dec next u end a → G.Goal a
        goals a e (changed q f) = rw q goal
        goals a e (kept n f) = ok.goals a (sym f ∙ e)
