-- A flow with a way added is a flow, with one start more and one end more. What the way does at a node is looked at once, by four views: of the
-- node's new next link, of its new prev link, of what follows the arrival there, and of what precedes the departure. Assumes nothing.
use mathlib.Core.Path.{◌≡◌, sym, ◌∙◌, subst}
use mathlib.Core.List.{List, ◌∷◌}
use mathlib.Core.Logic.{◌⊎◌, inl, inr, ⊎_elim, ◌↔◌}
use Rattle.model.specs.Lists.{In}
use Rattle.model.proofs.Basics.{nope}
use Rattle.model.proofs.Decide.{dec_in}
use Rattle.flow.specs.Flow.{Link, off, end, to, arr, dep, Graph, Flow, Residual}
use Rattle.flow.specs.Way.{Hop, vias, ats, last_at, Way, next_by, prev_by}
use Rattle.flow.proofs.Hops.{On, on_out, on_via, on_at, via_on, at_on, arcs, via_once}
use Rattle.flow.proofs.Links.{join_same, join_other, next_kept, next_last, next_hop, prev_kept, prev_start, prev_hop}

module _ {N : Type 0} (dec : Discrete N) {G : Graph N} {next prev : N → Link N} (ok : Flow G next prev)
    {s : N} {hs : List (Hop N)} (way : Way G next prev s hs) where
  abbrev next' : N → Link N
  next' = next_by dec s hs next

  abbrev prev' : N → Link N
  prev' = prev_by dec s hs prev

  -- The links that a hop sets.
  out : (u w x : N) → On s hs u w x → (u ≡ w → ⊥) → next' u ≡ to w
  out u w x o ne = next_hop dec next s hs u w x way.once o ∙ join_other dec u w ne

  out_off : (u w x : N) → On s hs u w x → u ≡ w → next' u ≡ off
  out_off u w x o e = next_hop dec next s hs u w x way.once o ∙ join_same dec u w e

  into : (u w x : N) → On s hs u w x → (w ≡ u → ⊥) → prev' w ≡ to u
  into u w x o ne = prev_hop dec prev s hs u w x (via_once ok way) o ∙ join_other dec w u ne

  into_off : (u w x : N) → On s hs u w x → w ≡ u → prev' w ≡ off
  into_off u w x o e = prev_hop dec prev s hs u w x (via_once ok way) o ∙ join_same dec w u e

  data Next (v : N) : Type 0 where
    kept : (In v (s ∷ ats hs) → ⊥) → next' v ≡ next v → Next v
    ends : v ≡ last_at s hs → next' v ≡ end → Next v
    frees : (w x : N) → On s hs v w x → v ≡ w → next' v ≡ off → Next v
    leads : (w x : N) → On s hs v w x → (v ≡ w → ⊥) → next' v ≡ to w → Next v

  look_next : (v : N) → Next v
  look_next v = go (dec_in dec v (s ∷ ats hs))
    where
      split : (w x : N) → On s hs v w x → Dec (v ≡ w) → Next v
      split w x o (yes e) = frees w x o e (out_off v w x o e)
      split w x o (no h) = leads w x o h (out v w x o h)

      on : (v ≡ last_at s hs) ⊎ ((w : N) × (x : N) × On s hs v w x) → Next v
      on (inl e) = ends e (rw e (next_last dec next s hs way.once))
      on (inr (w, x, o)) = split w x o (dec v w)

      go : Dec (In v (s ∷ ats hs)) → Next v
      go (no h) = kept h (next_kept dec next s hs v h)
      go (yes i) = on (on_out s hs v i)

  data Prev (v : N) : Type 0 where
    kept : (In v (s ∷ vias hs) → ⊥) → prev' v ≡ prev v → Prev v
    begins : v ≡ s → prev' v ≡ end → Prev v
    frees : (u x : N) → On s hs u v x → v ≡ u → prev' v ≡ off → Prev v
    comes : (u x : N) → On s hs u v x → (v ≡ u → ⊥) → prev' v ≡ to u → Prev v

  look_prev : (v : N) → Prev v
  look_prev v = go (dec_in dec v (s ∷ vias hs))
    where
      split : (u x : N) → On s hs u v x → Dec (v ≡ u) → Prev v
      split u x o (yes e) = frees u x o e (into_off u v x o e)
      split u x o (no h) = comes u x o h (into u v x o h)

      on : (u : N) × (x : N) × On s hs u v x → Prev v
      on (u, x, o) = split u x o (dec v u)

      go : Dec (In v (s ∷ vias hs)) → Prev v
      go (no h) = kept h (prev_kept dec prev s hs v h)
      go (yes (inl e)) = begins e (rw e (prev_start dec prev s hs))
      go (yes (inr i)) = on (via_on s hs v i)

  data After (w : N) : Type 0 where
    unmet : (In w (s ∷ vias hs) → ⊥) → After w
    through : In w (s ∷ ats hs) → next w ≡ off → After w
    back : (x : N) → In x (s ∷ ats hs) → prev w ≡ to x → After w

  after : (w : N) → After w
  after w = go (dec_in dec w (s ∷ vias hs))
    where
      on : (v x : N) → On s hs v w x → Residual G next prev (arr w) (dep x) → After w
      on v x o (inl (e, f)) = through (inr (rw e at (on_at s hs v w x o))) f
      on v x o (inr f) = back x (inr (on_at s hs v w x o)) f

      met : (v : N) × (x : N) × On s hs v w x → After w
      met (v, x, o) = on v x o (arcs G next prev s hs v w x way.hops o).1

      go : Dec (In w (s ∷ vias hs)) → After w
      go (no h) = unmet h
      go (yes (inl e)) = through (inl e) (rw e way.unused)
      go (yes (inr i)) = met (via_on s hs w i)

  data Prior (v : N) : Type 0 where
    unmet : (In v (s ∷ ats hs) → ⊥) → Prior v
    through : In v (s ∷ vias hs) → next v ≡ off → Prior v
    back : (w : N) → In w (s ∷ vias hs) → prev w ≡ to v → Prior v

  prior : (v : N) → Prior v
  prior v = go (dec_in dec v (s ∷ ats hs))
    where
      on : (u w : N) → On s hs u w v → Residual G next prev (arr w) (dep v) → Prior v
      on u w o (inl (e, f)) = through (inr (subst (λ y. In y (vias hs)) (sym e) (on_via s hs u w v o))) (rw e f)
      on u w o (inr f) = back w (inr (on_via s hs u w v o)) f

      met : (u : N) × (w : N) × On s hs u w v → Prior v
      met (u, w, o) = on u w o (arcs G next prev s hs u w v way.hops o).1

      go : Dec (In v (s ∷ ats hs)) → Prior v
      go (no h) = unmet h
      go (yes (inl e)) = through (inl e) (rw e way.unused)
      go (yes (inr i)) = met (at_on s hs v i)

  new_forth : (u w : N) → next' u ≡ to w → prev' w ≡ to u
  new_forth u w h = go (look_next u)
    where
      same : (In u (s ∷ ats hs) → ⊥) → prev w ≡ to u → After w → prev' w ≡ to u
      same k r (unmet k') = prev_kept dec prev s hs w k' ∙ r
      same k r (through i f) = nope (cc (ok.off_prev w f))
      same k r (back x i f) = absurd (k (let e : x ≡ u = cc in subst (λ y. In y (s ∷ ats hs)) e i))

      go : Next u → prev' w ≡ to u
      go (kept k f) = same k (ok.forth u w (cc)) (after w)
      go (ends e f) = cc
      go (frees w' x o e f) = cc
      go (leads w' x o ne f) = let e : w ≡ w' = cc in rw e (into u w' x o (λ q. ne (cc)))

  new_back : (u w : N) → prev' w ≡ to u → next' u ≡ to w
  new_back u w h = go (look_prev w)
    where
      same : (In w (s ∷ vias hs) → ⊥) → next u ≡ to w → Prior u → next' u ≡ to w
      same k r (unmet k') = next_kept dec next s hs u k' ∙ r
      same k r (through i f) = nope (cc)
      same k r (back w' i f) = absurd (k (let e : w' ≡ w = cc (ok.back u w' f) in subst (λ y. In y (s ∷ vias hs)) e i))

      go : Prev w → next' u ≡ to w
      go (kept k f) = same k (ok.back u w (cc)) (prior u)
      go (begins e f) = cc
      go (frees u' x o e f) = cc
      go (comes u' x o ne f) = let e : u ≡ u' = cc in rw e (out u' w x o (λ q. ne (cc)))

  new_edge : (u w : N) → next' u ≡ to w → G.Edge u w
  new_edge u w h = go (look_next u)
    where
      go : Next u → G.Edge u w
      go (kept k f) = ok.edge u w (cc)
      go (ends e f) = nope (cc)
      go (frees w' x o e f) = nope (cc)
      go (leads w' x o ne f) =
          let e : w ≡ w' = cc in
          rw e (⊎_elim (λ q. absurd (ne q)) (λ d. d) (arcs G next prev s hs u w' x way.hops o).0)

  new_off_next : (v : N) → prev' v ≡ off → next' v ≡ off
  new_off_next v h = go (look_prev v)
    where
      same : (In v (s ∷ vias hs) → ⊥) → next v ≡ off → Prior v → next' v ≡ off
      same k r (unmet k') = next_kept dec next s hs v k' ∙ r
      same k r (through i f) = absurd (k i)
      same k r (back w i f) = nope (cc (ok.back v w f))

      go : Prev v → next' v ≡ off
      go (kept k f) = same k (ok.off_next v (cc)) (prior v)
      go (begins e f) = cc
      go (frees u x o e f) = rw e (out_off u v x o (cc))
      go (comes u x o ne f) = cc

  new_off_prev : (v : N) → next' v ≡ off → prev' v ≡ off
  new_off_prev v h = go (look_next v)
    where
      same : (In v (s ∷ ats hs) → ⊥) → prev v ≡ off → After v → prev' v ≡ off
      same k r (unmet k') = prev_kept dec prev s hs v k' ∙ r
      same k r (through i f) = absurd (k i)
      same k r (back x i f) = nope (cc)

      go : Next v → prev' v ≡ off
      go (kept k f) = same k (ok.off_prev v (cc)) (after v)
      go (ends e f) = cc
      go (frees w x o e f) = rw e (into_off v w x o (cc))
      go (leads w x o ne f) = cc

  pub starts_more : (v : N) → (prev_by dec s hs prev v ≡ end) ↔ ((prev v ≡ end) ⊎ (v ≡ s))
  starts_more v = (λ h. only h (look_prev v), ⊎_elim (λ h. stay h (after v)) (λ e. rw e (prev_start dec prev s hs)))
    where
      only : prev' v ≡ end → Prev v → (prev v ≡ end) ⊎ (v ≡ s)
      only h (kept k f) = inl (cc)
      only h (begins e f) = inr e
      only h (frees u x o e f) = nope (cc)
      only h (comes u x o ne f) = nope (cc)

      stay : prev v ≡ end → After v → prev' v ≡ end
      stay h (unmet k) = prev_kept dec prev s hs v k ∙ h
      stay h (through i f) = nope (cc (ok.off_prev v f))
      stay h (back x i f) = nope (cc)

  pub ends_more : (v : N) → (next_by dec s hs next v ≡ end) ↔ ((next v ≡ end) ⊎ (v ≡ last_at s hs))
  ends_more v = (λ h. only h (look_next v), ⊎_elim (λ h. stay h (prior v)) (λ e. rw e (next_last dec next s hs way.once)))
    where
      only : next' v ≡ end → Next v → (next v ≡ end) ⊎ (v ≡ last_at s hs)
      only h (kept k f) = inl (cc)
      only h (ends e f) = inr e
      only h (frees w x o e f) = nope (cc)
      only h (leads w x o ne f) = nope (cc)

      stay : next v ≡ end → Prior v → next' v ≡ end
      stay h (unmet k) = next_kept dec next s hs v k ∙ h
      stay h (through i f) = nope (cc)
      stay h (back w i f) = nope (cc (ok.back v w f))

  pub augmented : Flow G (next_by dec s hs next) (prev_by dec s hs prev)
  augmented = record {
    forth = new_forth;
    back = new_back;
    edge = new_edge;
    off_next = new_off_next;
    off_prev = new_off_prev;
    starts = λ v h. ⊎_elim (λ e. ok.starts v e) (λ (q : v ≡ s). rw q way.start) ((starts_more v).0 h);
    goals = λ v h. ⊎_elim (λ e. ok.goals v e) (λ (q : v ≡ last_at s hs). rw q way.goal) ((ends_more v).0 h);
  }
