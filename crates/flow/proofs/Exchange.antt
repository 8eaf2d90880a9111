-- A flow in which nodes exchange where they lead, two and two, stays a flow. The links stay each other's inverse, since to exchange twice is not to exchange;
-- and as only nodes that lead on take part, the lines begin and end where they did. Assumes nothing.
use mathlib.Core.Path.{◌≡◌, sym, ◌∙◌, ap}
use mathlib.Core.Logic.{◌⊎◌, inl, inr}
use Rattle.model.proofs.Basics.{nope}
use Rattle.flow.specs.Flow.{Link, off, end, to, Graph, Flow}
use Rattle.flow.specs.Exchange.{led, Exchange}

module _ {N : Type 0} {G : Graph N} {next prev : N → Link N} {swap : N → N} (ok : Flow G next prev) (x : Exchange G next swap) where
  -- A link that is led elsewhere was one to a node.
  was_off : (l : Link N) → led swap l ≡ off → l ≡ off
  was_off off e = e
  was_off end e = nope (cc)
  was_off (to v) e = nope (cc)

  was_end : (l : Link N) → led swap l ≡ end → l ≡ end
  was_end off e = nope (cc)
  was_end end e = e
  was_end (to v) e = nope (cc)

  was_to : (l : Link N) (u : N) → led swap l ≡ to u → l ≡ to (swap u)
  was_to off u e = nope (cc)
  was_to end u e = nope (cc)
  was_to (to v) u e = cc (x.twice v)

  -- A node that does not lead on takes no part.
  same : (v : N) (l : Link N) → next (swap v) ≡ l → ((w : N) → l ≡ to w → ⊥) → next v ≡ l
  same v l e none = go (x.leads (swap v))
    where
      go : (swap (swap v) ≡ swap v) ⊎ ((w : N) × (next (swap v) ≡ to w)) → next v ≡ l
      go (inl f) = cc (x.twice v)
      go (inr (w, f)) = absurd (none w (sym e ∙ f))

  kept : (v : N) → next v ≡ off → next (swap v) ≡ off
  kept v e = go (x.leads v)
    where
      go : (swap v ≡ v) ⊎ ((w : N) × (next v ≡ to w)) → next (swap v) ≡ off
      go (inl f) = cc
      go (inr (w, f)) = nope (cc)

  pub exchanged : Flow G (λ v. next (swap v)) (λ v. led swap (prev v))
  exchanged = record {
    forth = λ u w e. ap (led swap) (ok.forth (swap u) w e) ∙ ap to (x.twice u);
    back = λ u w e. ok.back (swap u) w (was_to (prev w) u e);
    edge = x.edge;
    off_next = λ v e. kept v (ok.off_next v (was_off (prev v) e));
    off_prev = λ v e. ap (led swap) (ok.off_prev v (same v off e (λ w f. nope (cc))));
    starts = λ v e. ok.starts v (was_end (prev v) e);
    goals = λ v e. ok.goals v (same v end e (λ w f. nope (cc)));
  }
