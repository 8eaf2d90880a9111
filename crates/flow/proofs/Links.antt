-- The links that a way sets: those of its hops, of its start and of its last node; every other link stays. Assumes nothing.
use mathlib.Core.Path.{◌≡◌, refl, ◌∙◌, subst}
use mathlib.Core.List.{List, [], ◌∷◌}
use mathlib.Core.Logic.{inl, inr}
use Rattle.model.specs.Lists.{In, NoDup}
use Rattle.flow.specs.Flow.{Link, off, end, to}
use Rattle.flow.specs.Update.{pick}
use Rattle.flow.specs.Way.{Hop, vias, ats, last_at, join, next_by, back_by, prev_by}
use Rattle.flow.proofs.Update.{upd_same, upd_other}
use Rattle.flow.proofs.Hops.{On, on_from, on_via, last_in}

module _ {N : Type 0} (dec : Discrete N) where
  pub join_same : (u w : N) → u ≡ w → join dec u w ≡ off
  join_same u w e = go (dec u w)
    where
      go : (d : Dec (u ≡ w)) → pick d off (to w) ≡ off
      go (yes e') = refl
      go (no h) = absurd (h e)

  pub join_other : (u w : N) → (u ≡ w → ⊥) → join dec u w ≡ to w
  join_other u w h = go (dec u w)
    where
      go : (d : Dec (u ≡ w)) → pick d off (to w) ≡ to w
      go (yes e) = absurd (h e)
      go (no h') = refl

  module _ (link : N → Link N) where
    pub next_kept : (s : N) (hs : List (Hop N)) (v : N) → (In v (s ∷ ats hs) → ⊥) → next_by dec s hs link v ≡ link v
    next_kept s [] v h = upd_other dec link s end v (λ e. h (inl e))
    next_kept s (k ∷ hs) v h =
        upd_other dec (next_by dec k.at hs link) s (join dec s k.via) v (λ e. h (inl e)) ∙ next_kept k.at hs v (λ i. h (inr i))

    pub next_last : (s : N) (hs : List (Hop N)) → NoDup (s ∷ ats hs) → next_by dec s hs link (last_at s hs) ≡ end
    next_last s [] nd = upd_same dec link s end s refl
    next_last s (k ∷ hs) nd =
        upd_other dec (next_by dec k.at hs link) s (join dec s k.via) (last_at k.at hs) (λ e. nd.0 (subst (λ y. In y (k.at ∷ ats hs)) e (last_in k.at hs)))
        ∙ next_last k.at hs nd.1

    pub next_hop : (s : N) (hs : List (Hop N)) (v w x : N) → NoDup (s ∷ ats hs) → On s hs v w x → next_by dec s hs link v ≡ join dec v w
    next_hop s [] v w x nd o = absurd o
    next_hop s (k ∷ hs) v w x nd (inl (e, f, g)) = rw (e, f) (upd_same dec (next_by dec k.at hs link) s (join dec s k.via) s refl)
    next_hop s (k ∷ hs) v w x nd (inr o) =
        upd_other dec (next_by dec k.at hs link) s (join dec s k.via) v (λ e. nd.0 (subst (λ y. In y (k.at ∷ ats hs)) e (on_from k.at hs v w x o)))
        ∙ next_hop k.at hs v w x nd.1 o

    back_kept : (s : N) (hs : List (Hop N)) (v : N) → (In v (vias hs) → ⊥) → back_by dec s hs link v ≡ link v
    back_kept s [] v h = refl
    back_kept s (k ∷ hs) v h =
        upd_other dec (back_by dec k.at hs link) k.via (join dec k.via s) v (λ e. h (inl e)) ∙ back_kept k.at hs v (λ i. h (inr i))

    back_hop : (s : N) (hs : List (Hop N)) (v w x : N) → NoDup (vias hs) → On s hs v w x → back_by dec s hs link w ≡ join dec w v
    back_hop s [] v w x nd o = absurd o
    back_hop s (k ∷ hs) v w x nd (inl (e, f, g)) =
        rw (e, f) (upd_same dec (back_by dec k.at hs link) k.via (join dec k.via s) k.via refl)
    back_hop s (k ∷ hs) v w x nd (inr o) =
        upd_other dec (back_by dec k.at hs link) k.via (join dec k.via s) w (λ e. nd.0 (rw e at (on_via k.at hs v w x o)))
        ∙ back_hop k.at hs v w x nd.1 o

    pub prev_kept : (s : N) (hs : List (Hop N)) (v : N) → (In v (s ∷ vias hs) → ⊥) → prev_by dec s hs link v ≡ link v
    prev_kept s hs v h = upd_other dec (back_by dec s hs link) s end v (λ e. h (inl e)) ∙ back_kept s hs v (λ i. h (inr i))

    pub prev_start : (s : N) (hs : List (Hop N)) → prev_by dec s hs link s ≡ end
    prev_start s hs = upd_same dec (back_by dec s hs link) s end s refl

    pub prev_hop : (s : N) (hs : List (Hop N)) (v w x : N) → NoDup (s ∷ vias hs) → On s hs v w x → prev_by dec s hs link w ≡ join dec w v
    prev_hop s hs v w x nd o =
        upd_other dec (back_by dec s hs link) s end w (λ e. nd.0 (rw e at (on_via s hs v w x o))) ∙ back_hop s hs v w x nd.1 o
