-- What a changed function is: at the place of the change the new value, and elsewhere the old one. Assumes nothing.
use mathlib.Core.Path.{◌≡◌, refl}
use Rattle.flow.specs.Update.{pick, upd}

module _ {N B : Type 0} (dec : Discrete N) (f : N → B) (x : N) (y : B) where
  pub data Upd (v : N) : Type 0 where
    changed : v ≡ x → upd dec f x y v ≡ y → Upd v
    kept : (v ≡ x → ⊥) → upd dec f x y v ≡ f v → Upd v

  pub look : (v : N) → Upd v
  look v = go (dec v x) refl
    where
      go : (d : Dec (v ≡ x)) → dec v x ≡ d → Upd v
      go (yes e) q = changed e (rw (q, pick))
      go (no h) q = kept h (rw (q, pick))

  pub upd_same : (v : N) → v ≡ x → upd dec f x y v ≡ y
  upd_same v e = go (look v)
    where
      go : Upd v → upd dec f x y v ≡ y
      go (changed e' q) = q
      go (kept h q) = absurd (h e)

  pub upd_other : (v : N) → (v ≡ x → ⊥) → upd dec f x y v ≡ f v
  upd_other v h = go (look v)
    where
      go : Upd v → upd dec f x y v ≡ f v
      go (changed e q) = absurd (h e)
      go (kept h' q) = q
