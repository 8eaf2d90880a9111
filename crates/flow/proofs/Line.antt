-- The lines of a flow. A node is on one line, as the links also lead back from it; and in a graph of layers each used node is on one that begins at a start:
-- the ranks rise as the links are followed back, and end at H. Assumes nothing.
use Prim.Native.Nat.{ℕ, zero, suc, ◌+◌, ◌<◌}
use mathlib.Core.Path.{◌≡◌, refl, sym}
use native.Mathlib.Omega.{arith}
use Rattle.model.proofs.Basics.{nope}
use Rattle.flow.specs.Flow.{Link, off, end, to, Graph, Flow}
use Rattle.flow.specs.Line.{Ranked, Chain, Ahead}

pub chain_more : {N : Type 0} (next : N → Link N) (k : ℕ) (x y z : N) → Chain next k x y → next y ≡ to z → Chain next (suc k) x z
chain_more next zero x y z c e = (z, cc, refl)
chain_more next (suc k) x y z (w, e', c) e = (w, e', chain_more next k w y z c e)

module _ {N : Type 0} {G : Graph N} {next prev : N → Link N} (ok : Flow G next prev) where
  turned : (k : ℕ) (s v : N) → Chain next k s v → Chain prev k v s
  turned zero s v c = sym c
  turned (suc k) s v (z, e, c) = chain_more prev k v z s (turned k z v c) (ok.forth s z e)

  -- No link leads to s.
  abbrev Heads : N → Type 0
  Heads s = (u : N) → prev s ≡ to u → ⊥

  same_head : (k k' : ℕ) (v s s' : N) → Heads s → Heads s' → Chain prev k v s → Chain prev k' v s' → s ≡ s'
  same_head zero zero v s s' h h' c c' = cc
  same_head zero (suc k') v s s' h h' c (z, e, c') = absurd (h z (cc))
  same_head (suc k) zero v s s' h h' (z, e, c) c' = absurd (h' z (cc))
  same_head (suc k) (suc k') v s s' h h' (z, e, c) (z', e', c') = let q : z ≡ z' = cc in same_head k k' z' s s' h h' (rw q at c) c'

  pub one_line : (v s s' : N) → Heads s → Heads s' → Ahead next s v → Ahead next s' v → s ≡ s'
  one_line v s s' h h' (k, c) (k', c') = same_head k k' v s s' h h' (turned k s v c) (turned k' s' v c')

  -- v is on a line from a start
  abbrev pub FromStart : N → Type 0
  FromStart v = (s : N) × Ahead next s v × (prev s ≡ end)

  from_start : (v : N) → (prev v ≡ off → ⊥) → ((u : N) → prev v ≡ to u → FromStart u) → FromStart v
  from_start v used ih = go (prev v) refl
    where
      longer : (u : N) → prev v ≡ to u → FromStart u → FromStart v
      longer u e (s, (k, c), q) = (s, (suc k, chain_more next k s u v c (ok.back u v e)), q)

      go : (l : Link N) → prev v ≡ l → FromStart v
      go off e = absurd (used e)
      go end e = (v, (0, refl), e)
      go (to u) e = longer u e (ih u e)

  module _ {rank : N → ℕ} {H : ℕ} (rk : Ranked G rank H) where
    -- f bounds the layers that are left above.
    reach : (f : ℕ) (v : N) → H < rank v + f → (prev v ≡ off → ⊥) → FromStart v
    reach zero v h used = from_start v used (λ u e. absurd (omega (arith, rk.falls u v (ok.edge u v (ok.back u v e)), rk.bound u v (ok.edge u v (ok.back u v e)))))
    reach (suc f) v h used =
        from_start v used (λ u e. reach f u (omega (arith, rk.falls u v (ok.edge u v (ok.back u v e)))) (λ q. nope (cc (ok.back u v e, ok.off_next u q))))

    pub on_line : (v : N) → (prev v ≡ off → ⊥) → FromStart v
    on_line v used = reach (suc H) v (omega arith) used
