-- Numbers in chains: one more becomes the last of its chain, and the last before it comes behind it; one that is in no chain leaves them as they are. So it is with the bays by their
-- steps, where a lift is in no chain. Along a chain its numbers are looked at, from the last on. Assumes nothing.
use Prim.Native.Nat.{ℕ, zero, suc, ◌+◌, ◌≤◌, ◌<◌}
use mathlib.Core.Path.{◌≡◌, refl, sym, subst, ◌∙◌}
use mathlib.Core.List.{List}
use mathlib.Core.Logic.{⊎_elim, ◌⊎◌, inl, inr}
use native.Mathlib.Omega.{arith}
use native.Mathlib.Nat.{eq-or-lt_of_le}
use native.Mathlib.Decide.{ℕ_discrete}
use lib.ListN.{length, get_or, set, replicate}
use Rattle.std.specs.Prelude.{Option, None, Some}
use Rattle.std.proofs.lemmas.List.{get_or-set_same, get_or-set_other}
use Rattle.model.specs.Limits.{max_steps}
use Rattle.model.specs.Job.{lift, bay}
use Rattle.model.proofs.Decisions.{no_bay}
use Rattle.job.specs.Lists.{kinds_of, deadlines_of}
use Rattle.job.specs.declared.state.Call.{Call}
use Rattle.chokejudge.specs.declared.calls.Chains.{Chains}
use Rattle.chokejudge.specs.ChokeLayers.{BayAt}
use Rattle.chokejudge.specs.Chains.{LastOf, Linked, Chained}
use Rattle.chokejudge.proofs.Numbers.{below_or}

nones : (n k : ℕ) → ◌≡◌ {A = Option ℕ} (get_or (replicate n None) k None) None
nones zero k = refl
nones (suc n) zero = refl
nones (suc n) (suc k) = nones n k

-- One number more, that P does not hold of.
last_older : (P : ℕ → Type 0) {n : ℕ} (o : Option ℕ) → (P n → ⊥) → LastOf P n o → LastOf P (n + 1) o
last_older P {n} None out r = λ k b p. ⊎_elim (λ e. out (subst P e p)) (λ l. r k l p) (eq-or-lt_of_le {n = k} {m = n} (omega arith))
last_older P {n} (Some h) out (l, p, r) = (omega arith, p, λ k g b q. ⊎_elim (λ e. out (subst P e q)) (λ m. r k g m q) (eq-or-lt_of_le {n = k} {m = n} (omega arith)))

module _ (P : ℕ → ℕ → Type 0) (m : ℕ) where
  pub linked_none : {latest before : List (Option ℕ)} (s : ℕ) → latest ≡ replicate s None → Linked P m 0 latest before
  linked_none s e = record {
    last = λ t b. rw (e, nones s t) (λ k l. absurd (omega arith));
    back = λ t k l. absurd (omega arith);
  }

  module _ (n : ℕ) {latest before : List (Option ℕ)} (r : Linked P m n latest before) where
    -- a number before the last one
    earlier : (k : ℕ) → k < n + 1 → (k ≡ n → ⊥) → k < n
    earlier k b e = ⊎_elim (λ z. absurd (e z)) (λ l. l) (eq-or-lt_of_le {n = k} {m = n} (omega arith))

    pub linked_past : ((t : ℕ) → P t n → ⊥) → Linked P m (n + 1) latest before
    linked_past out = record {
      last = λ t b. last_older (P t) (get_or latest t None) (out t) (r.last t b);
      back = λ t k b p. r.back t k (earlier k b (λ e. out t (subst (P t) e p))) p;
    }

    pub linked_more : (d : ℕ) → P d n → ((t : ℕ) → P t n → t ≡ d) → d < m → d < length latest → n < length before
        → Linked P m (n + 1) (set latest d (Some n)) (set before n (get_or latest d None))
    linked_more d p one small h g = record { last = λ t b. last t b (ℕ_discrete t d); back = λ t k b q. back t k b q (ℕ_discrete k n) }
      where
        last : (t : ℕ) → t < m → Dec (t ≡ d) → LastOf (P t) (n + 1) (get_or (set latest d (Some n)) t None)
        last t b (yes q) = rw (q, get_or-set_same latest d (Some n) None h) (omega arith, p, λ k l m p. omega arith)
        last t b (no q) = rw (get_or-set_other latest d t (Some n) None q) (last_older (P t) (get_or latest t None) (λ p. q (one t p)) (r.last t b))

        back : (t k : ℕ) → k < n + 1 → P t k → Dec (k ≡ n) → LastOf (P t) k (get_or (set before n (get_or latest d None)) k None)
        back t k b y (yes q) = rw (q, one t (subst (P t) q y), get_or-set_same before n (get_or latest d None) None g) (r.last d small)
        back t k b y (no q) = rw (get_or-set_other before n k (get_or latest d None) None q) (r.back t k (earlier k b q) y)

module _ (calls : List Call) where
  pub chained_none : (c : Chains) → c.latest ≡ replicate max_steps None → Chained calls 0 c
  chained_none c e = linked_none (BayAt calls) max_steps max_steps e

  module _ (n : ℕ) {c : Chains} (r : Chained calls n c) where
    pub chained_past : get_or (kinds_of calls) n lift ≡ lift → Chained calls (n + 1) c
    chained_past e = linked_past (BayAt calls) max_steps n r (λ t p. no_bay (sym e ∙ p.0))

    pub chained_more : (c' : Chains) (d : ℕ) → get_or (kinds_of calls) n lift ≡ bay → get_or (deadlines_of calls) n 0 ≡ d → d < length c.latest → n < length c.before
        → c'.latest ≡ set c.latest d (Some n) → c'.before ≡ set c.before n (get_or c.latest d None) → d < max_steps → Chained calls (n + 1) c'
    chained_more c' d z e h g f f' small = rw (f, f') (linked_more (BayAt calls) max_steps n r d (z, e) (λ t p. sym p.1 ∙ e) small h g)

-- one more than the next number of a chain
abbrev pub left : Option ℕ → ℕ
left None = 0
left (Some k) = k + 1

-- Along a chain: the numbers from `upto` on were looked at, and none of P is one of Q; `next` is the last of P before.
pub record ChainWalked (P Q : ℕ → Type 0) (n : ℕ) (next : Option ℕ) : Type 0 where
  pub upto : ℕ
  pub few : upto ≤ n
  pub last : LastOf P upto next
  pub none : (k : ℕ) → upto ≤ k → k < n → P k → Q k → ⊥

pub walked_on : {P Q : ℕ → Type 0} {n : ℕ} (k : ℕ) {o : Option ℕ} → ChainWalked P Q n (Some k) → (Q k → ⊥) → LastOf P k o → ChainWalked P Q n o
walked_on {P} {Q} {n} k w out back = record { upto = k; few = omega (arith, w.last.0, w.few); last = back; none = λ j b h p q. none j h p q (eq-or-lt_of_le {n = k} {m = j} b) (below_or j w.upto) }
  where
    none : (j : ℕ) → j < n → P j → Q j → (k ≡ j) ⊎ (k < j) → (j < w.upto) ⊎ (w.upto ≤ j) → ⊥
    none j h p q (inl e) x = out (subst Q (sym e) q)
    none j h p q (inr l) (inl x) = w.last.2 j l x p
    none j h p q (inr l) (inr x) = w.none j x h p q
