-- What a call's search and augmentation leave, put together: a search keeps the flow, so the next search or the augmentation may start from its store, and
-- what is served is told from the store at entry. Marks stay at most the stamp, so that a larger one is on none of them. Assumes nothing.
use Rattle.std.specs.Prelude.{Option, None, Some}
use Prim.Native.Nat.{ℕ, ◌<◌, ◌≤◌}
use mathlib.Core.Path.{◌≡◌, ◌∙◌, subst, subst₂}
use mathlib.Core.List.{List}
use mathlib.Core.Bool.{Bool, true, false}
use mathlib.Core.Logic.{◌⊎◌, ◌↔◌, ⊎_elim}
use native.Mathlib.Omega.{arith}
use Rattle.model.specs.Job.{Job}
use Rattle.model.specs.Choke.{Point}
use Rattle.model.proofs.Basics.{nope}
use Rattle.floor.specs.declared.tables.Tables as floor
use Rattle.flow.specs.Flow.{Link, end}
use Rattle.network.specs.Store.{grid_of}
use Rattle.network.specs.Links.{on_link}
use Rattle.network.specs.declared.planes.Grid.{Grid}
use Rattle.network.proofs.HoldsLaws.{on_same, holds_same, holds_flow}
use Rattle.route.specs.Stack.{pos_at}
use Rattle.route.specs.Search.{Fresh, OnStack, Searching, Searched, Laying, Augmented}
use Rattle.route.specs.Serve.{MarksUpTo, Sought}

module _ {j : Job} {T : floor.Tables} {s t : List ℕ} {g : Grid} {x : Point} {stamp : ℕ} {r : Option ℕ} (f : Searched j s t stamp x r) (h : Searching j T s g x) where
  marks_search : (n : ℕ) → stamp ≤ n → MarksUpTo j s n → MarksUpTo j t n
  marks_search n l m v b = ⊎_elim (λ e. omega (arith, e, m v b)) (λ e. omega (arith, e)) (f.marks v b)

  pub sought_none : r ≡ None → Sought j g s t stamp x false
  sought_none e = record {
    long = f.same.long;
    holds = holds_same h.holds f.same;
    marks = marks_search;
    serves = λ z. nope (cc);
    same = λ z. f.same;
    stuck = λ z. rw e at f.ends;
  }

  module _ {d : ℕ} (e : r ≡ Some d) where
    found : OnStack j t d × (pos_at (grid_of j) t 0 ≡ x)
    found = rw e at f.ends

    -- The way that was found may be laid, and then was.
    pub may_lay : Laying j t g d
    may_lay = record { holds = holds_same h.holds f.same; stack = found.0 }

    pub sought_some : {u : List ℕ} → Augmented j t u (pos_at (grid_of j) t 0) → Sought j g s u stamp x true
    sought_some {u} a = record {
      long = a.long ∙ f.same.long;
      holds = holds_flow may_lay.holds a.long a.flow;
      marks = λ n l m v b. ⊎_elim (λ e. omega (arith, e, marks_search n l m v b)) (λ e. omega (arith, e)) (a.marks v b);
      serves = λ z v. subst₂ (λ (l : Point → Link Point) (y : Point). (on_link j u v ≡ end) ↔ ((l v ≡ end) ⊎ (v ≡ y))) (on_same j f.same) found.1 (a.serves v);
      same = λ z. nope (cc);
      stuck = λ z. nope (cc);
    }

-- After one that found nothing, a larger stamp is on no mark, and what is served is served from the store at entry.
module _ {j : Job} {s t : List ℕ} {g : Grid} {x : Point} {stamp : ℕ} {r : Bool} (k : Sought j g s t stamp x r) where
  pub fresh_next : (m : ℕ) → stamp < m → MarksUpTo j s stamp → Fresh j t m
  fresh_next m l h v b e = omega (arith, e, k.marks stamp (omega arith) h v b)

  pub serves_from : r ≡ false → {P : Type 0} (v : Point) → P ↔ ((on_link j t v ≡ end) ⊎ (v ≡ x)) → P ↔ ((on_link j s v ≡ end) ⊎ (v ≡ x))
  serves_from e {P} v = subst (λ (l : Point → Link Point). P ↔ ((l v ≡ end) ⊎ (v ≡ x))) (on_same j (k.same e))

  -- Two of them, with a stamp that does not fall.
  pub marks_both : {t' : List ℕ} {x' : Point} {stamp' : ℕ} {r' : Bool} → Sought j g t t' stamp' x' r' → stamp ≤ stamp' → MarksUpTo j s stamp → MarksUpTo j t' stamp'
  marks_both {stamp' = n} k' l h = k'.marks n (omega arith) (k.marks n l (λ v b. omega (arith, h v b)))
