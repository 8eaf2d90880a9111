-- A list chokes a job just where no call that is none of its whole calls has its cell free at a step at which the call is met: free are the cells that a walk can be on at a step
-- without having stood on a cell of the list. A walk that stands on none goes along free cells; and each free cell is the end of such a walk, made a step at a time. Assumes nothing.
use Prim.Native.Nat.{ℕ, zero, suc, ◌<◌}
use mathlib.Core.Path.{◌≡◌, refl, sym, ◌∙◌}
use mathlib.Core.List.{List, [], ◌∷◌, ◌++◌}
use mathlib.Core.Logic.{⊎_elim, ◌↔◌}
use native.Mathlib.Omega.{arith}
use native.Mathlib.Nat.{eq-or-lt_of_le}
use lib.ListN.{length, get_or, length-append, get_or-append}
use lib.Seq.{get_or_at}
use Rattle.model.specs.Lists.{In}
use Rattle.model.specs.Job.{Job, call_of}
use Rattle.model.specs.Walk.{At, Step, Walk, InTime}
use Rattle.model.specs.Choke.{Point, point, Choke, cell_step, whole_call, Stops, StandsOn, Chokes}
use Rattle.model.proofs.Decisions.{dec_stands}

pub point_eq : (x : Point) (v t : ℕ) → x.cell ≡ v → x.step ≡ t → x ≡ point v t
point_eq x v t e f = λ i. point (e i) (f i)

module _ (j : Job) (xs : List Choke) where
  -- v is free at the step t
  abbrev pub Free : ℕ → ℕ → Type 0
  Free zero v = In v j.carts × (In (cell_step (point v 0)) xs → ⊥)
  Free (suc t) v = ((u : ℕ) × Free t u × Step j t u v) × (In (cell_step (point v (suc t))) xs → ⊥)

  -- the walk stands on a cell of the list
  abbrev Crosses : List ℕ → Type 0
  Crosses w = (x : Point) × In (cell_step x) xs × At w x.step x.cell

  walk_free : (c : ℕ) (w : List ℕ) → In c j.carts → Walk j c w → (Crosses w → ⊥) → (t : ℕ) → t < length w → Free t (get_or w t 0)
  walk_free c w m k out zero h = (rw k.starts.1 m, λ p. out (point (get_or w 0 0) 0, p, (h, refl)))
  walk_free c w m k out (suc t) h =
      ((get_or w t 0, walk_free c w m k out t (omega arith), k.steps t h), λ p. out (point (get_or w (suc t) 0) (suc t), p, (h, refl)))

  -- a walk to v that stands on none
  record Unstopped (t v : ℕ) : Type 0 where
    pub cart : ℕ
    pub cells : List ℕ
    pub known : In cart j.carts
    pub walks : Walk j cart cells
    pub size : length cells ≡ suc t
    pub ends : get_or cells t 0 ≡ v
    pub out : Crosses cells → ⊥

  unstopped_none : (v : ℕ) → Free 0 v → Unstopped 0 v
  unstopped_none v (m, n) = record {
    cart = v;
    cells = v ∷ [];
    known = m;
    walks = record { starts = (omega arith, refl); steps = λ t h. absurd (omega arith) };
    size = refl;
    ends = refl;
    out = out;
  }
    where
      out : Crosses (v ∷ []) → ⊥
      out (x, p, (h, e)) =
          let z : x.step ≡ 0 = omega arith in
          n (rw (point_eq x v 0 (sym (rw z at e)) z) at p)

  module _ (t u v : ℕ) (a : Unstopped t u) (s : Step j t u v) (n : In (cell_step (point v (suc t))) xs → ⊥) where
    more : List ℕ
    more = a.cells ++ (v ∷ [])

    size : length more ≡ suc (suc t)
    unfolding more
    size = length-append a.cells (v ∷ []) ∙ omega (arith, a.size)

    older : (k : ℕ) → k < suc t → get_or more k 0 ≡ get_or a.cells k 0
    unfolding more
    older k h = get_or-append a.cells (v ∷ []) 0 k (omega (arith, a.size))

    newest : get_or more (suc t) 0 ≡ v
    unfolding more
    newest = get_or_at a.cells v [] 0 (suc t) a.size

    steps : (k : ℕ) → suc k < length more → Step j k (get_or more k 0) (get_or more (suc k) 0)
    steps k h = ⊎_elim
        (λ e. let f : k ≡ t = omega arith in rw (f, newest, older t (omega arith), a.ends) s)
        (λ l. rw (older k (omega arith), older (suc k) l) (a.walks.steps k (omega (arith, a.size))))
        (eq-or-lt_of_le {n = suc k} {m = suc t} (omega (arith, size)))

    out : Crosses more → ⊥
    out (x, p, (h, e)) = ⊎_elim
        (λ f. n (rw (point_eq x v (suc t) (sym e ∙ rw f newest) f) at p))
        (λ l. a.out (x, p, (omega (arith, a.size), sym (older x.step l) ∙ e)))
        (eq-or-lt_of_le {n = x.step} {m = suc t} (omega (arith, size)))

    unstopped_more : Unstopped (suc t) v
    unstopped_more = record {
      cart = a.cart;
      cells = more;
      known = a.known;
      walks = record { starts = (omega (arith, size), older 0 (omega arith) ∙ a.walks.starts.1); steps = steps };
      size = size;
      ends = newest;
      out = out;
    }

  free_unstopped : (t v : ℕ) → Free t v → Unstopped t v
  free_unstopped zero v f = unstopped_none v f
  free_unstopped (suc t) v ((u, f, s), n) = unstopped_more t u v (free_unstopped t u f) s n

  -- the call k is no whole call of the list, and its cell is free at a step at which it is met
  abbrev pub CallFree : ℕ → Type 0
  CallFree k = (In (whole_call k) xs → ⊥) × ((t : ℕ) × InTime (call_of j k).kind (call_of j k).deadline t × Free t (call_of j k).cell)

  pub chokes : ((k : ℕ) → k < length j.calls → CallFree k → ⊥) ↔ Chokes j xs
  chokes = (there, back)
    where
      there : ((k : ℕ) → k < length j.calls → CallFree k → ⊥) → Chokes j xs
      there none c m k b w walk s = go (dec_stands w k xs)
        where
          go : Dec (StandsOn w k xs) → StandsOn w k xs
          go (yes on) = on
          go (no out) = absurd (none k b (
            λ p. out (whole_call k, p, refl),
            (s.last, s.in_time, rw s.ends at (walk_free c w m walk (λ (x, p, a). out (cell_step x, p, a)) s.last (omega (arith, s.size)))),
          ))

      back : Chokes j xs → (k : ℕ) → k < length j.calls → CallFree k → ⊥
      back all k b (not-whole, (t, soon, f)) = stopped (all a.cart a.known k b a.cells a.walks (record { last = t; size = a.size; in_time = soon; ends = a.ends }))
        where
          a : Unstopped t (call_of j k).cell
          a = free_unstopped t (call_of j k).cell f

          by : (x : Choke) → In x xs → Stops a.cells k x → ⊥
          by (cell_step x) p on = a.out (x, p, on)
          by (whole_call m) p e = not-whole (rw e at p)

          stopped : StandsOn a.cells k xs → ⊥
          stopped (x, p, on) = by x p on
