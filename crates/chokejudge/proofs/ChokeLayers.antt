-- The layers over the rows of a floor are the free cells of its job, and a cell meets a call by the tables just where one that is no whole call of the list is met there: the entry of
-- a whole call was taken out, and no bay is one. So a list that some call is met round is wrong, and one that none is met round is right. Assumes nothing.
use Prim.Native.Nat.{ℕ, zero, suc, ◌+◌, ◌≤◌, ◌<◌}
use mathlib.Core.Path.{◌≡◌, refl, sym, ◌∙◌, ap}
use mathlib.Core.List.{List}
use mathlib.Core.Logic.{⊎_elim, ◌⊎◌, ◌↔◌, inl, inr}
use native.Mathlib.Omega.{arith}
use lib.ListN.{length, get_or}
use Rattle.std.proofs.lemmas.List.{length-map}
use Rattle.model.specs.Limits.{max_cells, max_steps}
use Rattle.model.specs.Lists.{In}
use Rattle.model.specs.Job.{CallKind, lift, bay, horizon}
use Rattle.model.specs.Walk.{Open, InTime}
use Rattle.model.specs.Choke as choke
use Rattle.model.specs.Choke.{point, cell_step, whole_call, KnownChoke, ChokesInOrder}
use Rattle.model.specs.Ready.{Ready}
use Rattle.model.specs.Promises.{RightChokes}
use Rattle.model.proofs.Floor.{time_due}
use Rattle.model.proofs.Decisions.{no_bay}
use Rattle.job.specs.Lists.{kinds_of, cells_of, deadlines_of, job_of}
use Rattle.job.specs.Held.{Some, as_choke, as_chokes}
use Rattle.job.specs.declared.state.Call.{Call}
use Rattle.job.specs.declared.state.Job.{Job}
use Rattle.job.specs.declared.held.Choke.{Choke}
use Rattle.job.specs.declared.held.Choke.TheVariants as variant
use Rattle.job.proofs.Lists.{calls_count, call-at, deadline_by}
use Rattle.floor.specs.declared.tables.Neighbours.{Neighbours}
use Rattle.floor.specs.Tables.{OpenAt, Near}
use Rattle.floor.specs.Made.{Filled, never, closes_at}
use Rattle.floor.proofs.JobTables.{move_even, near_even, calls_apart, shut_of}
use Rattle.chokejudge.specs.ChokeLayers.{Choked, Side, BayOn, Closing, MetBy, Reached, SomeMet}
use Rattle.chokejudge.specs.Points.{points_in}
use Rattle.chokejudge.specs.Lifts.{lifted_to, Lifts}
use Rattle.chokejudge.proofs.LayerLaws.{layer_known}
use Rattle.chokejudge.proofs.OrderLaws.{choked, passed}
use Rattle.chokejudge.proofs.ChokeWalks.{Free, CallFree, chokes}

-- The tables of the calls, by their parts.
abbrev pub Shuts : List Call → List ℕ → Type 0
Shuts calls shut = Filled (cells_of calls) (λ k. closes_at (get_or (kinds_of calls) k lift) (get_or (deadlines_of calls) k 0)) never (length calls) shut

-- A cell closes only behind the step of a bay on it.
pub closing_of : (calls : List Call) {shut : List ℕ} → Shuts calls shut → Closing calls shut
closing_of calls {shut} r = record { first = λ v h. first v (r.only v h); bay = λ t v h few e. on t v few e (r.only v h) }
  where
    Entry : ℕ → Type 0
    Entry v = (get_or shut v 0 ≡ never)
        ⊎ Some (length calls) (λ k. (get_or (cells_of calls) k 0 ≡ v) × (get_or shut v 0 ≡ closes_at (get_or (kinds_of calls) k lift) (get_or (deadlines_of calls) k 0)))

    later : (k : CallKind) (d : ℕ) → 0 < closes_at k d
    later lift d = omega arith
    later bay d = omega arith

    first : (v : ℕ) → Entry v → OpenAt shut 0 v
    first v (inl e) = omega arith
    first v (inr (k, h, (e, f))) = rw f (later (get_or (kinds_of calls) k lift) (get_or (deadlines_of calls) k 0))

    parks : (k : CallKind) (d t : ℕ) → t < max_steps → closes_at k d ≡ t + 1 → (k ≡ bay) × (d ≡ t)
    parks lift d t few e = absurd (omega arith)
    parks bay d t few e = (refl, omega arith)

    on : (t v : ℕ) → t < max_steps → get_or shut v 0 ≡ t + 1 → Entry v → BayOn calls t v
    on t v few e (inl f) = absurd (omega arith)
    on t v few e (inr (k, h, (f, g))) = (k, h, (f, parks (get_or (kinds_of calls) k lift) (get_or (deadlines_of calls) k 0) t few (sym g ∙ e)))

-- What the kind of a call says of the step at which it is met.
lifted_in_time : (k : CallKind) (d t : ℕ) → t < lifted_to k d → InTime k d t
lifted_in_time lift d t h = omega arith
lifted_in_time bay d t h = absurd (omega arith)

module _ (s : Job) (ready : Ready (job_of s)) where
  abbrev calls : List Call
  calls = s.calls.items

  abbrev kind : ℕ → CallKind
  kind k = get_or (kinds_of calls) k lift

  abbrev cell : ℕ → ℕ
  cell k = get_or (cells_of calls) k 0

  abbrev deadline : ℕ → ℕ
  deadline k = get_or (deadlines_of calls) k 0

  module _ (list : List Choke) (known : (x : choke.Choke) → In x (as_chokes list) → KnownChoke (job_of s) x) where
    pub points_known : (t v : ℕ) → Choked (points_in list) t v → v < s.cells
    points_known t v m = (known (cell_step (point v t)) ((choked list t v).1 m)).0

    -- a whole call is one at a lift
    whole_known : (k : ℕ) → In (variant.Call k) list → (k < length calls) × (kind k ≡ lift)
    whole_known k m =
        let (b, e) = known (whole_call k) ((passed list k).1 m) in
        (omega (arith, b, calls_count s), sym (ap (λ q. q.kind) (call-at s k)) ∙ e)

    pub calls_known : (k : ℕ) → In (variant.Call k) list → k < length calls
    calls_known k m = (whole_known k m).0

    module _ {rows : Neighbours} {shut : List ℕ} (r : Near (job_of s) rows.near rows.begin) (shuts : Shuts calls shut) where
      abbrev InLayer : ℕ → ℕ → Type 0
      InLayer = Reached rows shut s.carts.items (points_in list)

      in_floor : (t v : ℕ) → InLayer t v → v < s.cells
      in_floor = layer_known (λ v. In v s.carts.items) (Side rows) shut (Choked (points_in list)) s.cells ready.fit.known_carts (λ c h. r.all c c h (inl refl)) (near_even r)

      opens : (t v : ℕ) → v < s.cells → t ≤ max_steps → OpenAt shut t v ↔ Open (job_of s) t v
      opens t v b few = (shut_of s shuts).opens v t (omega (arith, ready.fit.few_cells)) few

      free : (t v : ℕ) → t ≤ max_steps → InLayer t v ↔ Free (job_of s) (as_chokes list) t v
      free zero v few = (λ p. (p.0, λ q. p.1 ((choked list 0 v).0 q)), λ p. (p.0, λ q. p.1 ((choked list 0 v).1 q)))
      free (suc t) v few = (λ p. there p (λ u. (free t u (omega arith)).0), λ p. back p (λ u. (free t u (omega arith)).1))
        where
          there : InLayer (suc t) v → ((u : ℕ) → InLayer t u → Free (job_of s) (as_chokes list) t u) → Free (job_of s) (as_chokes list) (suc t) v
          there ((u, f, p), o, q) is =
              let l = in_floor t u f in
              ((u, is u f, (move_even (job_of s) v u (r.only u v l p), (opens (suc t) v (near_even r u v l p).0 few).0 o)), λ x. q ((choked list (suc t) v).0 x))

          back : Free (job_of s) (as_chokes list) (suc t) v → ((u : ℕ) → Free (job_of s) (as_chokes list) t u → InLayer t u) → InLayer (suc t) v
          back ((u, f, (p, o)), q) is =
              let l = in_floor t u (is u f) in
              let i = r.all u v l (move_even (job_of s) u v p) in
              ((u, is u f, i), (opens (suc t) v (near_even r u v l i).0 few).1 o, λ x. q ((choked list (suc t) v).1 x))

      module _ {due : List ℕ} (lifts : Lifts calls list due) where
        -- call k is none of the whole calls, and is met at the step t
        abbrev MetAt : ℕ → ℕ → Type 0
        MetAt k t = (In (variant.Call k) list → ⊥) × InTime (kind k) (deadline k) t

        abbrev MetOn : ℕ → ℕ → Type 0
        MetOn t v = Some (length calls) (λ k. (cell k ≡ v) × MetAt k t)

        met_call : (t v : ℕ) → v < max_cells → MetBy due calls t v → MetOn t v
        met_call t v small (inl l) = ⊎_elim
            (λ e. ⊎_elim (λ z. absurd (omega arith)) (go e) (lifts.filled.only v small))
            (λ p. absurd (omega (arith, lifts.passed.gone v p)))
            (lifts.passed.each v)
          where
            go : get_or due v 0 ≡ get_or lifts.all v 0 → Some (length calls) (λ k. (cell k ≡ v) × (get_or lifts.all v 0 ≡ lifted_to (kind k) (deadline k))) → MetOn t v
            go e (k, b, (f, g)) = (k, b, (f, (λ m. omega (arith, lifts.passed.gone v (k, m, f)), lifted_in_time (kind k) (deadline k) t (omega arith))))
        met_call t v small (inr (k, b, (f, (g, e)))) =
            (k, b, (f, (λ m. no_bay (sym (whole_known k m).1 ∙ g), rw (g, e) refl)))

        call_met : (k t : ℕ) → k < length calls → MetAt k t → MetBy due calls t (cell k)
        call_met k t b (out, soon) = go (kind k) refl (lifts.filled.has k b) soon
          where
            kept : get_or due (cell k) 0 ≡ get_or lifts.all (cell k) 0
            kept = ⊎_elim (λ e. e) (λ (q, m, e). absurd (out (rw (calls_apart s ready q k (whole_known q m).0 b e) at m))) (lifts.passed.each (cell k))

            go : (x : CallKind) → kind k ≡ x → get_or lifts.all (cell k) 0 ≡ lifted_to x (deadline k) → InTime x (deadline k) t → MetBy due calls t (cell k)
            go lift f e l = inl (omega (arith, kept))
            go bay f e l = inr (k, b, (refl, (f, sym l)))

        module _ {last : ℕ} (h : last ≡ horizon (job_of s)) (few : last < max_steps) where
          -- a call that is met refutes the list
          pub chokes_wrong : SomeMet (MetBy due calls) last InLayer → RightChokes (job_of s) (as_chokes list) → ⊥
          chokes_wrong (t, soon, (v, o, i)) truly =
              let (k, b, (e, (out, met))) = met_call t v (omega (arith, in_floor t v o, ready.fit.few_cells)) i in
              let q = call-at s k in
              (chokes (job_of s) (as_chokes list)).1 truly.0.chokes k (omega (arith, calls_count s))
              (λ p. out ((passed list k).0 p), (t, rw q met, rw (q, e) ((free t v (omega arith)).0 o)))

          -- a list that no call refutes is right
          pub chokes_right : (SomeMet (MetBy due calls) last InLayer → ⊥) → length list < length calls → ChokesInOrder (as_chokes list) → RightChokes (job_of s) (as_chokes list)
          chokes_right none short order =
              (record { known = known; few = omega (arith, short, length-map list as_choke, calls_count s); chokes = (chokes (job_of s) (as_chokes list)).0 out }, order)
            where
              out : (k : ℕ) → k < length (job_of s).calls → CallFree (job_of s) (as_chokes list) k → ⊥
              out k b (whole, (t, met, f)) =
                  let l : k < length calls = omega (arith, b, calls_count s) in
                  let q = call-at s k in
                  let met' : InTime (kind k) (deadline k) t = rw q at met in
                  let soon : t ≤ last = omega (arith, time_due (kind k) (deadline k) t met', deadline_by s k l) in
                  none (t, soon, (cell k, (free t (cell k) (omega arith)).1 (rw q at f), call_met k t l (λ m. whole ((passed list k).1 m), met')))
