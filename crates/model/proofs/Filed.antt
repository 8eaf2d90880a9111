-- The filed examples hold: of each job every right plan and every right choke list is listed (`Every`), and the list is compared with what is filed. What is filed as one of
-- several sheets is what the check passes.
use Prim.Native.Nat.{ℕ, ◌+◌, ◌*◌, ◌%◌, ◌<◌}
use mathlib.Core.Path.{◌≡◌, refl, sym, ◌∙◌, ap}
use mathlib.Core.Bool.{cond}
use lib.Dec.{ltb}
use mathlib.Core.List.{List, [], ◌++◌}
use mathlib.Core.Logic.{◌⊎◌, inl, inr}
use native.Mathlib.Nat.{add-mul-mod_self_left}
use lib.ListN.{length, drop}
use Rattle.model.specs.declared.answer.Answer.TheVariants as answer
use Rattle.model.specs.Answers.{number}
use Rattle.model.specs.Lists.{In}
use Rattle.model.specs.Job.{Job}
use Rattle.model.specs.Choke.{Choke}
use Rattle.model.specs.SheetText.{plan_text, cannot_text}
use Rattle.model.specs.ReadJob.{Verdict, refused, accepted, read_job}
use Rattle.model.specs.ReadSheet.{Sheet, bad, plan, cannot, read_sheet}
use Rattle.model.specs.Bytes.{bytes}
use Rattle.model.specs.Promises.{Told, Decided, Judged, Answers, RightPlan, RightChokes, plan_verdict, check_verdict, store_after, zeros, text_answer, text_bytes, Planned, Checked, TextGiven}
use Rattle.model.specs.GridMap.{map_verdict, read_map}
use Rattle.model.specs.Filed.{Row, Outcome, wrote, refuses, plans, checks, maps, allows, AsFiled, RowHolds, packed, written, leaves, filed}
use Rattle.model.proofs.Contrary.{weak}
use Rattle.model.proofs.Agree.{agree_back}
use Rattle.model.proofs.Decide.{decided, dec_and, dec_or, dec_eq, dec-lt, dec_list, dec_not, all_in, any_in}
use Rattle.model.proofs.Every.{Planning, all_plans, all_chokes, plan_listed, chokes_listed}
use Rattle.model.proofs.Decisions.{dec_right_plan, dec_right_chokes}

-- The planner, on an accepted job.
module _ (j : Job) (r : ℕ) (b : List ℕ) where
  abbrev pub PlanFiled : Planning → Type 0
  PlanFiled p = (plan_text p.0 p.1 ≡ b) × (number answer.Plan + 256 * length (plan_text p.0 p.1) ≡ r)

  abbrev pub ChokesFiled : List Choke → Type 0
  ChokesFiled xs = (cannot_text xs ≡ b) × (number answer.Cannot + 256 * length (cannot_text xs) ≡ r)

  -- some right sheet is the filed one, and every right sheet is
  abbrev pub Shown : Type 0
  Shown = (((p : Planning) × In p (all_plans j) × (RightPlan j p.0 p.1 × PlanFiled p)) ⊎ ((xs : List Choke) × In xs (all_chokes j) × (RightChokes j xs × ChokesFiled xs)))
      × (((p : Planning) → In p (all_plans j) → PlanFiled p) × ((xs : List Choke) → In xs (all_chokes j) → ChokesFiled xs))

  abbrev pub dec_plan_filed : (p : Planning) → Dec (PlanFiled p)
  dec_plan_filed p = dec_and (dec_list dec_eq (plan_text p.0 p.1) b) (dec_eq (number answer.Plan + 256 * length (plan_text p.0 p.1)) r)

  abbrev pub dec_chokes_filed : (xs : List Choke) → Dec (ChokesFiled xs)
  dec_chokes_filed xs = dec_and (dec_list dec_eq (cannot_text xs) b) (dec_eq (number answer.Cannot + 256 * length (cannot_text xs)) r)

  abbrev pub dec_shown : Dec Shown
  dec_shown = dec_and
      (dec_or (any_in (λ p. dec_and (dec_right_plan j p.0 p.1) (dec_plan_filed p)) (all_plans j))
      (any_in (λ xs. dec_and (dec_right_chokes j xs) (dec_chokes_filed xs)) (all_chokes j)))
      (dec_and (all_in dec_plan_filed (all_plans j)) (all_in dec_chokes_filed (all_chokes j)))

  allowed : Shown → Answers j r b
  allowed (inl ((ps, ss), m, (h, (e, f))), s) = inl (ps, ss, h, sym e, sym f ∙ ap (λ x. number answer.Plan + 256 * length x) e)
  allowed (inr (xs, m, (h, (e, f))), s) = inr (xs, h, sym e, sym f ∙ ap (λ x. number answer.Cannot + 256 * length x) e, λ ps ss p. weak j xs ps ss h.0 p)

  no_other : Shown → (r' : ℕ) (b' : List ℕ) → Answers j r' b' → (r' ≡ r) × (b' ≡ b)
  no_other s r' b' (inl (ps, ss, h, e, f)) =
      let g = s.1.0 (ps, ss) (plan_listed j ps ss h) in (f ∙ ap (λ x. number answer.Plan + 256 * length x) e ∙ g.1, e ∙ g.0)
  no_other s r' b' (inr (xs, h, e, f, n)) =
      let g = s.1.1 xs (chokes_listed j xs h) in (f ∙ ap (λ x. number answer.Cannot + 256 * length x) e ∙ g.1, e ∙ g.0)

-- The filed sheet is the only one, or it is one that the check passes; and what else is told is the same, or has the same answer.
abbrev pub Only : Job → ℕ → List ℕ → Type 0
Only j a b = Shown j (a + 256 * length b) b

abbrev pub SheetPassed : Job → ℕ → List ℕ → Type 0
SheetPassed j a b = (a < 2) × Judged j (read_sheet j b) a

abbrev SameSheet : ℕ → List ℕ → ℕ → List ℕ → Type 0
SameSheet r b r' b' = (r' ≡ r) × (b' ≡ b)

abbrev SameAnswer : ℕ → List ℕ → ℕ → List ℕ → Type 0
SameAnswer r b r' b' = r' % 256 ≡ r % 256

low : (k : ℕ) (c d : List ℕ) → (k + 256 * length c) % 256 ≡ (k + 256 * length d) % 256
low k c d = add-mul-mod_self_left k 256 (length c) ∙ sym (add-mul-mod_self_left k 256 (length d))

-- no job has a plan and a true choke list
one_answer : (j : Job) (r r' : ℕ) (b b' : List ℕ) → Answers j r b → Answers j r' b' → SameAnswer r b r' b'
one_answer j r r' b b' (inl (ps, ss, h, e, f)) (inl (qs, rs, k, g, l)) = rw (f, l) (low (number answer.Plan) b' b)
one_answer j r r' b b' (inl (ps, ss, h, e, f)) (inr (ys, k, g, l, never)) = absurd (never ps ss h.0)
one_answer j r r' b b' (inr (xs, h, e, f, never)) (inl (qs, rs, k, g, l)) = absurd (never qs rs k.0)
one_answer j r r' b b' (inr (xs, h, e, f, m)) (inr (ys, k, g, l, n)) = rw (f, l) (low (number answer.Cannot) b' b)

-- The planner, on any verdict, where P shows a filed sheet.
module _ (P : Job → ℕ → List ℕ → Type 0) where
  abbrev pub ToldShown : Verdict Job → Outcome → Type 0
  ToldShown (refused a l) (refuses n m) = (n ≡ number a) × (m ≡ l)
  ToldShown (refused a l) (wrote k s) = ⊥
  ToldShown (accepted j) (refuses n m) = ⊥
  ToldShown (accepted j) (wrote a s) = P j a (bytes s)

  abbrev pub dec_told : ((j : Job) (a : ℕ) (b : List ℕ) → Dec (P j a b)) → (v : Verdict Job) (o : Outcome) → Dec (ToldShown v o)
  dec_told d (refused a l) (refuses n m) = dec_and (dec_eq n (number a)) (dec_eq m l)
  dec_told d (refused a l) (wrote k s) = no (λ h. h)
  dec_told d (accepted j) (refuses n m) = no (λ h. h)
  dec_told d (accepted j) (wrote a s) = d j a (bytes s)

  -- what is filed is told, what else is told stands in Q to it, and the store is left as filed
  module _ (Q : ℕ → List ℕ → ℕ → List ℕ → Type 0) (same : (r : ℕ) (b : List ℕ) → Q r b r b) (answered : (j : Job) (a : ℕ) (b : List ℕ) → P j a b → Answers j (a + 256 * length b) b)
      (others : (j : Job) (a : ℕ) (b : List ℕ) → P j a b → (r : ℕ) (c : List ℕ) → Answers j r c → Q (a + 256 * length b) b r c) where
    told_holds : (v : Verdict Job) (o : Outcome) → ToldShown v o
        → Told v (packed o) (written o) × (((r : ℕ) (b : List ℕ) → Told v r b → Q (packed o) (written o) r b) × ((store : List ℕ) → store_after v store ≡ leaves o store))
    told_holds (refused a l) (refuses n m) (e, f) =
        let g : n + 256 * m ≡ number a + 256 * l = rw (e, f) in ((g, refl), ((λ r b h. rw (h.0 ∙ sym g, h.1) (same (n + 256 * m) [])), λ store. refl))
    told_holds (refused a l) (wrote k s) h = absurd h
    told_holds (accepted j) (refuses n m) h = absurd h
    told_holds (accepted j) (wrote a s) h = (answered j a (bytes s) h, (others j a (bytes s) h, λ store. refl))

-- The check: of a fact and its contrary one holds, so the answer is one.
abbrev pub dec_either : {P : Type 0} → Dec P → (m n r : ℕ) → Dec ((P × (r ≡ m)) ⊎ ((P → ⊥) × (r ≡ n)))
dec_either d m n r = dec_or (dec_and d (dec_eq r m)) (dec_and (dec_not d) (dec_eq r n))

either_once : {P : Type 0} {m n : ℕ} (r r' : ℕ) → (P × (r ≡ m)) ⊎ ((P → ⊥) × (r ≡ n)) → (P × (r' ≡ m)) ⊎ ((P → ⊥) × (r' ≡ n)) → r' ≡ r
either_once r r' (inl (p, e)) (inl (q, f)) = f ∙ sym e
either_once r r' (inl (p, e)) (inr (n, f)) = absurd (n p)
either_once r r' (inr (n, e)) (inl (q, f)) = absurd (n q)
either_once r r' (inr (n, e)) (inr (k, f)) = f ∙ sym e

abbrev pub dec_judged : (j : Job) (s : Sheet) (r : ℕ) → Dec (Judged j s r)
dec_judged j (bad l) r = dec_eq r (number answer.BadSheet + 256 * l)
dec_judged j (plan ps ss) r = dec_either (dec_right_plan j ps ss) (number answer.Plan) (number answer.WrongSheet) r
dec_judged j (cannot xs) r = dec_either (dec_right_chokes j xs) (number answer.Cannot) (number answer.WrongSheet) r

judged_once : (j : Job) (s : Sheet) (r r' : ℕ) → Judged j s r → Judged j s r' → r' ≡ r
judged_once j (bad l) r r' e f = f ∙ sym e
judged_once j (plan ps ss) r r' h k = either_once r r' h k
judged_once j (cannot xs) r r' h k = either_once r r' h k

abbrev pub dec_decided : (v : Verdict Job) (sheet : List ℕ) (r : ℕ) → Dec (Decided v sheet r)
dec_decided (refused a l) sheet r = dec_eq r (number a + 256 * l)
dec_decided (accepted j) sheet r = dec_judged j (read_sheet j sheet) r

decided_once : (v : Verdict Job) (sheet : List ℕ) (r r' : ℕ) → Decided v sheet r → Decided v sheet r' → r' ≡ r
decided_once (refused a l) sheet r r' e f = f ∙ sym e
decided_once (accepted j) sheet r r' h k = judged_once j (read_sheet j sheet) r r' h k

-- The map reader, on any verdict: what is filed is what it gives.
abbrev pub GivenShown : Verdict (List ℕ) → Outcome → Type 0
GivenShown v o = (packed o ≡ text_answer v) × (written o ≡ text_bytes v)

-- A row, by computation; and so the table.
abbrev pub RowShown : Row → Type 0
RowShown (plans job n m o) = ToldShown Only (plan_verdict (bytes job) n m) o
RowShown (checks job n sheet k) = Decided (check_verdict (bytes job) n) (bytes sheet) k
RowShown (maps map n o) = GivenShown (map_verdict (bytes map) n) o
RowShown (allows job n m o) = ToldShown SheetPassed (plan_verdict (bytes job) n m) o

abbrev pub dec_row : (x : Row) → Dec (RowShown x)
dec_row (plans job n m o) = dec_told Only (λ j a b. dec_shown j (a + 256 * length b) b) (plan_verdict (bytes job) n m) o
dec_row (checks job n sheet k) = dec_decided (check_verdict (bytes job) n) (bytes sheet) k
dec_row (maps map n o) =
    let v = map_verdict (bytes map) n in
    dec_and (dec_eq (packed o) (text_answer v)) (dec_list dec_eq (written o) (text_bytes v))
dec_row (allows job n m o) = dec_told SheetPassed (λ j a b. dec_and (dec-lt a 2) (dec_judged j (read_sheet j b) a)) (plan_verdict (bytes job) n m) o

filed_planned : (job store sheet store' sheet' : List ℕ) (r : ℕ) (o : Outcome) → Told (plan_verdict job (length store) (length sheet)) (packed o) (written o)
    → store_after (plan_verdict job (length store) (length sheet)) store ≡ leaves o store → AsFiled o store sheet store' sheet' r → Planned job store sheet store' sheet' r
filed_planned job store sheet store' sheet' r o t left (e, f, g) = record { bytes = written o; told = rw e t; sheet_after = f; store-after = g ∙ sym left }

module _ (job store sheet store' : List ℕ) (r k : ℕ) (s : Decided (check_verdict job (length store)) sheet k) where
  checked_filed : Checked job store sheet store' r → (r ≡ k) × (store' ≡ cond (ltb k 2) (zeros store) store)
  checked_filed p =
      let e = decided_once (check_verdict job (length store)) sheet k r s p.told in
      (e, p.store-after ∙ ap (λ x. cond (ltb x 2) (zeros store) store) e)

  filed_checked : (r ≡ k) × (store' ≡ cond (ltb k 2) (zeros store) store) → Checked job store sheet store' r
  filed_checked (e, f) = record { told = rw e s; store-after = f ∙ ap (λ x. cond (ltb x 2) (zeros store) store) (sym e) }

module _ (v : Verdict (List ℕ)) (text text' : List ℕ) (r : ℕ) (o : Outcome) (s : GivenShown v o) where
  given_filed : TextGiven v text text' r → (r ≡ packed o) × (text' ≡ written o ++ drop (length (written o)) text)
  given_filed p = (p.told ∙ sym s.0, p.text_after ∙ ap (λ b. b ++ drop (length b) text) (sym s.1))

  filed_given : (r ≡ packed o) × (text' ≡ written o ++ drop (length (written o)) text) → TextGiven v text text' r
  filed_given (e, f) = record { told = e ∙ s.0; text_after = f ∙ ap (λ b. b ++ drop (length b) text) s.1 }

pub row_holds : (x : Row) → RowShown x → RowHolds x
row_holds (plans job n m o) h = λ store sheet store' sheet' r e f.
    let v = plan_verdict (bytes job) (length store) (length sheet) in
    let s : ToldShown Only v o = rw (e, f) h in
    let (t, (only, left)) = told_holds Only SameSheet (λ r b. (refl, refl)) (λ j a b. allowed j (a + 256 * length b) b) (λ j a b. no_other j (a + 256 * length b) b) v o s in (
      λ p. let (g, k) = only r p.bytes p.told in (g, p.sheet_after ∙ ap (λ b. b ++ drop (length b) sheet) k, p.store-after ∙ left store),
      filed_planned (bytes job) store sheet store' sheet' r o t (left store),
    )
row_holds (checks job n sheet k) h = λ store store' r e.
    let s : Decided (check_verdict (bytes job) (length store)) (bytes sheet) k = rw e h in
    (checked_filed (bytes job) store (bytes sheet) store' r k s, filed_checked (bytes job) store (bytes sheet) store' r k s)
row_holds (maps map n o) h = λ text text' r e.
    let s : GivenShown (map_verdict (bytes map) (length text)) o = rw e h in
    (given_filed (map_verdict (bytes map) (length text)) text text' r o s, filed_given (map_verdict (bytes map) (length text)) text text' r o s)
row_holds (allows job n m o) h = λ store sheet store' sheet' r e f.
    let v = plan_verdict (bytes job) (length store) (length sheet) in
    let s : ToldShown SheetPassed v o = rw (e, f) h in
    let (t, (only, left)) = told_holds SheetPassed SameAnswer (λ r b. refl) passed
    (λ j a b h r c. one_answer j (a + 256 * length b) r b c (passed j a b h)) v o s in
    (λ p. only r p.bytes p.told, filed_planned (bytes job) store sheet store' sheet' r o t (left store))
  where
    passed : (j : Job) (a : ℕ) (b : List ℕ) → SheetPassed j a b → Answers j (a + 256 * length b) b
    passed j a b (few, h) = agree_back j b a few h

pub filed_hold : (x : Row) → In x filed → RowHolds x
unfolding read_job read_sheet read_map
filed_hold x m = row_holds x (decided (all_in dec_row filed) tt x m)
