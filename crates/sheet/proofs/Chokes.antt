-- What a CHOKE line says by its numbers: what each return of the functions that read it cites. Assumes nothing.
use Prim.Native.Nat.{ℕ, ◌+◌, ◌≤◌, ◌<◌}
use mathlib.Core.Path.{◌≡◌, refl, sym, ap, ◌∙◌}
use mathlib.Core.List.{List, [], ◌∷◌, ◌++◌}
use mathlib.Core.Option.{Option, none, some}
use mathlib.Core.Bool.{Bool, true, false, cond, ◌&&◌}
use lib.Dec.{ltb, leb, eqb}
use lib.ListN.{length, drop}
use borrow.Author.Tests.{lt-ltb, le-ltb, le-leb, lt-leb, eqb-true}
use Rattle.std.specs.Prelude.{None}
use Rattle.model.specs.Bytes.{bytes}
use Rattle.model.specs.Job.{Job, call_of, lift, bay, horizon}
use Rattle.model.specs.Choke as choke
use Rattle.model.specs.Choke.{point, cell_step, whole_call}
use Rattle.model.specs.Text.{number_of, and_number, numbers_of, starts_with, opens, after, choke_word, whole_word}
use Rattle.model.specs.ReadSheet.{numbers_after, point_of, is_lift, known_whole, whole_of, choke_line}
use Rattle.model.proofs.Basics.{nope}
use Rattle.text.specs.Scan.{found, field_at, field_of, scanned, number_at}
use Rattle.sheet.specs.Parts.{number_past, only_of, behind}
use Rattle.sheet.proofs.Fields.{numbers_cases, behind_more, behind_none, past_none, past_number, past_some, second_none, second_some}

-- Where a line opens with a letter behind a word, no number stands there.
starts_rest : (u v l : List ℕ) → starts_with (u ++ v) l ≡ true → starts_with v (drop (length u) l) ≡ true
starts_rest [] v l e = e
starts_rest (a ∷ u) v [] e = nope (cc)
starts_rest (a ∷ u) v (b ∷ l) e = go (eqb b a) e (starts_rest u v l)
  where
    go : (t : Bool) → cond t (starts_with (u ++ v) l) false ≡ true → (starts_with (u ++ v) l ≡ true → starts_with v (drop (length u) l) ≡ true) → starts_with v (drop (length u) l) ≡ true
    go true e ih = ih e
    go false e ih = nope (cc)

opened_none : (a : ℕ) (w l : List ℕ) → ((s : List ℕ) → number_of (field_of (a ∷ s)) ≡ none) → starts_with (a ∷ w) l ≡ true → number_of (field_of l) ≡ none
opened_none a w [] h e = nope (cc)
opened_none a w (b ∷ l) h e = go (eqb b a) refl e
  where
    go : (t : Bool) → eqb b a ≡ t → cond t (starts_with w l) false ≡ true → number_of (field_of (b ∷ l)) ≡ none
    go true q e = rw (eqb-true b a q) (h l)
    go false q e = nope (cc)

word_no_number : (u w l : List ℕ) (a : ℕ) → ((s : List ℕ) → number_of (field_of (a ∷ s)) ≡ none) → starts_with (u ++ (a ∷ w)) l ≡ true → number_at l (length u) ≡ None
unfolding field_at
word_no_number u w l a h e = ap (scanned (length u) (length (field_of (drop (length u) l)))) (opened_none a w (drop (length u) l) h (starts_rest u (a ∷ w) l e))

-- A whole call.
module _ (j : Job) (l : List ℕ) where
  -- what the only number says, if it is one
  abbrev by_only : Option ℕ → Option choke.Choke
  by_only none = none
  by_only (some k) = cond (known_whole j k) (some (whole_call k)) none

  whole_says : (o : Option (List ℕ)) → whole_of j o ≡ by_only (only_of o)
  whole_says none = refl
  whole_says (some []) = refl
  whole_says (some (k ∷ [])) = refl
  whole_says (some (k ∷ m ∷ ns)) = refl

  module _ {k : ℕ} (e : some k ≡ only_of (numbers_after whole_word l)) where
    kind_says : {x y : Bool} → ltb k (length j.calls) ≡ x → is_lift (call_of j k).kind ≡ y → whole_of j (numbers_after whole_word l) ≡ cond (x && y) (some (whole_call k)) none
    kind_says f g = whole_says (numbers_after whole_word l) ∙ ap by_only (sym e) ∙ rw (f, g)

    pub whole_unknown : length j.calls ≤ k → whole_of j (numbers_after whole_word l) ≡ none
    whole_unknown h = kind_says (le-ltb _ _ h) refl

    pub whole_bay : k < length j.calls → (call_of j k).kind ≡ bay → whole_of j (numbers_after whole_word l) ≡ none
    whole_bay h f = kind_says (lt-ltb _ _ h) (ap is_lift f)

    pub whole_lift : k < length j.calls → (call_of j k).kind ≡ lift → whole_of j (numbers_after whole_word l) ≡ some (whole_call k)
    whole_lift h f = kind_says (lt-ltb _ _ h) (ap is_lift f)

-- A cell at a step.
module _ (j : Job) (l : List ℕ) where
  pub choke_whole : number_past (choke_word ++ (9 ∷ [])) l ≡ None → whole_of j (numbers_after whole_word l) ≡ choke_line j l
  choke_whole e = go (opens whole_word l)
    where
      go : (t : Bool) → whole_of j (cond t (numbers_of (after whole_word l)) none) ≡ cond t (whole_of j (numbers_of (after whole_word l))) (point_of j (numbers_after choke_word l))
      go true = refl
      go false = sym (ap (point_of j) (past_none (choke_word ++ (9 ∷ [])) l e))

  module _ {a next : ℕ} (e : number_past (choke_word ++ (9 ∷ [])) l ≡ found a next) where
    -- behind CHOKE stands a number, so no whole call
    no_whole : choke_line j l ≡ point_of j (and_number (some a) (behind l next))
    no_whole = go (opens whole_word l) refl
      where
        go : (t : Bool) → opens whole_word l ≡ t
            → cond t (whole_of j (numbers_of (after whole_word l))) (point_of j (numbers_after choke_word l)) ≡ point_of j (and_number (some a) (behind l next))
        go true q =
            let f : found a next ≡ None = sym (past_number (choke_word ++ (9 ∷ [])) l e) ∙ word_no_number (choke_word ++ (9 ∷ [])) (bytes "ALL\t") l 67 (λ s. refl) q in
            nope (cc)
        go false q = ap (point_of j) (past_some (choke_word ++ (9 ∷ [])) l e)

    pub choke_few : number_at l (next + 1) ≡ None → choke_line j l ≡ none
    choke_few f = no_whole ∙ second_none l next (λ o. point_of j (and_number (some a) o)) refl refl f

    module _ {b end : ℕ} (f : number_at l (next + 1) ≡ found b end) where
      two : choke_line j l ≡ point_of j (and_number (some a) (and_number (some b) (behind l end)))
      two = no_whole ∙ ap (λ o. point_of j (and_number (some a) o)) (second_some l next b end f)

      pub choke_over : end < length l → choke_line j l ≡ none
      choke_over h =
          two ∙ ap (λ o. point_of j (and_number (some a) (and_number (some b) o))) (behind_more l end h)
          ∙ numbers_cases (λ o. point_of j (and_number (some a) (and_number (some b) o)) ≡ none) refl (λ m ns. refl) (drop (end + 1) l)

      module _ (h : length l ≤ end) where
        point_says : {x y : Bool} → ltb a j.cells ≡ x → leb b (horizon j) ≡ y → choke_line j l ≡ cond (x && y) (some (cell_step (point a b))) none
        point_says p q = two ∙ ap (λ o. point_of j (and_number (some a) (and_number (some b) o))) (behind_none l end h) ∙ rw (p, q)

        pub choke_no_cell : j.cells ≤ a → choke_line j l ≡ none
        choke_no_cell p = point_says (le-ltb _ _ p) refl

        pub choke_late : a < j.cells → horizon j < b → choke_line j l ≡ none
        choke_late p q = point_says (lt-ltb _ _ p) (lt-leb _ _ q)

        pub choke_good : a < j.cells → b ≤ horizon j → choke_line j l ≡ some (cell_step (point a b))
        choke_good p q = point_says (lt-ltb _ _ p) (le-leb _ _ q)
