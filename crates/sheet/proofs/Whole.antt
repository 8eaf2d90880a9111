-- What the whole sheet says, by the end and the numbers of its first line and by what the lines after it say. Assumes nothing.
use Prim.Native.Nat.{ℕ}
use mathlib.Core.Path.{◌≡◌, refl, sym, ap, ◌∙◌}
use mathlib.Core.List.{List, [], ◌∷◌, ◌++◌}
use mathlib.Core.Option.{Option, none, some}
use mathlib.Core.Bool.{Bool, true, false, cond, false≢true}
use native.Mathlib.Omega.{arith}
use lib.Dec.{ltb, eqb}
use lib.ListN.{length}
use borrow.Author.Tests.{eq-eqb, eqb-true, ne_eqb}
use Rattle.model.specs.Job.{Job}
use Rattle.model.specs.Text.{lines_of, numbers_of, starts_with, opens, after, plan_word, cannot_word}
use Rattle.model.specs.FirstBad.{lines_due, rest_says}
use Rattle.model.specs.ReadJob.{is_empty}
use Rattle.model.specs.ReadSheet.{Sheet, bad, cannot, numbers_after, count_says, head_says, read_sheet, path_line, spares_say, choke_line}
use Rattle.model.proofs.Basics.{nope}
use Rattle.text.specs.Scan.{line_of}
use Rattle.text.proofs.LineLaws.{lines_end, lines_left, lines_next}
use Rattle.sheet.specs.Parts.{only_of, if_below}

-- by the only number
abbrev pub on_only : (ℕ → Bool) → (ℕ → Sheet) → Option ℕ → Sheet
on_only is_right rest none = bad 1
on_only is_right rest (some n) = cond (is_right n) (rest n) (bad 1)

by_only : (is_right : ℕ → Bool) (rest : ℕ → Sheet) (o : Option (List ℕ)) → count_says is_right rest o ≡ on_only is_right rest (only_of o)
by_only is_right rest none = refl
by_only is_right rest (some []) = refl
by_only is_right rest (some (n ∷ [])) = refl
by_only is_right rest (some (n ∷ m ∷ ns)) = refl

fewer : (limit : ℕ) (rest : ℕ → Sheet) (o : Option ℕ) {p : Option ℕ} → p ≡ if_below limit o → on_only (λ n. ltb n limit) rest o ≡ on_only (λ n. true) rest p
fewer limit rest o e = go o ∙ ap (on_only (λ n. true) rest) (sym e)
  where
    by : (t : Bool) (n : ℕ) → cond t (rest n) (bad 1) ≡ on_only (λ n. true) rest (cond t (some n) none)
    by true n = refl
    by false n = refl

    go : (o : Option ℕ) → on_only (λ n. ltb n limit) rest o ≡ on_only (λ n. true) rest (if_below limit o)
    go none = refl
    go (some n) = by (ltb n limit) n

not_right : (m : ℕ) (rest : ℕ → Sheet) (o : Option ℕ) → (o ≡ some m → ⊥) → on_only (λ n. eqb n m) rest o ≡ bad 1
not_right m rest none h = refl
not_right m rest (some n) h = let k : n ≡ m → ⊥ = λ e. h (ap some e) in ap (λ t. cond t (rest n) (bad 1)) (ne_eqb n m k)

-- no line opens with both words
one_word : (l : List ℕ) → opens plan_word l ≡ true → opens cannot_word l ≡ false
one_word [] e = nope (cc)
one_word (b ∷ s) e = go (eqb b 80) refl e
  where
    go : (t : Bool) → eqb b 80 ≡ t → cond t (starts_with (76 ∷ 65 ∷ 78 ∷ 9 ∷ []) s) false ≡ true → opens cannot_word (b ∷ s) ≡ false
    go true q e = let h : b ≡ 67 → ⊥ = λ k. let m : b ≡ 80 = eqb-true b 80 q in omega arith in ap (λ t. cond t (starts_with (65 ∷ 78 ∷ 78 ∷ 79 ∷ 84 ∷ 9 ∷ []) s) false) (ne_eqb b 67 h)
    go false q e = nope (cc)

module _ (j : Job) (s : List ℕ) where
  pub whole_cut : line_of s ≡ s → bad 1 ≡ read_sheet j s
  unfolding read_sheet
  whole_cut e = sym (go (is_empty s) refl)
    where
      go : (t : Bool) → is_empty s ≡ t → head_says j (lines_of s) ≡ bad 1
      go true q = ap (head_says j) (lines_end s q)
      go false q = ap (head_says j) (lines_left s q e)

  module _ (l t : List ℕ) (taken : (l ≡ line_of s) × (s ≡ l ++ (10 ∷ t))) where
    plan_says : Option ℕ → Sheet
    plan_says = on_only (λ n. eqb n (length j.calls)) (λ n. lines_due bad (path_line j) (spares_say j) [] n 2 (lines_of t))

    cannot_says : Option ℕ → Sheet
    cannot_says = on_only (λ n. ltb n (length j.calls)) (λ n. rest_says bad (choke_line j) cannot [] n 2 (lines_of t))

    says : read_sheet j s ≡ cond (opens plan_word l) (plan_says (only_of (numbers_after plan_word l))) (cannot_says (only_of (numbers_after cannot_word l)))
    unfolding read_sheet plan_says cannot_says
    says =
        ap (head_says j) (lines_next s l t taken)
        ∙ rw (
          by_only (λ n. eqb n (length j.calls)) (λ n. lines_due bad (path_line j) (spares_say j) [] n 2 (lines_of t)) (numbers_after plan_word l),
          by_only (λ n. ltb n (length j.calls)) (λ n. rest_says bad (choke_line j) cannot [] n 2 (lines_of t)) (numbers_after cannot_word l),
        )

    pub whole_plan : only_of (numbers_after plan_word l) ≡ some (length j.calls) → lines_due bad (path_line j) (spares_say j) [] (length j.calls) 2 (lines_of t) ≡ read_sheet j s
    unfolding plan_says
    whole_plan e = sym (go (opens plan_word l) refl e)
      where
        go : (x : Bool) → opens plan_word l ≡ x → only_of (cond x (numbers_of (after plan_word l)) none) ≡ some (length j.calls)
            → read_sheet j s ≡ lines_due bad (path_line j) (spares_say j) [] (length j.calls) 2 (lines_of t)
        go true q f =
            says ∙ ap (λ x. cond x (plan_says (only_of (numbers_after plan_word l))) (cannot_says (only_of (numbers_after cannot_word l)))) q ∙ ap plan_says e
            ∙ ap (λ x. cond x (lines_due bad (path_line j) (spares_say j) [] (length j.calls) 2 (lines_of t)) (bad 1)) (eq-eqb (length j.calls) (length j.calls) refl)
        go false q f = nope (cc)

    -- any other line, by the number of choke points that it announces
    pub whole_other : (only_of (numbers_after plan_word l) ≡ some (length j.calls) → false ≡ true) → {p : Option ℕ} → p ≡ if_below (length j.calls) (only_of (numbers_after cannot_word l))
        → read_sheet j s ≡ on_only (λ n. true) (λ n. rest_says bad (choke_line j) cannot [] n 2 (lines_of t)) p
    unfolding plan_says cannot_says
    whole_other other {p} e = says ∙ go (opens plan_word l) refl
      where
        go : (x : Bool) → opens plan_word l ≡ x → cond x (plan_says (only_of (numbers_after plan_word l))) (cannot_says (only_of (numbers_after cannot_word l))) ≡ on_only (λ n. true)
            (λ n. rest_says bad (choke_line j) cannot [] n 2 (lines_of t)) p
        go true q =
            let none_there : p ≡ none = e ∙ ap (λ x. if_below (length j.calls) (only_of (cond x (numbers_of (after cannot_word l)) none))) (one_word l q) in
            not_right (length j.calls) (λ n. lines_due bad (path_line j) (spares_say j) [] n 2 (lines_of t)) (only_of (numbers_after plan_word l)) (λ h. false≢true (other h))
            ∙ sym (ap (on_only (λ n. true) (λ n. rest_says bad (choke_line j) cannot [] n 2 (lines_of t))) none_there)
        go false q = fewer (length j.calls) (λ n. rest_says bad (choke_line j) cannot [] n 2 (lines_of t)) (only_of (numbers_after cannot_word l)) e
