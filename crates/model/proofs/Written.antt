-- A sheet that is written is read back as what was written. Assumes nothing.
use Prim.Native.Nat.{ℕ, suc, ◌+◌, ◌-◌, ◌/◌, ◌≤◌, ◌<◌}
use mathlib.Core.Path.{◌≡◌, refl, sym, ap, ◌∙◌}
use mathlib.Core.List.{List, [], ◌∷◌, ◌++◌, map, append_assoc, append-nil}
use mathlib.Core.Option.{Option, none, some}
use mathlib.Core.Bool.{Bool, true, false, cond, not, ◌&&◌, false≢true}
use mathlib.Core.Logic.{inl, inr}
use native.Mathlib.Omega.{arith}
use lib.Dec.{eqb, ltb}
use lib.ListN.{length}
use borrow.Author.Tests.{ltb-true, eq-eqb, ne_eqb, lt-ltb, not-true}
use Rattle.model.specs.Lists.{In}
use Rattle.model.specs.Bytes.{bytes}
use Rattle.model.specs.Limits.{max_cells, max_steps}
use Rattle.model.specs.Job.{Job, Call, latest, horizon, call_of}
use Rattle.model.specs.Plan.{Path, Ride}
use Rattle.model.specs.Choke.{Choke, cell_step, whole_call}
use Rattle.model.specs.Ready.{Fit}
use Rattle.model.specs.Text.{more, with_byte, lines_of, on_field, fields_of, number_of, and_number, numbers_of, starts_with, digit, numeral, fields, line}
use Rattle.model.specs.Text.{Lines, plan_word, path_word, spare_word, cannot_word, choke_word, whole_word, after}
use Rattle.model.specs.SheetText.{lines_text, path_numbers, spare_numbers, choke_opens, choke_numbers, plan_text, cannot_text}
use Rattle.model.specs.FirstBad.{or_bad, lines_due, no_more, rest_says}
use Rattle.model.specs.ReadSheet.{Sheet, bad, plan, cannot, all_below, size_fits, known_path, known_spare, numbers_after, path_of, spare_of, point_of, whole_of, head_says}
use Rattle.model.specs.ReadSheet.{count_says, path_line, spare_line, spares_say, choke_line, read_sheet}
use Rattle.model.proofs.Basics.{and_left, and_right, and_both}
use Rattle.model.proofs.Floor.{known_choke, test_choke}
use Rattle.model.proofs.Decide.{decided, dec_by, dec_and, dec_eq, all-below}

-- no byte c
abbrev pub free : ℕ → List ℕ → Bool
free c [] = true
free c (b ∷ l) = not (eqb b c) && free c l

pub free_append : (c : ℕ) (l m : List ℕ) → free c l ≡ true → free c m ≡ true → free c (l ++ m) ≡ true
free_append c [] m e f = f
free_append c (b ∷ l) m e f = and_both (not (eqb b c)) (free c (l ++ m)) (and_left _ _ e) (free_append c l m (and_right (not (eqb b c)) (free c l) e) f)

-- Numerals of less than 1,000, all tried.
pub none_some : {n : ℕ} → none ≡ some n → ⊥
none_some e = let z : ◌≡◌ {A = ℕ} 0 1 = cc in omega arith

pub some_some : {m n : ℕ} → some m ≡ some n → m ≡ n
some_some e = cc

abbrev pub dec_true : (x : Bool) → Dec (x ≡ true)
dec_true true = yes refl
dec_true false = no false≢true

abbrev pub dec_some : (o : Option ℕ) (n : ℕ) → Dec (o ≡ some n)
dec_some none n = no none_some
dec_some (some m) n = dec_by (λ e. ap some e) some_some (dec_eq m n)

pub numeral_good : (n : ℕ) → n < 1000 → (free 9 (numeral n) ≡ true) × ((free 10 (numeral n) ≡ true) × (number_of (numeral n) ≡ some n))
numeral_good = decided (all-below (λ n. dec_and (dec_true (free 9 (numeral n))) (dec_and (dec_true (free 10 (numeral n))) (dec_some (number_of (numeral n)) n))) 1000) tt

-- A numeral starts with a digit, and so with no letter.
no_letter : (n b : ℕ) (w s : List ℕ) → 58 ≤ b → starts_with (b ∷ w) (numeral n ++ s) ≡ false
no_letter n b w s h = go (ltb n 10) (ltb n 100)
  where
    other : (m : ℕ) (l : List ℕ) → starts_with (b ∷ w) (digit m ∷ l) ≡ false
    other m l = rw (ne_eqb (digit m) b (λ e. omega arith))

    go : (t u : Bool) → starts_with (b ∷ w) (cond t (digit n ∷ []) (cond u (digit (n / 10) ∷ digit n ∷ []) (digit (n / 100) ∷ digit (n / 10) ∷ digit n ∷ [])) ++ s) ≡ false
    go true u = other n s
    go false true = other (n / 10) (digit n ∷ s)
    go false false = other (n / 100) (digit (n / 10) ∷ digit n ∷ s)

abbrev pub AllSmall : List ℕ → Type 0
AllSmall [] = Unit
AllSmall (n ∷ ns) = (n < 1000) × AllSmall ns

-- Lines.
pub lines_line : (l s : List ℕ) → free 10 l ≡ true → lines_of (l ++ (10 ∷ s)) ≡ more l (lines_of s)
lines_line [] s e = refl
lines_line (b ∷ l) s e =
    let f : eqb b 10 ≡ false = not-true (eqb b 10) (and_left _ _ e) in
    ap (with_byte b) (lines_line l s (and_right (not (eqb b 10)) (free 10 l) e)) ∙ ap (λ x. cond x (more [] (more l (lines_of s))) (more (b ∷ l) (lines_of s))) f

fields_free : (ns : List ℕ) → AllSmall ns → free 10 (fields ns) ≡ true
fields_free [] h = refl
fields_free (n ∷ ns) h = free_append 10 (numeral n) (fields ns) (numeral_good n h.0).1.0 (fields_free ns h.1)

pub line_read : (word ns s : List ℕ) → free 10 word ≡ true → AllSmall ns → lines_of (line word ns ++ s) ≡ more (word ++ fields ns) (lines_of s)
line_read word ns s e h = ap lines_of apart ∙ lines_line (word ++ fields ns) s (free_append 10 word (fields ns) e (fields_free ns h))
  where
    apart : line word ns ++ s ≡ (word ++ fields ns) ++ (10 ∷ s)
    apart = simp append_assoc

-- Fields.
fields_front : (l m f : List ℕ) (fs : List (List ℕ)) → free 9 l ≡ true → fields_of m ≡ f ∷ fs → fields_of (l ++ m) ≡ (l ++ f) ∷ fs
fields_front [] m f fs e h = h
fields_front (b ∷ l) m f fs e h =
    let g : eqb b 9 ≡ false = not-true (eqb b 9) (and_left _ _ e) in
    ap (on_field b) (fields_front l m f fs (and_right (not (eqb b 9)) (free 9 l) e) h) ∙ ap (λ x. cond x ([] ∷ (l ++ f) ∷ fs) ((b ∷ (l ++ f)) ∷ fs)) g

pub fields_first : (l m : List ℕ) (fs : List (List ℕ)) → free 9 l ≡ true → fields_of m ≡ [] ∷ fs → fields_of (l ++ m) ≡ l ∷ fs
fields_first l m fs e h = fields_front l m [] fs e h ∙ ap (λ x. x ∷ fs) (append-nil l)

pub fields_apart : (ns : List ℕ) → AllSmall ns → fields_of (fields ns) ≡ [] ∷ map numeral ns
fields_apart [] h = refl
fields_apart (n ∷ ns) h =
    ap (on_field 9) (fields_first (numeral n) (fields ns) (map numeral ns) (numeral_good n h.0).0 (fields_apart ns h.1))

pub numbers_read : (ns : List ℕ) → AllSmall ns → numbers_of (map numeral ns) ≡ some ns
numbers_read [] h = refl
numbers_read (n ∷ ns) h = ap (λ o. and_number o (numbers_of (map numeral ns))) (numeral_good n h.0).1.1 ∙ ap (and_number (some n)) (numbers_read ns h.1)

pub fields_read : (n : ℕ) (ns : List ℕ) → AllSmall (n ∷ ns) → numbers_of (fields_of (numeral n ++ fields ns)) ≡ some (n ∷ ns)
fields_read n ns h =
    ap numbers_of (fields_first (numeral n) (fields ns) (map numeral ns) (numeral_good n h.0).0 (fields_apart ns h.1)) ∙ numbers_read (n ∷ ns) h

-- A head line with one number.
count_read : (is_right : ℕ → Bool) (rest : ℕ → Sheet) (n : ℕ) → n < 1000 → is_right n ≡ true → count_says is_right rest (numbers_of (fields_of (numeral n ++ fields []))) ≡ rest n
count_read is_right rest n h e = ap (count_says is_right rest) (fields_read n [] (h, tt)) ∙ ap (λ x. cond x (rest n) (bad 1)) e

-- Lines of one kind.
module _ {A : Type 0} (say : List ℕ → Option A) (word numbers : A → List ℕ) (Good : A → Type 0)
    (plain : (a : A) → free 10 (word a) ≡ true) (small : (a : A) → Good a → AllSmall (numbers a)) (said : (a : A) → Good a → say (word a ++ fields (numbers a)) ≡ some a) where
  -- and what follows them, at some line
  pub lines_read : (on : List A → ℕ → Lines → Sheet) (got l : List A) (n : ℕ) (s : List ℕ) → ((a : A) → In a l → Good a)
      → (m : ℕ) × (lines_due bad say on got (length l) n (lines_of (lines_text word numbers l ++ s)) ≡ on (got ++ l) m (lines_of s))
  lines_read on got [] n s g = (n, ap (λ x. on x n (lines_of s)) (sym (append-nil got)))
  lines_read on got (a ∷ l) n s g =
      let t = lines_text word numbers l in
      let (m, e) = lines_read on (got ++ (a ∷ [])) l (n + 1) s (λ b i. g b (inr i)) in
      let first : lines_of ((line (word a) (numbers a) ++ t) ++ s) ≡ more (word a ++ fields (numbers a)) (lines_of (t ++ s)) =
      ap lines_of (append_assoc (line (word a) (numbers a)) t s) ∙ line_read (word a) (numbers a) (t ++ s) (plain a) (small a (g a (inl refl))) in (
        m,
        ap (lines_due bad say on got (suc (length l)) n) first
            ∙ ap (λ o. or_bad bad n o (λ x. lines_due bad say on (got ++ (x ∷ [])) (length l) (n + 1) (lines_of (t ++ s)))) (said a (g a (inl refl)))
            ∙ e ∙ ap (λ x. on x m (lines_of s)) (append_assoc got (a ∷ []) l),
      )

  pub rest_read : (all : List A → Sheet) (l : List A) (n : ℕ) → ((a : A) → In a l → Good a) → rest_says bad say all [] (length l) n (lines_of (lines_text word numbers l)) ≡ all l
  rest_read all l n g =
      ap (λ s. rest_says bad say all [] (length l) n (lines_of s)) (sym (append-nil (lines_text word numbers l))) ∙ (lines_read (λ x. no_more bad (all x)) [] l n [] g).1

-- The limits keep every number of a sheet below 1,000.
deadline_below : (n : ℕ) (qs : List Call) → 0 < n → ((q : Call) → In q qs → q.deadline < n) → latest qs < n
deadline_below n [] p h = p
deadline_below n (q ∷ qs) p h = omega (arith, h q (inl refl), deadline_below n qs p (λ x m. h x (inr m)))

cells_small : (n : ℕ) (ws : List ℕ) → n ≤ max_cells → all_below n ws ≡ true → AllSmall ws
cells_small n [] h e = tt
cells_small n (w ∷ ws) h e = (omega (arith, ltb-true w n (and_left _ _ e)), cells_small n ws h (and_right (ltb w n) (all_below n ws) e))

module _ (j : Job) (f : Fit j) where
  pub few_steps : horizon j < max_steps
  few_steps = deadline_below max_steps j.calls (omega arith) (λ q m. (f.known_calls q m).1)

  path_small : (p : Path) → known_path j p ≡ true → AllSmall (path_numbers p)
  path_small p e =
      let x₁ = ltb p.cart (length j.carts) in
      let x₂ = ltb p.call (length j.calls) in
      let x₃ = size_fits (call_of j p.call).kind (call_of j p.call).deadline (length p.cells) in
      let x₄ = all_below j.cells p.cells in
      let e₁₂ : (x₁ && x₂) ≡ true = and_left (x₁ && x₂) x₃ (and_left (x₁ && x₂ && x₃) x₄ e) in (
        omega (arith, ltb-true p.cart (length j.carts) (and_left x₁ x₂ e₁₂), f.few_carts),
        (
          omega (arith, ltb-true p.call (length j.calls) (and_right x₁ x₂ e₁₂), f.few_calls),
          cells_small j.cells p.cells f.few_cells (and_right (x₁ && x₂ && x₃) x₄ e),
        ),
      )

  path_said : (p : Path) → known_path j p ≡ true → path_line j (path_word ++ fields (path_numbers p)) ≡ some p
  path_said p e = ap (path_of j) (fields_read p.cart (p.call ∷ p.cells) (path_small p e)) ∙ ap (λ x. cond x (some p) none) e

  spare_small : (s : Ride) → known_spare j s ≡ true → AllSmall (spare_numbers s)
  spare_small s e =
      let x₁ = ltb s.cart (length j.carts) in
      let x₂ = eqb (length s.cells) (suc (horizon j)) in
      let x₃ = all_below j.cells s.cells in (
        omega (arith, ltb-true s.cart (length j.carts) (and_left x₁ x₂ (and_left (x₁ && x₂) x₃ e)), f.few_carts),
        cells_small j.cells s.cells f.few_cells (and_right (x₁ && x₂) x₃ e),
      )

  spare_said : (s : Ride) → known_spare j s ≡ true → spare_line j (spare_word ++ fields (spare_numbers s)) ≡ some s
  spare_said s e = ap (spare_of j) (fields_read s.cart s.cells (spare_small s e)) ∙ ap (λ x. cond x (some s) none) e

  pub plan_read : (ps : List Path) (ss : List Ride) → length ps ≡ length j.calls → length ps + length ss ≡ length j.carts
      → ((p : Path) → In p ps → known_path j p ≡ true) → ((s : Ride) → In s ss → known_spare j s ≡ true) → read_sheet j (plan_text ps ss) ≡ plan ps ss
  unfolding read_sheet
  plan_read ps ss e c g h =
      let t = lines_text (λ s. spare_word) spare_numbers ss in
      let paths = lines_text (λ p. path_word) path_numbers ps ++ t in
      let (m, r) = lines_read (path_line j) (λ p. path_word) path_numbers (λ p. known_path j p ≡ true) (λ p. refl) path_small path_said (spares_say j) [] ps 2 t g in
      let left : length j.carts - length j.calls ≡ length ss = omega arith in
      ap (head_says j) (line_read plan_word (length ps ∷ []) paths refl (omega (arith, f.few_calls), tt))
      ∙ count_read (λ n. eqb n (length j.calls)) (λ n. lines_due bad (path_line j) (spares_say j) [] n 2 (lines_of paths)) (length ps) (omega (arith, f.few_calls))
      (eq-eqb (length ps) (length j.calls) e)
      ∙ r ∙ ap (λ n. rest_says bad (spare_line j) (plan ps) [] n m (lines_of t)) left
      ∙ rest_read (spare_line j) (λ s. spare_word) spare_numbers (λ s. known_spare j s ≡ true) (λ s. refl) spare_small spare_said (plan ps) ss m h

  choke_plain : (x : Choke) → free 10 (choke_opens x) ≡ true
  choke_plain (cell_step x) = refl
  choke_plain (whole_call k) = refl

  choke_small : (x : Choke) → known_choke j x ≡ true → AllSmall (choke_numbers x)
  choke_small (cell_step x) e = let h = test_choke j (cell_step x) e in (omega (arith, h.0, f.few_cells), (omega (arith, h.1, few_steps), tt))
  choke_small (whole_call k) e = let h = test_choke j (whole_call k) e in (omega (arith, h.0, f.few_calls), tt)

  choke_said : (x : Choke) → known_choke j x ≡ true → choke_line j (choke_opens x ++ fields (choke_numbers x)) ≡ some x
  choke_said (cell_step x) e =
      let l = choke_word ++ fields (x.cell ∷ x.step ∷ []) in
      ap (λ t. cond t (whole_of j (numbers_of (after whole_word l))) (point_of j (numbers_after choke_word l))) (no_letter x.cell 67 (bytes "ALL\t") (fields (x.step ∷ [])) (omega arith))
      ∙ ap (point_of j) (fields_read x.cell (x.step ∷ []) (choke_small (cell_step x) e)) ∙ ap (λ b. cond b (some (cell_step x)) none) e
  choke_said (whole_call k) e = ap (whole_of j) (fields_read k [] (choke_small (whole_call k) e)) ∙ ap (λ b. cond b (some (whole_call k)) none) e

  pub cannot_read : (xs : List Choke) → length xs < length j.calls → ((x : Choke) → In x xs → known_choke j x ≡ true) → read_sheet j (cannot_text xs) ≡ cannot xs
  unfolding read_sheet
  cannot_read xs e g =
      let t = lines_of (lines_text choke_opens choke_numbers xs) in
      ap (head_says j) (line_read cannot_word (length xs ∷ []) (lines_text choke_opens choke_numbers xs) refl (omega (arith, f.few_calls), tt))
      ∙ count_read (λ n. ltb n (length j.calls)) (λ n. rest_says bad (choke_line j) cannot [] n 2 t) (length xs) (omega (arith, f.few_calls)) (lt-ltb (length xs) (length j.calls) e)
      ∙ rest_read (choke_line j) choke_opens choke_numbers (λ x. known_choke j x ≡ true) choke_plain choke_small choke_said cannot xs 2 g
