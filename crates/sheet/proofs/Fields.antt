-- What a line says by its numbers: what each return of the functions that read a line cites. Every law goes by cases on the numbers behind
-- those that were read; fields have at least one number (`numbers_cases`). Assumes nothing.
use Prim.Native.Nat.{ℕ, ◌+◌, ◌≤◌, ◌<◌}
use mathlib.Core.Path.{◌≡◌, refl, sym, ap, ◌∙◌}
use mathlib.Core.List.{List, [], ◌∷◌, ◌++◌, append_assoc}
use mathlib.Core.Option.{Option, none, some}
use mathlib.Core.Bool.{Bool, true, false, cond, ◌&&◌, and-false}
use native.Mathlib.Omega.{arith}
use lib.Dec.{ltb, leb}
use lib.ListN.{length, drop, length-append, length-drop}
use borrow.Author.Tests.{ltb-true, ltb-false, lt-ltb, le-ltb, le-leb, lt-leb}
use Rattle.std.specs.Prelude as std
use Rattle.std.specs.Prelude.{Some, None, IfSome}
use Rattle.model.specs.Text.{fields_of, number_of, and_number, numbers_of, starts_with}
use Rattle.model.specs.ReadSheet.{all_below}
use Rattle.model.proofs.Basics.{nope, and_left, and_right, and_both}
use Rattle.text.specs.declared.Number.{Number}
use Rattle.text.specs.Scan.{found, field_of, number_at}
use Rattle.text.proofs.Numbers.{fields_some, field_short, number_none, number_last, number_more, of_small, parts}
use Rattle.sheet.specs.Parts.{number_past, numbers_at, numbers_past, only_of, behind, cells_given}

pub numbers_cases : (P : Option (List ℕ) → Type 0) → P none → ((m : ℕ) (ns : List ℕ) → P (some (m ∷ ns))) → (l : List ℕ) → P (numbers_of (fields_of l))
numbers_cases P without with-one l = go (fields_of l) (fields_some l)
  where
    go : (fs : List (List ℕ)) → 0 < length fs → P (numbers_of fs)
    go [] h = absurd (omega arith)
    go (f ∷ fs) h = by (number_of f) (numbers_of fs)
      where
        by : (x : Option ℕ) (y : Option (List ℕ)) → P (and_number x y)
        by none y = without
        by (some n) none = without
        by (some n) (some ns) = with-one n ns

-- A number, and what stands behind it.
module _ (s : List ℕ) (at v next : ℕ) (e : number_at s at ≡ found v next) where
  pub number_inside : next ≤ length s
  number_inside =
      let (f, n) = parts number_of s at v next e in
      let (some_digit, small) = of_small v (field_of (drop at s)) f in
      omega (arith, field_short (drop at s), length-drop at s)

  pub number_first : numbers_at s at ≡ and_number (some v) (behind s next)
  number_first = go (ltb next (length s)) refl
    where
      go : (t : Bool) → ltb next (length s) ≡ t → numbers_at s at ≡ and_number (some v) (cond t (numbers_at s (next + 1)) (some []))
      go true q = number_more number_of s at v next e (ltb-true _ _ q)
      go false q = number_last number_of s at v next e (ltb-false _ _ q)

pub inside_given : (s : List ℕ) (at : ℕ) (o : std.Option Number) → o ≡ number_at s at → IfSome o (λ n. n.next ≤ length s)
inside_given s at None e = tt
inside_given s at (Some n) e = number_inside s at n.value n.next (sym e)

pub behind_more : (s : List ℕ) (next : ℕ) → next < length s → behind s next ≡ numbers_at s (next + 1)
behind_more s next h = simp (lt-ltb _ _ h)

pub behind_none : (s : List ℕ) (next : ℕ) → length s ≤ next → behind s next ≡ some []
behind_none s next h = simp (le-ltb _ _ h)

-- A further number, or none.
module _ (s : List ℕ) (next : ℕ) where
  pub second_none : {B : Type 0} (f : Option (List ℕ) → B) {x : B} → f none ≡ x → f (some []) ≡ x → number_at s (next + 1) ≡ None → f (behind s next) ≡ x
  second_none f {x} p q e = go (ltb next (length s))
    where
      go : (t : Bool) → f (cond t (numbers_at s (next + 1)) (some [])) ≡ x
      go true = ap f (number_none number_of s (next + 1) e) ∙ p
      go false = q

  pub second_some : (v end : ℕ) → number_at s (next + 1) ≡ found v end → behind s next ≡ and_number (some v) (behind s end)
  second_some v end e =
      let (f, n) = parts number_of s (next + 1) v end e in
      let (some_digit, small) = of_small v (field_of (drop (next + 1) s)) f in
      let h : next < length s = omega (arith, field_short (drop (next + 1) s), length-drop (next + 1) s) in
      behind_more s next h ∙ number_first s (next + 1) v end e

-- Behind a word.
module _ (w l : List ℕ) where
  pub past_none : number_past w l ≡ None → numbers_past w l ≡ none
  past_none = go (starts_with w l)
    where
      go : (t : Bool) → cond t (number_at l (length w)) None ≡ None → cond t (numbers_at l (length w)) none ≡ none
      go true e = number_none number_of l (length w) e
      go false e = refl

  past_cases : {a next : ℕ} → number_past w l ≡ found a next → (number_at l (length w) ≡ found a next) × (starts_with w l ≡ true)
  past_cases {a} {next} = go (starts_with w l)
    where
      go : (t : Bool) → cond t (number_at l (length w)) None ≡ found a next → (number_at l (length w) ≡ found a next) × (t ≡ true)
      go true e = (e, refl)
      go false e = nope (cc)

  module _ {a next : ℕ} (e : number_past w l ≡ found a next) where
    pub past_number : number_at l (length w) ≡ found a next
    past_number = (past_cases e).0

    pub past_some : numbers_past w l ≡ and_number (some a) (behind l next)
    past_some = ap (λ t. cond t (numbers_at l (length w)) none) (past_cases e).1 ∙ number_first l (length w) a next past_number

-- One number.
pub only_last : (l : List ℕ) (a next : ℕ) → length l ≤ next → only_of (and_number (some a) (behind l next)) ≡ some a
only_last l a next h = ap (λ o. only_of (and_number (some a) o)) (behind_none l next h)

pub only_more : (l : List ℕ) (a next : ℕ) → next < length l → only_of (and_number (some a) (behind l next)) ≡ none
only_more l a next h =
    ap (λ o. only_of (and_number (some a) o)) (behind_more l next h) ∙ numbers_cases (λ o. only_of (and_number (some a) o) ≡ none) refl (λ m ns. refl) (drop (next + 1) l)

-- Many numbers: those of the list l, and then the given.
abbrev pub prefixed : List ℕ → Option (List ℕ) → Option (List ℕ)
prefixed l none = none
prefixed l (some ns) = some (l ++ ns)

pub prefixed_none : (o : Option (List ℕ)) → o ≡ prefixed [] o
prefixed_none none = refl
prefixed_none (some ns) = refl

prefixed_more : (l : List ℕ) (v : ℕ) (o : Option (List ℕ)) → prefixed l (and_number (some v) o) ≡ prefixed (l ++ (v ∷ [])) o
prefixed_more l v none = refl
prefixed_more l v (some ns) = ap some (sym (append_assoc l (v ∷ []) ns))

pub below_snoc : (m v : ℕ) (l : List ℕ) → all_below m l ≡ true → v < m → all_below m (l ++ (v ∷ [])) ≡ true
below_snoc m v [] e h = simp (lt-ltb v m h)
below_snoc m v (a ∷ l) e h = and_both (ltb a m) _ (and_left (ltb a m) (all_below m l) e) (below_snoc m v l (and_right (ltb a m) (all_below m l) e) h)

below_not : (m v : ℕ) (l ns : List ℕ) → m ≤ v → all_below m (l ++ (v ∷ ns)) ≡ false
below_not m v [] ns h = simp (le-ltb v m h)
below_not m v (a ∷ l) ns h = rw (below_not m v l ns h) (and-false (ltb a m))

-- some numbers, if they are few and small enough
given : (limit most : ℕ) (l : List ℕ) (v : ℕ) (ns : List ℕ) → cells_given limit most (some (l ++ (v ∷ ns)))
    ≡ cond (leb (length (l ++ (v ∷ ns))) most && all_below limit (l ++ (v ∷ ns))) (some (l ++ (v ∷ ns))) none
given limit most [] v ns = refl
given limit most (a ∷ l) v ns = refl

module _ (limit most : ℕ) (s : List ℕ) (from : ℕ) (l : List ℕ) (p : ℕ) (so : behind s from ≡ prefixed l (behind s p)) where
  module _ (v next : ℕ) (e : number_at s (p + 1) ≡ found v next) where
    pub cells_more : behind s from ≡ prefixed (l ++ (v ∷ [])) (behind s next)
    cells_more = so ∙ ap (prefixed l) (second_some s p v next e) ∙ prefixed_more l v (behind s next)

    pub cells_known : limit ≤ v → cells_given limit most (behind s from) ≡ none
    cells_known h = ap (cells_given limit most) (so ∙ ap (prefixed l) (second_some s p v next e)) ∙ go (behind s next)
      where
        go : (o : Option (List ℕ)) → cells_given limit most (prefixed l (and_number (some v) o)) ≡ none
        go none = refl
        go (some ns) = given limit most l v ns ∙ rw (below_not limit v l ns h, and-false (leb (length (l ++ (v ∷ ns))) most))

    pub cells_end : all_below limit l ≡ true → v < limit → length s ≤ next → length l < most → cells_given limit most (behind s from) ≡ some (l ++ (v ∷ []))
    cells_end low h end few =
        let k : length (l ++ (v ∷ [])) ≤ most = omega (arith, length-append l (v ∷ [])) in
        ap (cells_given limit most) (so ∙ ap (prefixed l) (second_some s p v next e ∙ ap (and_number (some v)) (behind_none s next end)))
        ∙ given limit most l v [] ∙ simp (le-leb _ _ k, below_snoc limit v l low h)

  -- where cells were read, more stand behind them
  module _ (on : 0 < length l → p < length s) where
    pub cells_none : number_at s (p + 1) ≡ None → cells_given limit most (behind s from) ≡ none
    cells_none e = ap (cells_given limit most) so ∙ go (ltb p (length s)) refl l on
      where
        go : (t : Bool) → ltb p (length s) ≡ t → (l : List ℕ) → (0 < length l → p < length s) → cells_given limit most (prefixed l (cond t (numbers_at s (p + 1)) (some []))) ≡ none
        go true q l h = ap (λ o. cells_given limit most (prefixed l o)) (number_none number_of s (p + 1) e)
        go false q [] h = refl
        go false q (a ∷ l) h = let k : p < length s = h (omega arith) in absurd (omega (arith, ltb-false _ _ q))

    -- there are more than may be
    pub cells_over : length l ≡ most → cells_given limit most (behind s from) ≡ none
    cells_over n = ap (cells_given limit most) so ∙ go (ltb p (length s)) refl l on n
      where
        go : (t : Bool) → ltb p (length s) ≡ t → (l : List ℕ) → (0 < length l → p < length s) → length l ≡ most
            → cells_given limit most (prefixed l (cond t (numbers_at s (p + 1)) (some []))) ≡ none
        go true q l h n = numbers_cases (λ o. cells_given limit most (prefixed l o) ≡ none) refl many (drop (p + 1) s)
          where
            many : (m : ℕ) (ns : List ℕ) → cells_given limit most (some (l ++ (m ∷ ns))) ≡ none
            many m ns =
                let k : most < length (l ++ (m ∷ ns)) = omega (arith, length-append l (m ∷ ns)) in
                given limit most l m ns ∙ simp (lt-leb _ _ k)
        go false q [] h n = refl
        go false q (a ∷ l) h n = let k : p < length s = h (omega arith) in absurd (omega (arith, ltb-false _ _ q))
