-- The fields of a text from an index on, by the number at it: what a loop over fields cites. The first field is what stands before the first
-- tab, by induction; a number has at least one digit and at most three. Assumes nothing.
use Prim.Native.Nat.{ℕ, suc, ◌+◌, ◌-◌, ◌*◌, ◌≤◌, ◌<◌}
use mathlib.Core.Path.{◌≡◌, refl, sym, ap, ◌∙◌}
use mathlib.Core.List.{List, [], ◌∷◌}
use mathlib.Core.Option.{Option, none, some}
use mathlib.Core.Bool.{Bool, true, false, cond, ◌&&◌}
use native.Mathlib.Omega.{arith}
use lib.Dec.{ltb, leb, eqb}
use lib.ListN.{length, drop, length-drop}
use lib.Seq.{drop-drop}
use borrow.Author.Tests.{ltb-true, ltb-false, leb-true, le-leb, lt-leb}
use Rattle.model.specs.Text.{on_field, fields_of, is_digit, number_from, number_of, and_number, numbers_by}
use Rattle.model.proofs.Basics.{nope, and_left, and_right}
use Rattle.std.specs.Prelude.{None}
use Rattle.text.specs.declared.Number.{Number}
use Rattle.text.specs.Scan.{found, field_of, scanned, field_at, number_at}

-- Fields.
pub fields_some : (l : List ℕ) → 0 < length (fields_of l)
fields_some [] = omega arith
fields_some (b ∷ l) = go (fields_of l)
  where
    go : (fs : List (List ℕ)) → 0 < length (on_field b fs)
    go [] = omega arith
    go (f ∷ fs) = by (eqb b 9)
      where
        by : (t : Bool) → 0 < length (cond t ([] ∷ f ∷ fs) ((b ∷ f) ∷ fs))
        by true = omega arith
        by false = omega arith

pub fields_tab : (b : ℕ) (l : List ℕ) → eqb b 9 ≡ true → fields_of (b ∷ l) ≡ [] ∷ fields_of l
fields_tab b l e = go (fields_of l) (fields_some l)
  where
    go : (fs : List (List ℕ)) → 0 < length fs → on_field b fs ≡ [] ∷ fs
    go [] h = absurd (omega arith)
    go (f ∷ fs) h = simp e

pub field_short : (l : List ℕ) → length (field_of l) ≤ length l
field_short [] = omega arith
field_short (b ∷ l) = go (eqb b 9) (field_short l)
  where
    go : (t : Bool) → length (field_of l) ≤ length l → length (cond t [] (b ∷ field_of l)) ≤ suc (length l)
    go true h = omega arith
    go false h = omega arith

-- a byte that is no tab goes to the first field
on-first : (b : ℕ) (l f : List ℕ) (fs : List (List ℕ)) → eqb b 9 ≡ false → fields_of l ≡ f ∷ fs → fields_of (b ∷ l) ≡ (b ∷ f) ∷ fs
on-first b l f fs q h = ap (on_field b) h ∙ simp q

pub fields_last : (l : List ℕ) → length l ≤ length (field_of l) → fields_of l ≡ field_of l ∷ []
fields_last [] h = refl
fields_last (b ∷ l) h = go (eqb b 9) refl h (λ k. fields_last l k)
  where
    go : (t : Bool) → eqb b 9 ≡ t → suc (length l) ≤ length (cond t [] (b ∷ field_of l)) → (length l ≤ length (field_of l) → fields_of l ≡ field_of l ∷ [])
        → fields_of (b ∷ l) ≡ cond t [] (b ∷ field_of l) ∷ []
    go true q h ih = absurd (omega arith)
    go false q h ih = on-first b l (field_of l) [] q (ih (omega arith))

pub fields_more : (l : List ℕ) → length (field_of l) < length l → fields_of l ≡ field_of l ∷ fields_of (drop (suc (length (field_of l))) l)
fields_more [] h = absurd (omega arith)
fields_more (b ∷ l) h = go (eqb b 9) refl h (λ k. fields_more l k)
  where
    go : (t : Bool) → eqb b 9 ≡ t → length (cond t [] (b ∷ field_of l)) < suc (length l)
        → (length (field_of l) < length l → fields_of l ≡ field_of l ∷ fields_of (drop (suc (length (field_of l))) l))
        → fields_of (b ∷ l) ≡ cond t [] (b ∷ field_of l) ∷ fields_of (drop (suc (length (cond t [] (b ∷ field_of l)))) (b ∷ l))
    go true q h ih = fields_tab b l q
    go false q h ih = on-first b l (field_of l) (fields_of (drop (suc (length (field_of l))) l)) q (ih (omega arith))

fields_first : (l : List ℕ) → (fs : List (List ℕ)) × (fields_of l ≡ field_of l ∷ fs)
fields_first l = go (ltb (length (field_of l)) (length l)) refl
  where
    go : (t : Bool) → ltb (length (field_of l)) (length l) ≡ t → (fs : List (List ℕ)) × (fields_of l ≡ field_of l ∷ fs)
    go true q = (fields_of (drop (suc (length (field_of l))) l), fields_more l (ltb-true _ _ q))
    go false q = ([], fields_last l (ltb-false _ _ q))

-- The fields from a place on; past the end there are none.
abbrev pub fields_from : List ℕ → ℕ → List (List ℕ)
fields_from s at = cond (leb at (length s)) (fields_of (drop at s)) []

pub fields-from : (s : List ℕ) (at : ℕ) → at ≤ length s → fields_from s at ≡ fields_of (drop at s)
fields-from s at h = ap (λ t. cond t (fields_of (drop at s)) []) (le-leb at (length s) h)

pub fields_past : (s : List ℕ) (at : ℕ) → length s < at → fields_from s at ≡ []
fields_past s at h = ap (λ t. cond t (fields_of (drop at s)) []) (lt-leb at (length s) h)

-- Numbers.
pub digit_low : (b : ℕ) → is_digit b ≡ true → (48 ≤ b) × (b < 58)
digit_low b e = (leb-true _ _ (and_left _ _ e), ltb-true _ _ (and_right (leb 48 b) (ltb b 58) e))

from_small : (v n : ℕ) (l : List ℕ) → v < 1000 → number_from v l ≡ some n → n < 1000
from_small v n [] h e = let k : v ≡ n = cc in omega arith
from_small v n (b ∷ l) h e = go (is_digit b && ltb 0 v && ltb v 100) refl e (λ k. from_small (v * 10 + (b - 48)) n l k)
  where
    go : (t : Bool) → (is_digit b && ltb 0 v && ltb v 100) ≡ t → cond t (number_from (v * 10 + (b - 48)) l) none ≡ some n
        → (v * 10 + (b - 48) < 1000 → number_from (v * 10 + (b - 48)) l ≡ some n → n < 1000) → n < 1000
    go false q e ih = nope (cc)
    go true q e ih =
        let few : v < 100 = ltb-true v 100 (and_right (is_digit b && ltb 0 v) (ltb v 100) q) in
        let low = digit_low b (and_left (is_digit b) (ltb 0 v) (and_left (is_digit b && ltb 0 v) (ltb v 100) q)) in
        ih (omega arith) e

pub of_small : (n : ℕ) (f : List ℕ) → number_of f ≡ some n → (0 < length f) × (n < 1000)
of_small n [] e = nope (cc)
of_small n (b ∷ f) e = go (is_digit b) refl e
  where
    go : (t : Bool) → is_digit b ≡ t → cond t (number_from (b - 48) f) none ≡ some n → (0 < suc (length f)) × (n < 1000)
    go false q e = nope (cc)
    go true q e = let low = digit_low b q in (omega arith, from_small (b - 48) n f (omega arith) e)

pub scanned_fault : (at k : ℕ) (o : Option ℕ) → scanned at k o ≡ None → o ≡ none
scanned_fault at k none e = refl
scanned_fault at k (some v) e = nope (cc)

pub scanned_value : (at k v next : ℕ) (o : Option ℕ) → scanned at k o ≡ found v next → (o ≡ some v) × (next ≡ at + k)
scanned_value at k v next none e = nope (cc)
scanned_value at k v next (some w) e =
    let n : record { value = w; next = at + k } ≡ record { value = v; next = next } = cc in
    (ap some (ap (λ (x : Number). x.value) n), sym (ap (λ (x : Number). x.next) n))

pub scanned_behind : (at k m : ℕ) (o : Option ℕ) → scanned at (k + m) o ≡ scanned (at + k) m o
scanned_behind at k m none = refl
scanned_behind at k m (some v) = ap (found v) (omega arith)

-- The field at `at`, read as a number of whatever kind.
module _ (number : List ℕ → Option ℕ) (s : List ℕ) (at : ℕ) where
  pub number_none : field_at number s at ≡ None → numbers_by number (fields_of (drop at s)) ≡ none
  unfolding field_at
  number_none e =
      let (fs, h) = fields_first (drop at s) in
      ap (numbers_by number) h ∙ ap (λ o. and_number o (numbers_by number fs)) (scanned_fault at (length (field_of (drop at s))) (number (field_of (drop at s))) e)

  module _ (v next : ℕ) (e : field_at number s at ≡ found v next) where
    pub parts : (number (field_of (drop at s)) ≡ some v) × (next ≡ at + length (field_of (drop at s)))
    unfolding field_at
    parts = scanned_value at (length (field_of (drop at s))) v next (number (field_of (drop at s))) e

    pub next_inside : at ≤ length s → next ≤ length s
    next_inside h = let n = parts.1 in omega (arith, field_short (drop at s), length-drop at s)

    last : length s ≤ next → fields_of (drop at s) ≡ field_of (drop at s) ∷ []
    last h = let n = parts.1 in fields_last (drop at s) (omega (arith, length-drop at s))

    another : next < length s → fields_of (drop at s) ≡ field_of (drop at s) ∷ fields_of (drop (next + 1) s)
    another h =
        let n = parts.1 in
        let k : at + suc (length (field_of (drop at s))) ≡ next + 1 = omega arith in
        fields_more (drop at s) (omega (arith, length-drop at s))
        ∙ ap (λ l. field_of (drop at s) ∷ fields_of l) (drop-drop (suc (length (field_of (drop at s)))) at s ∙ ap (λ x. drop x s) k)

    pub number_last : length s ≤ next → numbers_by number (fields_of (drop at s)) ≡ some (v ∷ [])
    number_last h = ap (numbers_by number) (last h) ∙ ap (λ o. and_number o (some [])) parts.0

    pub number_more : next < length s → numbers_by number (fields_of (drop at s)) ≡ and_number (some v) (numbers_by number (fields_of (drop (next + 1) s)))
    number_more h = ap (numbers_by number) (another h) ∙ ap (λ o. and_number o (numbers_by number (fields_of (drop (next + 1) s)))) parts.0

    -- the field, and those behind it
    pub field_first : at ≤ length s → fields_from s at ≡ field_of (drop at s) ∷ fields_from s (next + 1)
    field_first h = fields-from s at h ∙ go (ltb next (length s)) refl
      where
        go : (t : Bool) → ltb next (length s) ≡ t → fields_of (drop at s) ≡ field_of (drop at s) ∷ fields_from s (next + 1)
        go true q = let l = ltb-true _ _ q in another l ∙ ap (λ fs. field_of (drop at s) ∷ fs) (sym (fields-from s (next + 1) (omega arith)))
        go false q = let l = ltb-false _ _ q in last l ∙ ap (λ fs. field_of (drop at s) ∷ fs) (sym (fields_past s (next + 1) (omega arith)))

-- A plain number.
pub record Bound (s : List ℕ) (at v next : ℕ) : Type 0 where
  pub low : at < next
  pub high : next ≤ length s
  pub small : v < 1000

pub number_bound : (s : List ℕ) (at v next : ℕ) → number_at s at ≡ found v next → at ≤ length s → Bound s at v next
number_bound s at v next e h =
    let (f, n) = parts number_of s at v next e in
    let (long, small) = of_small v (field_of (drop at s)) f in
    record { low = omega arith; high = next_inside number_of s at v next e h; small = small }
