-- A text that says a job has at most 12,237 bytes, however long a text may be: three digits, a mark, a plus and a digit make six bytes for a number (`scaled_short`), so that the lines of a job
-- have at most 13, 20, 12 and 19 bytes with their LF, and there are at most 1, 512, 64 and 64 of them. What the lines weigh together is counted along with them (`lines_weigh`).
-- Assumes nothing.
use Prim.Native.Nat.{ℕ, suc, ◌+◌, ◌*◌, ◌≤◌, ◌<◌}
use mathlib.Core.Path.{◌≡◌, refl, ap}
use mathlib.Core.List.{List, [], ◌∷◌, ◌++◌}
use mathlib.Core.Option.{Option, none, some}
use mathlib.Core.Bool.{Bool, true, false, cond}
use native.Mathlib.Omega.{arith}
use lib.Dec.{eqb, ltb, leb}
use lib.ListN.{length, drop, length-append, length-drop}
use borrow.Author.Tests.{eqb-true, ltb-true, ne_eqb}
use Rattle.model.specs.declared.answer.Answer.TheVariants.{BadLine, Uneven}
use Rattle.model.specs.Limits.{max_cells}
use Rattle.model.specs.Job.{Job, track, call}
use Rattle.model.specs.Text.{Lines, done, cut, more, on_first, lines_of, on_field, fields_of, is_mark, number_of, digits_of, behind_digits, without_plus, one_digit, power_of}
use Rattle.model.specs.Text.{scaled, scaled_of, and_number, numbers_by, after}
use Rattle.model.specs.ReadJob.{refused, accepted, Kind, floor_line, track_line, cart_line, call_line, no_job, may_follow, in_range, field_count, add, Said, wrong, right, line_says, go_on, lines_say}
use Rattle.model.proofs.Basics.{nope, and_left}
use Rattle.model.proofs.Digits.{both_long}
use Rattle.model.proofs.Words.{opens_long}
use Rattle.model.proofs.Room.{numeral_short}
use Rattle.model.proofs.Read.{cond_some, number_back}
use Rattle.model.proofs.Ready.{RightLine, word_most, line_added, lines_ready, no_fit}

-- A number with its exponent.
without_long : (s : List ℕ) → length s ≤ suc (length (without_plus s))
without_long [] = omega arith
without_long (b ∷ s) = go (eqb b 43)
  where
    go : (t : Bool) → suc (length s) ≤ suc (length (cond t s (b ∷ s)))
    go true = omega arith
    go false = omega arith

power_short : (r : List ℕ) (p : ℕ) → power_of r ≡ some p → length r ≤ 3
power_short [] p e = omega arith
power_short (b ∷ r) p e =
    let (_, f) = cond_some (is_mark b) (one_digit (without_plus r)) p e in
    let (g, _) = cond_some (eqb (length (without_plus r)) 1) (number_of (without_plus r)) p f in
    omega (arith, eqb-true (length (without_plus r)) 1 g, without_long r)

scaled_short : (f : List ℕ) (v : ℕ) → scaled_of f ≡ some v → length f ≤ 6
scaled_short f v e = go (number_of (digits_of f)) refl (power_of (behind_digits f)) refl e
  where
    go : (x : Option ℕ) → number_of (digits_of f) ≡ x → (y : Option ℕ) → power_of (behind_digits f) ≡ y → scaled x y ≡ some v → length f ≤ 6
    go none p y q e = nope (cc)
    go (some n) p none q e = nope (cc)
    go (some n) p (some d) q e = omega (arith, both_long f, ap length (number_back (digits_of f) n p), numeral_short n, power_short (behind_digits f) d q)

-- Fields, each with the tab or the end behind it.
abbrev spread : List (List ℕ) → ℕ
spread [] = 0
spread (f ∷ fs) = suc (length f) + spread fs

fields_spread : (l : List ℕ) → suc (length l) ≡ spread (fields_of l)
fields_spread [] = refl
fields_spread (b ∷ l) = go (fields_of l) (fields_spread l)
  where
    go : (fs : List (List ℕ)) → suc (length l) ≡ spread fs → suc (suc (length l)) ≡ spread (on_field b fs)
    go [] h = absurd (omega arith)
    go (f ∷ fs) h = by (eqb b 9)
      where
        by : (t : Bool) → suc (suc (length l)) ≡ spread (cond t ([] ∷ f ∷ fs) ((b ∷ f) ∷ fs))
        by true = omega arith
        by false = omega arith

numbers_short : (fs : List (List ℕ)) (ns : List ℕ) → numbers_by scaled_of fs ≡ some ns → spread fs ≤ 7 * length fs
numbers_short [] ns e = omega arith
numbers_short (f ∷ fs) ns e = go (scaled_of f) refl (numbers_by scaled_of fs) refl e (numbers_short fs)
  where
    go : (x : Option ℕ) → scaled_of f ≡ x → (y : Option (List ℕ)) → numbers_by scaled_of fs ≡ y → and_number x y ≡ some ns
        → ((ms : List ℕ) → numbers_by scaled_of fs ≡ some ms → spread fs ≤ 7 * length fs) → suc (length f) + spread fs ≤ 7 * suc (length fs)
    go none p y q e ih = nope (cc)
    go (some v) p none q e ih = nope (cc)
    go (some v) p (some ms) q e ih = omega (arith, scaled_short f v p, ih ms q)

-- A line with its LF.
abbrev line_most : Kind → ℕ
line_most k = word_most k + 1 + 7 * field_count k

line_short : {j j' : Job} {l : List ℕ} (x : RightLine scaled_of j l j') → suc (length l) ≤ line_most x.kind
line_short {j} {j'} {l} x =
    let n = suc (length x.word) in
    omega (
      arith,
      opens_long (x.word ++ (9 ∷ [])) l x.opened,
      length-append x.word (9 ∷ []),
      length-drop n l,
      fields_spread (drop n l),
      numbers_short (after x.word l) x.numbers x.given,
      x.count,
      x.known,
    )

-- The most bytes of the lines that said a job.
abbrev floor_most : ℕ → ℕ
floor_most n = cond (eqb n 0) 0 (line_most floor_line)

abbrev weight : Job → ℕ
weight j = floor_most j.cells + 20 * length j.tracks + 12 * length j.carts + 19 * length j.calls

added_weigh : (j : Job) (k : Kind) (a b : ℕ) → may_follow j k ≡ true → in_range j k a b ≡ true → weight j + line_most k ≤ weight (add j k a b)
added_weigh j floor_line a b m r =
    let some : 0 < a = ltb-true 0 a (and_left (ltb 0 a) (leb a max_cells) r) in
    let before : floor_most j.cells ≡ 0 = ap (λ t. cond t 0 (line_most floor_line)) m in
    let now : floor_most a ≡ line_most floor_line = ap (λ t. cond t 0 (line_most floor_line)) (ne_eqb a 0 (λ z. omega arith)) in
    omega arith
added_weigh j track_line a b m r = omega (arith, length-append j.tracks (track a b ∷ []))
added_weigh j cart_line a b m r = omega (arith, length-append j.carts (a ∷ []))
added_weigh j (call_line k) a b m r = omega (arith, length-append j.calls (call k a b ∷ []))

-- A text of n bytes has these lines, if none of them is cut.
abbrev Fills : Lines → ℕ → Type 0
Fills done n = n ≡ 0
Fills cut n = Unit
Fills (more l ls) n = (m : ℕ) × (n ≡ suc (length l) + m) × Fills ls m

lines_fill : (s : List ℕ) → Fills (lines_of s) (length s)
lines_fill [] = refl
lines_fill (b ∷ s) = go (eqb b 10) (lines_of s) (lines_fill s)
  where
    go : (t : Bool) (ls : Lines) → Fills ls (length s) → Fills (cond t (more [] ls) (on_first b ls)) (suc (length s))
    go true ls h = (length s, omega arith, h)
    go false done h = tt
    go false cut h = tt
    go false (more l ls) (m, e, h) = (m, omega arith, h)

lines_weigh : (j j' : Job) (n m : ℕ) (ls : Lines) → Fills ls m → lines_say scaled_of j n ls ≡ accepted j' → weight j + m ≤ weight j'
lines_weigh j j' n m done h e = go (eqb j.cells 0) (leb (length j.calls) (length j.carts)) e
  where
    same : accepted j ≡ accepted j' → j ≡ j'
    same e = cc

    go : (t u : Bool) → cond t (refused BadLine n) (cond u (accepted j) (refused Uneven 0)) ≡ accepted j' → weight j + m ≤ weight j'
    go true u e = nope (cc)
    go false true e = omega (arith, ap weight (same e))
    go false false e = nope (cc)
lines_weigh j j' n m cut h e = nope (cc)
lines_weigh j j' n m (more l ls) (r, f, h) e = go (line_says scaled_of j l) refl e (λ k. lines_weigh k j' (n + 1) r ls h)
  where
    go : (s : Said) → line_says scaled_of j l ≡ s → go_on s n (λ k. lines_say scaled_of k (n + 1) ls) ≡ accepted j'
        → ((k : Job) → lines_say scaled_of k (n + 1) ls ≡ accepted j' → weight k + r ≤ weight j') → weight j + m ≤ weight j'
    go (wrong a) q e ih = nope (cc)
    go (right k) q e ih =
        let x = line_added scaled_of j k l q in
        omega (arith, line_short x, added_weigh j x.kind x.a x.b x.follows x.ranged, ap weight x.so, ih k e)

-- So the limit on the bytes of a text turns back no job that keeps the other limits.
pub job_short : (s : List ℕ) (j : Job) → lines_say scaled_of no_job 1 (lines_of s) ≡ accepted j → length s ≤ 12237
job_short s j e =
    let f = (lines_ready no_job j 1 (lines_of s) no_fit e).fit in
    let first : floor_most j.cells ≤ 13 = go (eqb j.cells 0) in
    omega (arith, lines_weigh no_job j 1 (length s) (lines_of s) (lines_fill s) e, f.few_tracks, f.few_carts, f.few_calls)
  where
    go : (t : Bool) → cond t 0 (line_most floor_line) ≤ 13
    go true = omega arith
    go false = omega arith
