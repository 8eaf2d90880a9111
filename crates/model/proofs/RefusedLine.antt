-- A refusal's line is below 1,000, so that its digits are in the table. A job is turned back at the line behind its last at the latest: each of its lines says a cell count, a track, a cart
-- or a call, and of these there are at most 1 + 512 + 64 + 64. A map is turned back there at the latest too, and has at most 4 + 64 lines. Assumes nothing.
use Prim.Native.Nat.{ℕ, zero, suc, ◌+◌, ◌/◌, ◌%◌, ◌≤◌, ◌<◌}
use mathlib.Core.Path.{◌≡◌, refl, subst}
use mathlib.Core.List.{List, [], ◌∷◌, ◌++◌}
use mathlib.Core.Option.{Option, none, some}
use mathlib.Core.Bool.{Bool, true, false, cond, ◌&&◌}
use mathlib.Core.Logic.{◌⊎◌, inl, inr}
use native.Mathlib.Omega.{arith}
use lib.Dec.{eqb, ltb, leb}
use lib.ListN.{length, length-append}
use borrow.Author.Tests.{ltb-true, eqb-true}
use Rattle.model.specs.declared.answer.Answer.{Answer}
use Rattle.model.specs.declared.answer.Answer.TheVariants.{Plan, Cannot, TextTooLong, BadLine, NoNumber, OutOfRange, TooMany, Doubled, Uneven}
use Rattle.model.specs.declared.answer.Answer.TheVariants.{StoreTooShort, SheetTooShort, BadSheet, WrongSheet, BadMap, NoFloor}
use Rattle.model.specs.Answers.{number}
use Rattle.model.specs.Promises.{with_store, with_room, Told, Planned, text_answer, Mapped}
use Rattle.model.specs.Limits.{max_cells, max_tracks, max_carts, max_calls, max_side, max_text}
use Rattle.model.specs.Job.{Job, track, call, store_least, sheet_least}
use Rattle.model.specs.Ready.{Fit}
use Rattle.model.specs.Text.{Lines, done, cut, more, lines_of, scaled_of}
use Rattle.model.specs.Bytes.{bytes}
use Rattle.model.specs.FirstBad.{or_bad, line_due, rest_says}
use Rattle.model.specs.GridMap.{Drawn, bad, drawn, word_line, size_line, row_line, read_map, map_cells, map_text, floor_text}
use Rattle.model.specs.ReadJob.{Verdict, refused, accepted, Kind, floor_line, track_line, cart_line, call_line, no_job, is_empty, may_follow, in_range, add}
use Rattle.model.specs.ReadJob.{Said, wrong, right, line_says, go_on, lines_say, read_job}
use Rattle.model.proofs.Basics.{nope, and_left}
use Rattle.model.proofs.Ready.{line_added, line_fit, no_fit}
use Rattle.model.proofs.MapPrefix.{size_short}

-- The line behind the last, of a job and of a map.
abbrev pub job_end : ℕ
job_end = 2 + max_tracks + max_carts + max_calls

abbrev pub map_end : ℕ
map_end = 5 + max_side

-- Line n comes behind those that said j.
abbrev Behind : Job → ℕ → Type 0
Behind j n = ((j.cells ≡ 0) × (n ≡ 1)) ⊎ ((0 < j.cells) × (n ≤ 2 + length j.tracks + length j.carts + length j.calls))

line_same : (a b : Answer) (m n : ℕ) → ◌≡◌ {A = Verdict Job} (refused a m) (refused b n) → m ≡ n
line_same a b m n e = cc

module _ (j : Job) (n : ℕ) where
  -- a line behind FLOOR
  later : Behind j n → 0 < j.cells → n ≤ 2 + length j.tracks + length j.carts + length j.calls
  later (inl (z, _)) h = absurd (omega arith)
  later (inr (_, few)) h = few

  behind_added : (k : Kind) (a b : ℕ) → Behind j n → may_follow j k ≡ true → in_range j k a b ≡ true → Behind (add j k a b) (n + 1)
  behind_added floor_line a b (inl (_, first)) m r = inr (ltb-true 0 a (and_left (ltb 0 a) (leb a max_cells) r), omega arith)
  behind_added floor_line a b (inr (h, _)) m r = absurd (omega (arith, eqb-true j.cells 0 m))
  behind_added track_line a b h m r =
      let cells = ltb-true 0 j.cells (and_left (ltb 0 j.cells) (is_empty j.carts) (and_left (ltb 0 j.cells && is_empty j.carts) (is_empty j.calls) m)) in
      inr (cells, omega (arith, later h cells, length-append j.tracks (track a b ∷ [])))
  behind_added cart_line a b h m r =
      let cells = ltb-true 0 j.cells (and_left (ltb 0 j.cells) (is_empty j.calls) m) in
      inr (cells, omega (arith, later h cells, length-append j.carts (a ∷ [])))
  behind_added (call_line k) a b h m r =
      let cells = ltb-true 0 j.cells m in
      inr (cells, omega (arith, later h cells, length-append j.calls (call k a b ∷ [])))

  behind_few : Fit j → Behind j n → n ≤ job_end
  behind_few f (inl (_, first)) = omega arith
  behind_few f (inr (_, few)) = omega (arith, f.few_tracks, f.few_carts, f.few_calls)

lines_early : (j : Job) (n : ℕ) (ls : Lines) (a : Answer) (l : ℕ) → Fit j → Behind j n → lines_say scaled_of j n ls ≡ refused a l → l ≤ job_end
lines_early j n done a l f h e = go (eqb j.cells 0) (leb (length j.calls) (length j.carts)) e
  where
    go : (t u : Bool) → cond t (refused BadLine n) (cond u (accepted j) (refused Uneven 0)) ≡ refused a l → l ≤ job_end
    go true u e = omega (arith, line_same BadLine a n l e, behind_few j n f h)
    go false true e = nope (cc)
    go false false e = omega (arith, line_same Uneven a 0 l e)
lines_early j n cut a l f h e = omega (arith, line_same BadLine a n l e, behind_few j n f h)
lines_early j n (more r ls) a l f h e = go (line_says scaled_of j r) refl e (λ k. lines_early k (n + 1) ls a l)
  where
    go : (s : Said) → line_says scaled_of j r ≡ s → go_on s n (λ k. lines_say scaled_of k (n + 1) ls) ≡ refused a l
        → ((k : Job) → Fit k → Behind k (n + 1) → lines_say scaled_of k (n + 1) ls ≡ refused a l → l ≤ job_end) → l ≤ job_end
    go (wrong b) q e ih = omega (arith, line_same b a n l e, behind_few j n f h)
    go (right k) q e ih =
        let x = line_added scaled_of j k r q in
        ih k (line_fit f x) (subst (λ k. Behind k (n + 1)) x.so (behind_added j n x.kind x.a x.b h x.follows x.ranged)) e

pub job_line : (s : List ℕ) (a : Answer) (l : ℕ) → read_job s ≡ refused a l → l ≤ job_end
unfolding read_job
job_line s a l e = go (ltb max_text (length s)) e
  where
    go : (t : Bool) → cond t (refused TextTooLong 0) (lines_say scaled_of no_job 1 (lines_of s)) ≡ refused a l → l ≤ job_end
    go true e = omega (arith, line_same TextTooLong a 0 l e)
    go false e = lines_early no_job 1 (lines_of s) a l no_fit (inl (refl, refl)) e

-- Lines that are due one after the other, in a map.
bad_same : (m n : ℕ) → ◌≡◌ {A = Drawn} (bad m) (bad n) → m ≡ n
bad_same m n e = cc

line_early : {A : Type 0} (say : List ℕ → Option A) (n : ℕ) (ls : Lines) (on : A → Lines → Drawn) (l : ℕ)
    → ((r : List ℕ) (a : A) (rest : Lines) → say r ≡ some a → on a rest ≡ bad l → l ≤ map_end) → n ≤ map_end → line_due bad say n ls on ≡ bad l → l ≤ map_end
line_early say n done on l ih h e = omega (arith, bad_same n l e)
line_early say n cut on l ih h e = omega (arith, bad_same n l e)
line_early {A} say n (more r ls) on l ih h e = go (say r) refl e
  where
    go : (o : Option A) → say r ≡ o → or_bad bad n o (λ a. on a ls) ≡ bad l → l ≤ map_end
    go none q e = omega (arith, bad_same n l e)
    go (some a) q e = ih r a ls q e

rows_early : (w : ℕ) (got : List (List ℕ)) (k n : ℕ) (ls : Lines) (l : ℕ) → rest_says bad (row_line w) drawn got k n ls ≡ bad l → l ≤ n + k
rows_early w got zero n done l e = nope (cc)
rows_early w got zero n cut l e = omega (arith, bad_same n l e)
rows_early w got zero n (more r ls) l e = omega (arith, bad_same n l e)
rows_early w got (suc k) n done l e = omega (arith, bad_same n l e)
rows_early w got (suc k) n cut l e = omega (arith, bad_same n l e)
rows_early w got (suc k) n (more r ls) l e = go (row_line w r) e (λ a. rows_early w (got ++ (a ∷ [])) k (n + 1) ls l)
  where
    go : (o : Option (List ℕ)) → or_bad bad n o (λ a. rest_says bad (row_line w) drawn (got ++ (a ∷ [])) k (n + 1) ls) ≡ bad l
        → ((a : List ℕ) → rest_says bad (row_line w) drawn (got ++ (a ∷ [])) k (n + 1) ls ≡ bad l → l ≤ n + 1 + k) → l ≤ n + suc k
    go none e ih = omega (arith, bad_same n l e)
    go (some a) e ih = omega (arith, ih a e)

pub map_line : (s : List ℕ) (l : ℕ) → read_map s ≡ bad l → l ≤ map_end
unfolding read_map
map_line s l e =
    line_early (word_line (bytes "type octile")) 1 (lines_of s) _ l (λ _ _ ls₁ _ e₁.
    line_early (size_line (bytes "height ")) 2 ls₁ _ l (λ r h ls₂ q e₂.
    line_early (size_line (bytes "width ")) 3 ls₂ _ l (λ _ w ls₃ _ e₃.
    line_early (word_line (bytes "map")) 4 ls₃ _ l (λ _ _ ls₄ _ e₄.
    omega (arith, rows_early w [] h 5 ls₄ l e₄, (size_short (bytes "height ") r h q).1)) (omega arith) e₃) (omega arith) e₂) (omega arith) e₁) (omega arith) e

-- What the calls answer: a number that is none of a sheet, or of a floor, comes with a line.
number_low : (a : Answer) → number a < 256
number_low Plan = omega arith
number_low Cannot = omega arith
number_low TextTooLong = omega arith
number_low BadLine = omega arith
number_low NoNumber = omega arith
number_low OutOfRange = omega arith
number_low TooMany = omega arith
number_low Doubled = omega arith
number_low Uneven = omega arith
number_low StoreTooShort = omega arith
number_low SheetTooShort = omega arith
number_low BadSheet = omega arith
number_low WrongSheet = omega arith
number_low BadMap = omega arith
number_low NoFloor = omega arith

pub planned_line : {job store sheet store' sheet' : List ℕ} {r : ℕ} → Planned job store sheet store' sheet' r → 1 < r % 256 → r / 256 ≤ job_end
planned_line {job} {store} {sheet} {store'} {sheet'} {r} p h = go (read_job job) refl p.told
  where
    go : (v : Verdict Job) → read_job job ≡ v → Told (with_room (length sheet) (with_store (length store) v)) r p.bytes → r / 256 ≤ job_end
    go (refused a l) q (e, _) = omega (arith, number_low a, job_line job a l q)
    go (accepted j) q told = stored (ltb (length store) (store_least j)) told
      where
        written : (t : Bool) → Told (cond t (refused SheetTooShort 0) (accepted j)) r p.bytes → r / 256 ≤ job_end
        written true (e, _) = omega arith
        written false (inl (_, _, _, _, e)) = absurd (omega arith)
        written false (inr (_, _, _, e, _)) = absurd (omega arith)

        stored : (t : Bool) → Told (with_room (length sheet) (cond t (refused StoreTooShort 0) (accepted j))) r p.bytes → r / 256 ≤ job_end
        stored true (e, _) = omega arith
        stored false told = written (ltb (length sheet) (sheet_least j)) told

pub mapped_line : (map : List ℕ) {text text' : List ℕ} {r : ℕ} → Mapped map text text' r → 0 < r % 256 → r / 256 ≤ map_end
mapped_line map {text} {text'} {r} p h = go (read_map map) refl p.told
  where
    go : (d : Drawn) → read_map map ≡ d → r ≡ text_answer (floor_text (length text) d) → r / 256 ≤ map_end
    go (bad l) q e = omega (arith, map_line map l q)
    go (drawn m) q e = by (ltb 0 (map_cells m) && leb (map_cells m) max_cells) (leb (length (map_text m)) (length text)) e
      where
        by : (t u : Bool) → r ≡ text_answer (cond t (cond u (accepted (map_text m)) (refused SheetTooShort 0)) (refused NoFloor 0)) → r / 256 ≤ map_end
        by true true e = absurd (omega arith)
        by true false e = omega arith
        by false u e = omega arith
