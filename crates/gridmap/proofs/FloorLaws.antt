-- How long a floor's lines are: those of one track more are longer by that track's line, so that those of fewer tracks are no longer than those of all.
-- By induction over the number of tracks. Assumes nothing.
use Prim.Native.Nat.{ℕ, zero, suc, ◌+◌, ◌<◌, ◌≤◌}
use mathlib.Core.Path.{◌≡◌, ap}
use mathlib.Core.List.{List, [], ◌∷◌, append-nil, map}
use native.Mathlib.Omega.{arith}
use native.Mathlib.Numerals.{add-one}
use lib.ListN.{length, get_or, take, length-append}
use lib.Seq.{take_all}
use Rattle.model.specs.Text.{numeral, line, floor_word, track_word}
use Rattle.model.specs.SheetText.{lines_text}
use Rattle.model.specs.GridMap.{floor_lines, track_numbers}
use Rattle.model.proofs.Decide.{dec_eq}
use Rattle.job.specs.declared.state.Track.{Track}
use Rattle.job.specs.Lists.{as_track}
use Rattle.job.proofs.Lists.{no_track, map_more}
use Rattle.text.proofs.Wrote.{head_long, lines_append}

-- the lines of the first n tracks, and that of the next
abbrev pub track_lines : List Track → ℕ → List ℕ
track_lines ts n = lines_text (λ t. track_word) track_numbers (map as_track (take n ts))

abbrev pub next_line : List Track → ℕ → List ℕ
next_line ts n = line track_word (track_numbers (as_track (get_or ts n no_track)))

module _ (ts : List Track) where
  pub lines_more : (n : ℕ) → n < length ts → length (track_lines ts (n + 1)) ≡ length (track_lines ts n) + length (next_line ts n)
  lines_more n h =
      let l : List ℕ = next_line ts n in
      let one = lines_append (λ t. track_word) track_numbers (map as_track (take n ts)) (as_track (get_or ts n no_track) ∷ []) in
      rw (map_more as_track ts n no_track h, one, append-nil l) (length-append (track_lines ts n) l)

  pub floor_long : (cells n : ℕ) → length (floor_lines cells (map as_track (take n ts))) ≡ 7 + length (numeral cells) + length (track_lines ts n)
  floor_long cells n = rw (length-append (line floor_word (cells ∷ [])) (track_lines ts n)) (omega (arith, head_long floor_word cells))

  lines_grow : (t n : ℕ) → t ≤ n → n ≤ length ts → length (track_lines ts t) ≤ length (track_lines ts n)
  lines_grow t zero h l =
      let e : t ≡ 0 = omega arith in
      rw e (omega arith)
  lines_grow t (suc n) h l = go (dec_eq t (suc n)) (lines_grow t n)
    where
      go : Dec (t ≡ suc n) → (t ≤ n → n ≤ length ts → length (track_lines ts t) ≤ length (track_lines ts n)) → length (track_lines ts t) ≤ length (track_lines ts (suc n))
      go (yes e) g = rw e (omega arith)
      go (no m) g = omega (arith, g (omega arith) (omega arith), rw add-one at (lines_more n (omega arith)))

  -- the FLOOR line, the lines of the first t tracks and the line of the next one are no longer than all lines
  pub line_fits : (cells t : ℕ) → t < length ts
      → length (line floor_word (cells ∷ [])) + length (track_lines ts t) + length (next_line ts t) ≤ length (floor_lines cells (map as_track ts))
  line_fits cells t h =
      let all : map as_track (take (length ts) ts) ≡ map as_track ts = ap (map as_track) (take_all (length ts) ts (omega arith)) in
      rw (← all, length-append (line floor_word (cells ∷ [])) (track_lines ts (length ts))) (omega (arith, lines_more t h, lines_grow (t + 1) (length ts) (omega arith) (omega arith)))
