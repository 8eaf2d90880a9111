-- What the map reader gives for a map whose cells are neither too few nor too many, by the length of its text and that of the buffer. What is written of the map's tracks is the map's
-- text. Assumes nothing.
use Prim.Native.Nat.{ℕ, ◌+◌, ◌*◌, ◌≤◌, ◌<◌}
use mathlib.Core.Path.{◌≡◌, refl, ap, ◌∙◌}
use mathlib.Core.List.{List, ◌++◌}
use mathlib.Core.Bool.{true, ◌&&◌}
use native.Mathlib.Omega.{arith}
use lib.Dec.{ltb, leb}
use lib.ListN.{length, drop}
use borrow.Author.Tests.{lt-ltb, le-leb, lt-leb}
use Rattle.model.specs.declared.answer.Answer.{Answer}
use Rattle.model.specs.declared.answer.Answer.TheVariants.{SheetTooShort}
use Rattle.model.specs.Answers.{number}
use Rattle.model.specs.Limits.{max_cells}
use Rattle.model.specs.ReadJob.{Verdict, refused, accepted}
use Rattle.model.specs.Job.{Track}
use Rattle.model.specs.GridMap.{drawn, map_cells, tracks_of, floor_lines, map_text, floor_text}
use Rattle.model.specs.Promises.{TextGiven}
use Rattle.model.proofs.Basics.{and_both}
use Rattle.text.specs.Wrote.{Wrote}
use Rattle.text.proofs.Wrote.{wrote_whole}

-- A refusal leaves the buffer alone.
refusal : {a : Answer} {l : ℕ} (v : Verdict (List ℕ)) (text : List ℕ) (r : ℕ) → v ≡ refused a l → r ≡ number a + 256 * l → TextGiven v text text r
refusal v text r e f = rw e (record { told = f; text_after = refl })

module _ (m : List (List ℕ)) (text : List ℕ) where
  -- so many cells, and these tracks, are the map's; their lines have n bytes
  module _ (cells : ℕ) (ts : List Track) (n : ℕ) (e : cells ≡ map_cells m) (t : ts ≡ tracks_of m) (f : n ≡ length (floor_lines cells ts)) (low : 0 < cells) (high : cells ≤ max_cells) where
    lines : floor_lines cells ts ≡ map_text m
    lines = ap (λ x. floor_lines x ts) e ∙ ap (floor_lines (map_cells m)) t

    size : n ≡ length (map_text m)
    size = f ∙ ap length lines

    counted : (ltb 0 (map_cells m) && leb (map_cells m) max_cells) ≡ true
    counted = and_both (ltb 0 (map_cells m)) (leb (map_cells m) max_cells) (lt-ltb 0 (map_cells m) (omega arith)) (le-leb (map_cells m) max_cells (omega arith))

    pub too_long : length text < n → (r : ℕ) → r ≡ number SheetTooShort + 256 * 0 → TextGiven (floor_text (length text) (drawn m)) text text r
    too_long h r =
        let v : floor_text (length text) (drawn m) ≡ refused SheetTooShort 0 = rw (counted, lt-leb (length (map_text m)) (length text) (omega (arith, size))) in
        refusal (floor_text (length text) (drawn m)) text r v

    pub written : {text' : List ℕ} {q : ℕ} → Wrote text 0 (floor_lines cells ts) text' q → n ≤ length text → TextGiven (floor_text (length text) (drawn m)) text text' (256 * n)
    written w h =
        let v : floor_text (length text) (drawn m) ≡ accepted (map_text m) = rw (counted, le-leb (length (map_text m)) (length text) (omega (arith, size))) in
        rw v (record { told = ap (λ x. 256 * x) size; text_after = wrote_whole w ∙ ap (λ b. b ++ drop (length b) text) lines })
