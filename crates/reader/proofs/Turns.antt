-- A turn of the reader, in plain lists: what the lines that are left say, by the first of them, and what the reader keeps from turn to turn. Assumes nothing.
use Prim.Native.Nat.{ℕ, ◌+◌, ◌≤◌, ◌<◌}
use mathlib.Core.Path.{◌≡◌, sym, ap, ◌∙◌}
use mathlib.Core.List.{List, ◌∷◌, ◌++◌}
use mathlib.Core.Bool.{false}
use native.Mathlib.Omega.{arith}
use lib.ListN.{length, length-append}
use borrow.Author.Tests.{lt-ltb, le-ltb}
use Rattle.model.specs.declared.answer.Answer.{Answer}
use Rattle.model.specs.declared.answer.Answer.TheVariants.{TextTooLong, BadLine}
use Rattle.model.specs.Limits.{max_text}
use Rattle.model.specs.Job.{Job}
use Rattle.model.specs.Text.{lines_of, scaled_of}
use Rattle.model.specs.ReadJob.{refused, wrong, right, no_job, is_empty, go_on, line_says, lines_say, read_job}
use Rattle.text.specs.Scan.{line_of}
use Rattle.text.proofs.LineLaws.{lines_left, lines_next}

-- What holds at the head of the loop: what is left of the text, read on from the job so far, says what the whole text says.
pub record ReadSoFar (s : List ℕ) (job : Job) (left : List ℕ) (line : ℕ) : Type 0 where
  pub lines : line + length left ≤ length s + 1
  pub rest : lines_say scaled_of job line (lines_of left) ≡ read_job s

pub too_long : (s : List ℕ) → max_text < length s → refused TextTooLong 0 ≡ read_job s
unfolding read_job
too_long s h = simp (lt-ltb _ _ h)

pub so_far_first : (s : List ℕ) → length s ≤ max_text → ReadSoFar s no_job s 1
unfolding read_job
so_far_first s h = record { lines = omega arith; rest = simp (le-ltb _ _ h) }

module _ {s : List ℕ} {job : Job} {left : List ℕ} {line : ℕ} (k : ReadSoFar s job left line) where
  pub ends_cut : is_empty left ≡ false → line_of left ≡ left → refused BadLine line ≡ read_job s
  ends_cut some e = sym (ap (lines_say scaled_of job line) (lines_left left some e)) ∙ k.rest

  -- The first line l, and what is left behind it.
  module _ (l next : List ℕ) (first : (l ≡ line_of left) × (left ≡ l ++ (10 ∷ next))) where
    turned : go_on (line_says scaled_of job l) line (λ j. lines_say scaled_of j (line + 1) (lines_of next)) ≡ read_job s
    turned = sym (ap (lines_say scaled_of job line) (lines_next left l next first)) ∙ k.rest

    pub ends_wrong : (a : Answer) → wrong a ≡ line_says scaled_of job l → refused a line ≡ read_job s
    ends_wrong a w = rw (← w) at turned

    pub so_far_next : (more : Job) → right more ≡ line_says scaled_of job l → ReadSoFar s more next (line + 1)
    so_far_next more w = record { lines = omega (arith, k.lines, ap length first.1, length-append l (10 ∷ next)); rest = rw (← w) at turned }
