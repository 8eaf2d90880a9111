-- Laws on the tests of a line: the kind of CALL and BAY lines is that of a call, emptiness is a count of 0, and so the order of TRACK and CART lines is tested by a job's counts; numbers in
-- range are small, and a line that fails a test is refused.
-- Assumes nothing.
use Prim.Native.Nat.{ℕ, suc, ◌≤◌, ◌<◌}
use mathlib.Core.Path.{◌≡◌, refl, sym}
use mathlib.Core.List.{List, [], ◌∷◌}
use mathlib.Core.Bool.{true, ◌&&◌}
use denote.Enum.Declared.{tag_of}
use native.Mathlib.Omega.{arith}
use lib.Dec.{ltb, leb, eqb}
use lib.ListN.{length}
use borrow.Author.Tests.{ltb-true, leb-true, ne_eqb}
use Rattle.std.proofs.lemmas.List.{length-map}
use Rattle.model.specs.declared.answer.Answer.TheVariants.{Cannot}
use Rattle.model.specs.Answers.{number}
use Rattle.model.specs.Limits.{max_cells, max_steps}
use Rattle.model.specs.Job as model
use Rattle.model.specs.Job.{CallKind}
use Rattle.model.specs.ReadJob as read
use Rattle.model.specs.ReadJob.{floor_line, track_line, cart_line, call_line, is_empty, may_follow, in_range}
use Rattle.model.proofs.Basics.{and_left, and_right}
use Rattle.job.specs.declared.state.Job.{Job}
use Rattle.job.specs.Lists.{as_kind, as_call, job_of}
use Rattle.reader.specs.declared.line.Kind.{Kind}
use Rattle.reader.specs.declared.line.Kind.TheVariants.{Floor, Track, Cart, Call}
use Rattle.reader.specs.declared.line.Fault.{Fault}
use Rattle.reader.specs.declared.line.Fault.TheVariants.{Form, Number, Range, Room, Doubled}
use Rattle.reader.specs.Lines.{kind_of, answer_to, Small}
use Rattle.reader.specs.contracts.line.Kind.{the_type}

-- The kind of the one arm of CALL and BAY is that of a call.
pub called : (k : Kind) → tag_of the_type k ≡ 3 → (q : CallKind) × (kind_of k ≡ call_line q)
called Floor h = absurd (omega arith)
called Track h = absurd (omega arith)
called Cart h = absurd (omega arith)
called (Call q) h = (as_kind q, refl)

pub empty_count : {A : Type 0} (l : List A) → is_empty l ≡ eqb (length l) 0
empty_count [] = refl
empty_count (a ∷ l) = sym (ne_eqb (suc (length l)) 0 (λ e. omega arith))

-- A job's tests by its counts.
module _ (s : Job) where
  pub tracks_follow : may_follow (job_of s) track_line ≡ (ltb 0 s.cells && eqb (length s.carts.items) 0 && eqb (length s.calls.items) 0)
  tracks_follow = simp (empty_count, length-map s.calls.items as_call)

  pub carts_follow : may_follow (job_of s) cart_line ≡ (ltb 0 s.cells && eqb (length s.calls.items) 0)
  carts_follow = simp (empty_count, length-map s.calls.items as_call)

pub range_small : (j : model.Job) (k : read.Kind) (a b : ℕ) → j.cells ≤ max_cells → in_range j k a b ≡ true → Small k a b
range_small j floor_line a b h e = leb-true a max_cells (and_right (ltb 0 a) (leb a max_cells) e)
range_small j track_line a b h e =
    let l = ltb-true a j.cells (and_left (ltb a j.cells) (ltb b j.cells) e) in
    let r = ltb-true b j.cells (and_right (ltb a j.cells) (ltb b j.cells) e) in
    (omega arith, omega arith)
range_small j cart_line a b h e = let l = ltb-true a j.cells e in omega arith
range_small j (call_line q) a b h e =
    let l = ltb-true a j.cells (and_left (ltb a j.cells) (ltb b max_steps) e) in
    (omega arith, ltb-true b max_steps (and_right (ltb a j.cells) (ltb b max_steps) e))

-- A wrong line is refused.
pub fault_late : (f : Fault) → number Cannot < number (answer_to f)
fault_late Form = omega arith
fault_late Number = omega arith
fault_late Range = omega arith
fault_late Room = omega arith
fault_late Doubled = omega arith
