-- A right answer can be written: a plan's lines are known, choke points are fewer than the calls, and the text of either is short. What is then written
-- is the planner's answer. Assumes nothing.
use Prim.Native.Nat.{ℕ, ◌+◌, ◌*◌, ◌≤◌}
use mathlib.Core.Path.{◌≡◌, refl}
use mathlib.Core.List.{List, [], ◌∷◌, ◌++◌}
use mathlib.Core.Logic.{inl, inr}
use native.Mathlib.Omega.{arith}
use lib.ListN.{length, length-append}
use Rattle.model.specs.declared.answer.Answer.TheVariants as answer
use Rattle.model.specs.Answers.{number}
use Rattle.model.specs.Limits.{max_carts, max_calls, max_steps}
use Rattle.model.specs.Text.{line, plan_word, path_word, spare_word, cannot_word, choke_word, whole_word}
use Rattle.model.specs.Job.{Job, call_of}
use Rattle.model.specs.Ready.{Fit}
use Rattle.model.specs.Plan.{Path, Ride, Leads, StaysOn, Plan}
use Rattle.model.specs.Choke.{Choke, cell_step, whole_call, TrueChokes}
use Rattle.model.specs.SheetText.{lines_text, path_numbers, spare_numbers, choke_opens, choke_numbers, plan_text, cannot_text}
use Rattle.model.specs.Promises.{RightPlan, RightChokes}
use Rattle.model.proofs.Lists.{in_get_or}
use Rattle.model.proofs.Contrary.{weak}
use Rattle.model.proofs.Floor.{time_due}
use Rattle.model.proofs.Written.{few_steps}
use Rattle.text.specs.Wrote.{Wrote}
use Rattle.model.proofs.Room.{line_room, lines_room}
use Rattle.text.proofs.Wrote.{wrote_whole}
use Rattle.planner.specs.Written.{Written}

module _ (j : Job) (f : Fit j) where
  path_short : (p : Path) → Leads j p → length (line path_word (path_numbers p)) ≤ length path_word + 4 * (max_steps + 2) + 1
  path_short p l =
      let d = (f.known_calls (call_of j p.call) (in_get_or j.calls p.call _ l.known_call)).1 in
      let q = call_of j p.call in
      omega (arith, line_room path_word (path_numbers p), l.serves.size, time_due q.kind q.deadline l.serves.last l.serves.in_time, d)

  spare_short : (r : Ride) → StaysOn j r → length (line spare_word (spare_numbers r)) ≤ length path_word + 4 * (max_steps + 2) + 1
  spare_short r h = omega (arith, line_room spare_word (spare_numbers r), h.size, few_steps j f)

  -- One of the two for each cart.
  pub plan_short : (ps : List Path) (ss : List Ride) → Plan j ps ss → length (plan_text ps ss) ≤ length plan_word + 5 + (length path_word + 4 * (max_steps + 2) + 1) * max_carts
  plan_short ps ss h =
      let most = length path_word + 4 * (max_steps + 2) + 1 in
      let paths = lines_room (λ p. path_word) path_numbers most ps (λ p m. path_short p (h.served.leads p m)) in
      let spares = lines_room (λ r. spare_word) spare_numbers most ss (λ r m. spare_short r (h.stay r m)) in
      rw (
        length-append (line plan_word (length ps ∷ [])) (lines_text (λ p. path_word) path_numbers ps ++ lines_text (λ r. spare_word) spare_numbers ss),
        length-append (lines_text (λ p. path_word) path_numbers ps) (lines_text (λ r. spare_word) spare_numbers ss),
      ) (omega (arith, line_room plan_word (length ps ∷ []), paths, spares, h.size, f.few_carts))

  choke_short : (x : Choke) → length (line (choke_opens x) (choke_numbers x)) ≤ length whole_word + 5
  choke_short (cell_step x) = omega (arith, line_room choke_word (choke_numbers (cell_step x)))
  choke_short (whole_call k) = omega (arith, line_room whole_word (choke_numbers (whole_call k)))

  pub chokes_short : (xs : List Choke) → TrueChokes j xs → length (cannot_text xs) ≤ length cannot_word + 5 + (length whole_word + 5) * max_calls
  chokes_short xs h =
      let lines = lines_room choke_opens choke_numbers (length whole_word + 5) xs (λ x m. choke_short x) in
      rw (length-append (line cannot_word (length xs ∷ [])) (lines_text choke_opens choke_numbers xs)) (omega (arith, line_room cannot_word (length xs ∷ []), lines, h.few, f.few_calls))

module _ (j : Job) (sheet sheet' : List ℕ) (n r : ℕ) where
  pub plan_written : r ≡ number answer.Plan + 256 * n → (ps : List Path) (ss : List Ride) → RightPlan j ps ss → Wrote sheet 0 (plan_text ps ss) sheet' n → Written j sheet sheet' r
  plan_written e ps ss h w = record { bytes = plan_text ps ss; answers = inl (ps, ss, h, refl, omega (arith, e, w.next)); text = wrote_whole w }

  pub chokes_written : r ≡ number answer.Cannot + 256 * n → (xs : List Choke) → RightChokes j xs → Wrote sheet 0 (cannot_text xs) sheet' n → Written j sheet sheet' r
  chokes_written e xs h w = record {
    bytes = cannot_text xs;
    answers = inr (xs, h, refl, omega (arith, e, w.next), λ ps ss p. weak j xs ps ss h.0 p);
    text = wrote_whole w;
  }
