-- What a text said before numbers could have exponents, it says now. A plain number read with exponents is the same number (`number_scaled`), so each line that had its numbers says what it
-- said; and a text that the reader of plain numbers takes, or refuses otherwise than with 4, gets the same job, or the same answer and line. Assumes nothing.
use Prim.Native.Nat.{ℕ, ◌+◌}
use mathlib.Core.Path.{◌≡◌, refl, ap, ◌∙◌}
use mathlib.Core.List.{List, [], ◌∷◌}
use mathlib.Core.Option.{Option, none, some}
use mathlib.Core.Bool.{Bool, true, false, cond, ◌&&◌}
use lib.Dec.{ltb, eqb}
use lib.ListN.{length}
use Rattle.model.specs.declared.answer.Answer.TheVariants.{BadLine, NoNumber, TextTooLong}
use Rattle.model.specs.Limits.{max_text}
use Rattle.model.specs.Job.{Job, lift, bay}
use Rattle.model.specs.Text.{Lines, done, cut, more, lines_of, number_of, scaled_of, and_number, numbers_by, opens, after, floor_word, track_word, cart_word, call_word, bay_word}
use Rattle.model.specs.ReadJob.{refused, accepted, Kind, floor_line, track_line, cart_line, call_line, no_job, may_follow, field_count, Said, wrong, right}
use Rattle.model.specs.ReadJob.{numbers_say, fields_say, line_says, go_on, lines_say, read_by, read_job}
use Rattle.model.proofs.Basics.{nope}
use Rattle.model.proofs.Digits.{number_scaled}

-- A second reader that takes what the first takes for a number for the same number: where the first does not answer 4, the second answers the same.
module _ (first second : List ℕ → Option ℕ) (keeps : (n : ℕ) (f : List ℕ) → first f ≡ some n → second f ≡ some n) where
  numbers_kept : (fs : List (List ℕ)) (ns : List ℕ) → numbers_by first fs ≡ some ns → numbers_by second fs ≡ some ns
  numbers_kept [] ns e = e
  numbers_kept (f ∷ fs) ns e = go (first f) refl (numbers_by first fs) refl e (numbers_kept fs)
    where
      go : (x : Option ℕ) → first f ≡ x → (y : Option (List ℕ)) → numbers_by first fs ≡ y → and_number x y ≡ some ns
          → ((ms : List ℕ) → numbers_by first fs ≡ some ms → numbers_by second fs ≡ some ms) → and_number (second f) (numbers_by second fs) ≡ some ns
      go none p y q e ih = nope (cc)
      go (some n) p none q e ih = nope (cc)
      go (some n) p (some ms) q e ih = rw (keeps n f p, ih ms q) e

  fields_kept : (j : Job) (k : Kind) (fs : List (List ℕ)) → (fields_say first j k fs ≡ wrong NoNumber → ⊥) → fields_say second j k fs ≡ fields_say first j k fs
  fields_kept j k fs = go (may_follow j k && eqb (length fs) (field_count k)) (numbers_by first fs) refl
    where
      go : (t : Bool) (o : Option (List ℕ)) → numbers_by first fs ≡ o → (cond t (numbers_say j k o) (wrong BadLine) ≡ wrong NoNumber → ⊥)
          → cond t (numbers_say j k (numbers_by second fs)) (wrong BadLine) ≡ cond t (numbers_say j k o) (wrong BadLine)
      go false o q h = refl
      go true none q h = absurd (h refl)
      go true (some ns) q h = ap (numbers_say j k) (numbers_kept fs ns q)

  line_kept : (j : Job) (l : List ℕ) → (line_says first j l ≡ wrong NoNumber → ⊥) → line_says second j l ≡ line_says first j l
  line_kept j l = go (opens floor_word l) (opens track_word l) (opens cart_word l) (opens call_word l) (opens bay_word l)
    where
      say : (List ℕ → Option ℕ) → Kind → List ℕ → Said
      say number k word = fields_say number j k (after word l)

      says : (List ℕ → Option ℕ) → Bool → Bool → Bool → Bool → Bool → Said
      says number t u v w x = cond t (say number floor_line floor_word) (cond u (say number track_line track_word) (cond v (say number cart_line cart_word)
          (cond w (say number (call_line lift) call_word) (cond x (say number (call_line bay) bay_word) (wrong BadLine)))))

      go : (t u v w x : Bool) → (says first t u v w x ≡ wrong NoNumber → ⊥) → says second t u v w x ≡ says first t u v w x
      go true u v w x = fields_kept j floor_line (after floor_word l)
      go false true v w x = fields_kept j track_line (after track_word l)
      go false false true w x = fields_kept j cart_line (after cart_word l)
      go false false false true x = fields_kept j (call_line lift) (after call_word l)
      go false false false false true = fields_kept j (call_line bay) (after bay_word l)
      go false false false false false = λ h. refl

  lines_kept : (j : Job) (n : ℕ) (ls : Lines) → ((l : ℕ) → lines_say first j n ls ≡ refused NoNumber l → ⊥) → lines_say second j n ls ≡ lines_say first j n ls
  lines_kept j n done h = refl
  lines_kept j n cut h = refl
  lines_kept j n (more l ls) h =
      ap (λ s. go_on s n (λ k. lines_say second k (n + 1) ls)) (line_kept j l (λ e. h n (ap (λ s. go_on s n (λ k. lines_say first k (n + 1) ls)) e)))
      ∙ go (line_says first j l) h (λ k. lines_kept k (n + 1) ls)
    where
      go : (s : Said) → ((m : ℕ) → go_on s n (λ k. lines_say first k (n + 1) ls) ≡ refused NoNumber m → ⊥)
          → ((k : Job) → ((m : ℕ) → lines_say first k (n + 1) ls ≡ refused NoNumber m → ⊥) → lines_say second k (n + 1) ls ≡ lines_say first k (n + 1) ls)
          → go_on s n (λ k. lines_say second k (n + 1) ls) ≡ go_on s n (λ k. lines_say first k (n + 1) ls)
      go (wrong a) h ih = refl
      go (right k) h ih = ih k h

  text_kept : (s : List ℕ) → ((l : ℕ) → read_by first s ≡ refused NoNumber l → ⊥) → read_by second s ≡ read_by first s
  text_kept s = go (ltb max_text (length s))
    where
      go : (t : Bool) → ((l : ℕ) → cond t (refused TextTooLong 0) (lines_say first no_job 1 (lines_of s)) ≡ refused NoNumber l → ⊥)
          → cond t (refused TextTooLong 0) (lines_say second no_job 1 (lines_of s)) ≡ cond t (refused TextTooLong 0) (lines_say first no_job 1 (lines_of s))
      go true h = refl
      go false h = lines_kept no_job 1 (lines_of s) h

-- What the reader of plain numbers does not refuse with 4 is read as it reads it, with the same answer and line.
pub as_before : (s : List ℕ) → ((l : ℕ) → read_by number_of s ≡ refused NoNumber l → ⊥) → read_job s ≡ read_by number_of s
unfolding read_job
as_before = text_kept number_of scaled_of number_scaled

-- Every text that was read is read to the same job.
pub same_job : (s : List ℕ) (j : Job) → read_by number_of s ≡ accepted j → read_job s ≡ accepted j
same_job s j e = as_before s (λ l f. nope (cc)) ∙ e
