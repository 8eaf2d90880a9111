-- What the reader's kinds, lines and faults mean.
use Rattle.std.specs.Prelude.{ℕ, ◌<◌, ◌≤◌, List, cond, eqb, length, drop, get_or, Option, Some, None, Result, Ok, Err}
use Rattle.std.proofs.Math.Option as math
use Rattle.std.proofs.Math.Option.{none, some}
use Rattle.model.specs.declared.answer.Answer.{Answer}
use Rattle.model.specs.declared.answer.Answer.TheVariants as answer
use Rattle.model.specs.Limits.{max_cells, max_steps}
use Rattle.model.specs.Job as model
use Rattle.model.specs.Text.{numbers_by, scaled_of, opens, floor_word, track_word, cart_word, call_word, bay_word}
use Rattle.model.specs.ReadJob as read
use Rattle.model.specs.ReadJob.{floor_line, track_line, cart_line, call_line}
use Rattle.job.specs.declared.state.CallKind.TheVariants.{Lift, Bay}
use Rattle.job.specs.Lists.{as_kind}
use Rattle.reader.specs.declared.line.Kind.{Kind}
use Rattle.reader.specs.declared.line.Kind.TheVariants.{Floor, Track, Cart, Call}
use Rattle.reader.specs.declared.line.Line.{Line}
use Rattle.reader.specs.declared.line.Line.TheVariants as line
use Rattle.reader.specs.declared.line.Fault.{Fault}
use Rattle.reader.specs.declared.line.Fault.TheVariants.{Form, Number, Range, Room, Doubled}

abbrev pub kind_of : Kind → read.Kind
kind_of Floor = floor_line
kind_of Track = track_line
kind_of Cart = cart_line
kind_of (Call q) = call_line (as_kind q)

-- the answers of the five tests
abbrev pub answer_to : Fault → Answer
answer_to Form = answer.BadLine
answer_to Number = answer.NoNumber
answer_to Range = answer.OutOfRange
answer_to Room = answer.TooMany
answer_to Doubled = answer.Doubled

-- The numbers are small enough for a line.
abbrev pub Small : read.Kind → ℕ → ℕ → Type 0
Small floor_line a b = a ≤ max_cells
Small track_line a b = (a < max_cells) × (b < max_cells)
Small cart_line a b = a < max_cells
Small (call_line q) a b = (a < max_cells) × (b < max_steps)

-- the line of a kind with these numbers
abbrev pub line_with : Kind → ℕ → ℕ → Line
line_with Floor a b = line.Floor a
line_with Track a b = line.Track (record { from = a; to = b })
line_with Cart a b = line.Cart a
line_with (Call q) a b = line.Call (record { kind = q; cell = a; deadline = b })

-- f at the kind and the numbers of a line, the second 0 where it has one only
abbrev pub of_line : {A : Type 0} → (read.Kind → ℕ → ℕ → A) → Line → A
of_line f (line.Floor n) = f floor_line n 0
of_line f (line.Track t) = f track_line t.from t.to
of_line f (line.Cart v) = f cart_line v 0
of_line f (line.Call q) = f (call_line (as_kind q.kind)) q.cell q.deadline

-- the word that opens a line, as a kind, and what follows it and its tab
abbrev pub opened : Kind → ℕ → List ℕ → Option (Kind × List ℕ)
opened k n l = Some (k, drop n l)

abbrev pub word_of : List ℕ → Option (Kind × List ℕ)
word_of l =
    cond (opens floor_word l) (opened Floor 6 l)
    (cond (opens track_word l) (opened Track 6 l)
    (cond (opens cart_word l) (opened Cart 5 l)
    (cond (opens call_word l) (opened (Call Lift) 5 l)
    (cond (opens bay_word l) (opened (Call Bay) 4 l)
    None))))

-- n fields, and each a number
abbrev pub two_of : math.Option (List ℕ) → Result (ℕ × ℕ) Fault
two_of none = Err Number
two_of (some ns) = Ok (get_or ns 0 0, get_or ns 1 0)

abbrev pub numbers_given : ℕ → List (List ℕ) → Result (ℕ × ℕ) Fault
numbers_given n fs = cond (eqb (length fs) n) (two_of (numbers_by scaled_of fs)) (Err Form)

-- why they are not: another count, or else one that is no number
abbrev pub first_fault : ℕ → List (List ℕ) → Fault
first_fault n fs = cond (eqb (length fs) n) Number Form

-- what a line says: the job with it, or a fault
abbrev pub said : {U : Type 0} → Result U Fault → model.Job → read.Said
said (Ok u) j = read.right j
said (Err f) j = read.wrong (answer_to f)
