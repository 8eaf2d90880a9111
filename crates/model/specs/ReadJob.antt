-- The job that a text says, or its refusal: an answer and a line, from 1. The state is the job of the lines so far; it has 0 cells before its FLOOR line.
use Rattle.std.specs.Prelude.{ℕ, ◌+◌, List, [], ◌∷◌, ◌++◌, map, Bool, true, false, cond, not, ◌&&◌, ◌||◌, ltb, leb, eqb, length, get_or}
use Rattle.std.proofs.Math.Option.{Option, none, some}
use Rattle.model.specs.Limits.{max_cells, max_tracks, max_carts, max_calls, max_steps, max_text}
use Rattle.model.specs.declared.answer.Answer.{Answer}
use Rattle.model.specs.declared.answer.Answer.TheVariants.{TextTooLong, BadLine, NoNumber, OutOfRange, TooMany, Doubled, Uneven}
use Rattle.model.specs.Job.{Job, Track, CallKind, lift, bay, track, call}
use Rattle.model.specs.Text.{Lines, done, cut, more, lines_of, numbers_by, scaled_of, opens, after, floor_word, track_word, cart_word, call_word, bay_word}

-- on a text that says an A
pub data Verdict (A : Type 0) : Type 0 where
  refused : (answer : Answer) (line : ℕ) → Verdict A
  accepted : A → Verdict A

-- the kinds of lines: CALL and BAY lines differ only in the kind of their call
pub data Kind : Type 0 where
  floor_line track_line cart_line : Kind
  call_line : CallKind → Kind

abbrev pub no_job : Job
no_job = record { cells = 0; tracks = []; carts = []; calls = [] }

abbrev pub is_empty : {A : Type 0} → List A → Bool
is_empty [] = true
is_empty (a ∷ l) = false

abbrev pub member : ℕ → List ℕ → Bool
member a [] = false
member a (b ∷ l) = eqb a b || member a l

-- a track from a to b
abbrev pub leads : ℕ → ℕ → List Track → Bool
leads a b [] = false
leads a b (t ∷ ts) = (eqb a t.from && eqb b t.to) || leads a b ts

-- 3: one FLOOR first, then all TRACK, then all CART, then all CALL and BAY lines in any mixture
abbrev pub may_follow : Job → Kind → Bool
may_follow j floor_line = eqb j.cells 0
may_follow j track_line = ltb 0 j.cells && is_empty j.carts && is_empty j.calls
may_follow j cart_line = ltb 0 j.cells && is_empty j.calls
may_follow j (call_line k) = ltb 0 j.cells

abbrev pub field_count : Kind → ℕ
field_count floor_line = 1
field_count track_line = 2
field_count cart_line = 1
field_count (call_line k) = 2

-- 5: of the line's numbers, a is the first and b the second, if it has two
abbrev pub in_range : Job → Kind → ℕ → ℕ → Bool
in_range j floor_line a b = ltb 0 a && leb a max_cells
in_range j track_line a b = ltb a j.cells && ltb b j.cells
in_range j cart_line a b = ltb a j.cells
in_range j (call_line k) a b = ltb a j.cells && ltb b max_steps

-- 6: one more of its kind is allowed; calls and bays are counted together
abbrev pub has_room : Job → Kind → Bool
has_room j floor_line = true
has_room j track_line = ltb (length j.tracks) max_tracks
has_room j cart_line = ltb (length j.carts) max_carts
has_room j (call_line k) = ltb (length j.calls) max_calls

-- 7: no track from a cell to itself or between cells joined already, either way round; no second cart, and no second call or bay, on a cell
abbrev pub is_new : Job → Kind → ℕ → ℕ → Bool
is_new j floor_line a b = true
is_new j track_line a b = not (eqb a b || leads a b j.tracks || leads b a j.tracks)
is_new j cart_line a b = not (member a j.carts)
is_new j (call_line k) a b = not (member a (map (λ q. q.cell) j.calls))

abbrev pub add : Job → Kind → ℕ → ℕ → Job
add j floor_line a b = record { cells = a; tracks = j.tracks; carts = j.carts; calls = j.calls }
add j track_line a b = record { cells = j.cells; tracks = j.tracks ++ (track a b ∷ []); carts = j.carts; calls = j.calls }
add j cart_line a b = record { cells = j.cells; tracks = j.tracks; carts = j.carts ++ (a ∷ []); calls = j.calls }
add j (call_line k) a b = record { cells = j.cells; tracks = j.tracks; carts = j.carts; calls = j.calls ++ (call k a b ∷ []) }

-- What a line says: the job with it, or the answer of the first test that fails.
pub data Said : Type 0 where
  wrong : Answer → Said
  right : Job → Said

abbrev pub numbers_say : Job → Kind → Option (List ℕ) → Said
numbers_say j k none = wrong NoNumber
numbers_say j k (some ns) =
    let a = get_or ns 0 0 in
    let b = get_or ns 1 0 in
    cond (in_range j k a b) (cond (has_room j k) (cond (is_new j k a b) (right (add j k a b)) (wrong Doubled)) (wrong TooMany)) (wrong OutOfRange)

abbrev pub fields_say : (List ℕ → Option ℕ) → Job → Kind → List (List ℕ) → Said
fields_say number j k fs = cond (may_follow j k && eqb (length fs) (field_count k)) (numbers_say j k (numbers_by number fs)) (wrong BadLine)

-- The word at the line's start decides; what follows it and its tab are the fields.
abbrev pub line_says : (List ℕ → Option ℕ) → Job → List ℕ → Said
line_says number j l =
    cond (opens floor_word l) (fields_say number j floor_line (after floor_word l))
    (cond (opens track_word l) (fields_say number j track_line (after track_word l))
    (cond (opens cart_word l) (fields_say number j cart_line (after cart_word l))
    (cond (opens call_word l) (fields_say number j (call_line lift) (after call_word l))
    (cond (opens bay_word l) (fields_say number j (call_line bay) (after bay_word l))
    (wrong BadLine)))))

abbrev pub go_on : Said → ℕ → (Job → Verdict Job) → Verdict Job
go_on (wrong a) n on = refused a n
go_on (right j) n on = on j

-- 8: fewer carts than calls. A text without a line has no FLOOR.
abbrev pub whole_job : Job → ℕ → Verdict Job
whole_job j n = cond (eqb j.cells 0) (refused BadLine n) (cond (leb (length j.calls) (length j.carts)) (accepted j) (refused Uneven 0))

-- The lines from line n on, after those that said j.
abbrev pub lines_say : (List ℕ → Option ℕ) → Job → ℕ → Lines → Verdict Job
lines_say number j n done = whole_job j n
lines_say number j n cut = refused BadLine n
lines_say number j n (more l ls) = go_on (line_says number j l) n (λ j'. lines_say number j' (n + 1) ls)

-- The text, its fields read by `number`.
abbrev pub read_by : (List ℕ → Option ℕ) → List ℕ → Verdict Job
read_by number s = cond (ltb max_text (length s)) (refused TextTooLong 0) (lines_say number no_job 1 (lines_of s))

-- Numbers of a job may have exponents.
unfoldable pub read_job : List ℕ → Verdict Job
read_job s = read_by scaled_of s
