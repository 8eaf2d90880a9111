-- The filed examples, as rows of a table, and what it is for a row to hold.
use Rattle.std.specs.Prelude.{ℕ, zero, suc, ◌+◌, ◌*◌, ◌%◌, ◌≡◌, List, [], ◌∷◌, ◌++◌, cond, ltb, length, drop}
use Prim.Native.String as S
use Prim.Native.String.{String}
use Rattle.model.specs.Bytes.{bytes}
use Rattle.model.specs.Promises.{Planned, Checked, Mapped, zeros}

-- what planner or map reader is to do: answer 0 or 1 and write a text, or refuse
pub data Outcome : Type 0 where
  wrote : (answer : ℕ) (text : String) → Outcome
  refuses : (number line : ℕ) → Outcome

abbrev pub packed : Outcome → ℕ
packed (wrote k s) = k + 256 * length (bytes s)
packed (refuses n l) = n + 256 * l

abbrev pub written : Outcome → List ℕ
written (wrote k s) = bytes s
written (refuses n l) = []

abbrev pub leaves : Outcome → List ℕ → List ℕ
leaves (wrote k s) store = zeros store
leaves (refuses n l) store = store

-- the answer, and sheet and store afterwards, as they are filed
abbrev pub AsFiled : Outcome → List ℕ → List ℕ → List ℕ → List ℕ → ℕ → Type 0
AsFiled o store sheet store' sheet' r = (r ≡ packed o) × (sheet' ≡ written o ++ drop (length (written o)) sheet) × (store' ≡ leaves o store)

-- A job, the store's length, and the sheet buffer's length for the planner or the sheet for the check; or a map and the text buffer's length; with what is filed.
pub data Row : Type 0 where
  plans : (job : String) (store room : ℕ) → Outcome → Row
  checks : (job : String) (store : ℕ) (sheet : String) (answer : ℕ) → Row
  maps : (map : String) (room : ℕ) → Outcome → Row
  -- a job, store and buffer as for `plans`, with one of several sheets
  allows : (job : String) (store room : ℕ) → Outcome → Row

-- What is filed is what the contract allows, and nothing else is.
abbrev pub RowHolds : Row → Type 0
RowHolds (plans job n m o) = (store sheet store' sheet' : List ℕ) (r : ℕ) → length store ≡ n → length sheet ≡ m
    → (Planned (bytes job) store sheet store' sheet' r → AsFiled o store sheet store' sheet' r)
    × (AsFiled o store sheet store' sheet' r → Planned (bytes job) store sheet store' sheet' r)
RowHolds (checks job n sheet k) = (store store' : List ℕ) (r : ℕ) → length store ≡ n
    → (Checked (bytes job) store (bytes sheet) store' r → (r ≡ k) × (store' ≡ cond (ltb k 2) (zeros store) store))
    × ((r ≡ k) × (store' ≡ cond (ltb k 2) (zeros store) store) → Checked (bytes job) store (bytes sheet) store' r)
RowHolds (maps map n o) = (text text' : List ℕ) (r : ℕ) → length text ≡ n
    → (Mapped (bytes map) text text' r → (r ≡ packed o) × (text' ≡ written o ++ drop (length (written o)) text))
    × ((r ≡ packed o) × (text' ≡ written o ++ drop (length (written o)) text) → Mapped (bytes map) text text' r)
-- What is filed is one that the contract allows, and no other answer is.
RowHolds (allows job n m o) = (store sheet store' sheet' : List ℕ) (r : ℕ) → length store ≡ n → length sheet ≡ m
    → (Planned (bytes job) store sheet store' sheet' r → r % 256 ≡ packed o % 256)
    × (AsFiled o store sheet store' sheet' r → Planned (bytes job) store sheet store' sheet' r)

abbrev pub job_a : String
job_a = "FLOOR\t3\nTRACK\t0\t1\nTRACK\t1\t2\nCART\t0\nCART\t1\nCALL\t2\t1\nCALL\t1\t1\n"

abbrev pub job_b : String
job_b = "FLOOR\t3\nTRACK\t0\t1\nTRACK\t1\t2\nCART\t0\nCART\t1\nCALL\t2\t1\nCALL\t1\t0\n"

abbrev pub job_d : String
job_d = "FLOOR\t1\nCART\t0\nCALL\t0\t0\n"

-- a cart stands on its lift cell, and may be lifted at once or as late as step 255
abbrev pub job_e : String
job_e = "FLOOR\t1\nCART\t0\nCALL\t0\t255\n"

abbrev pub job_f : String
job_f = "FLOOR\t2\nTRACK\t0\t1\nCART\t0\nCART\t1\nCALL\t0\t1\nCALL\t1\t1\n"

-- the bay is met by the cart from cell 4, after the other one crossed its cell
abbrev pub job_bay : String
job_bay = "FLOOR\t5\nTRACK\t0\t1\nTRACK\t1\t2\nTRACK\t1\t3\nTRACK\t3\t4\nCART\t0\nCART\t4\nBAY\t1\t2\nCALL\t2\t2\n"

-- the cart on cell 0 finds the bay's cell closed; without a bay it would pass there
abbrev pub job_closed : String
job_closed = "FLOOR\t3\nTRACK\t0\t1\nTRACK\t1\t2\nCART\t0\nCART\t1\nBAY\t1\t0\nCALL\t2\t2\n"

abbrev pub job_unclosed : String
job_unclosed = "FLOOR\t3\nTRACK\t0\t1\nTRACK\t1\t2\nCART\t0\nCART\t1\nCALL\t1\t0\nCALL\t2\t2\n"

-- two carts beside a lift cell, which no single cell at a step keeps them from, and a call that no track leads to
abbrev pub job_whole : String
job_whole = "FLOOR\t4\nTRACK\t1\t0\nTRACK\t2\t0\nCART\t1\nCART\t2\nCALL\t0\t2\nCALL\t3\t2\n"

-- no plan lifts every cart at its deadline: one is lifted at step 0, and another crosses its cell at step 1
abbrev pub job_early : String
job_early = "FLOOR\t6\nTRACK\t0\t1\nTRACK\t0\t2\nTRACK\t0\t4\nTRACK\t0\t5\nTRACK\t1\t4\nTRACK\t2\t3\nTRACK\t2\t4\nCART\t5\nCART\t1\nCART\t4\nCART\t0\nCALL\t2\t2\nCALL\t0\t1\nCALL\t3\t2\nCALL\t4\t1\n"

-- as the recipe office writes 250 cells and the cells 100 and 120
abbrev pub job_office : String
job_office = "FLOOR\t25e1\nTRACK\t1E+2\t12e1\nCART\t10e1\nCALL\t120e0\t1e0\n"

-- the cart on cell 0 parks, and the spare one can neither pass it nor take its place
abbrev pub job_spare : String
job_spare = "FLOOR\t2\nTRACK\t0\t1\nCART\t0\nCART\t1\nBAY\t0\t1\n"

-- Where the cart on cell 0 goes to the lift on cell 2, the one on cell 1 has to make way, to cell 3.
abbrev pub job_aside : String
job_aside = "FLOOR\t4\nTRACK\t0\t1\nTRACK\t1\t2\nTRACK\t1\t3\nCART\t0\nCART\t1\nCALL\t2\t2\n"

-- The bay's cell is closed at the last step, which comes with the lift on cell 3.
abbrev pub job_shut : String
job_shut = "FLOOR\t4\nTRACK\t0\t1\nTRACK\t1\t2\nCART\t0\nCART\t1\nCART\t3\nBAY\t1\t1\nCALL\t3\t2\n"

abbrev pub job_spares : String
job_spares = "FLOOR\t2\nCART\t1\nCART\t0\n"

abbrev pub map_of_four : String
map_of_four = "type octile\nheight 2\nwidth 2\nmap\n..\nGG\n"

abbrev pub floor_of_four : String
floor_of_four = "FLOOR\t4\nTRACK\t0\t1\nTRACK\t0\t2\nTRACK\t1\t3\nTRACK\t2\t3\n"

abbrev pub big : ℕ
big = 65536

-- the text n times over
abbrev pub times : ℕ → String → String
times zero s = S.[]
times (suc n) s = S.◌++◌ s (times n s)

-- the plan of job E with a path of n cells
abbrev pub plan_of_e : ℕ → String
plan_of_e n = S.◌++◌ "PLAN\t1\nPATH\t0\t0" (S.◌++◌ (times n "\t0") "\n")

abbrev pub filed : List Row
filed =
    plans job_a big big (wrote 0 "PLAN\t2\nPATH\t0\t1\t0\t1\nPATH\t1\t0\t1\t2\n")
    ∷ checks job_a big "PLAN\t2\nPATH\t1\t0\t1\t2\nPATH\t0\t1\t0\t1\n" 12
    ∷ plans job_b big big (wrote 1 "CANNOT\t1\nCHOKE\t1\t0\n")
    ∷ plans "FLOOR\t1\n" big big (wrote 0 "PLAN\t0\n")
    ∷ plans job_d big big (wrote 0 "PLAN\t1\nPATH\t0\t0\t0\n")
    ∷ plans job_d 4128 big (wrote 0 "PLAN\t1\nPATH\t0\t0\t0\n")
    ∷ plans job_d 4127 big (refuses 9 0)
    ∷ allows job_e big big (wrote 0 (plan_of_e 1))
    ∷ checks job_e big (plan_of_e 256) 0
    ∷ checks job_e big (plan_of_e 1) 0
    ∷ allows job_f big big (wrote 0 "PLAN\t2\nPATH\t0\t0\t0\t0\nPATH\t1\t1\t1\t1\n")
    ∷ checks job_f big "PLAN\t2\nPATH\t1\t0\t1\t0\nPATH\t0\t1\t0\t1\n" 12
    ∷ plans "FLOOR\t2\nCART\t0\nCALL\t1\t5\n" big big (wrote 1 "CANNOT\t0\n")
    ∷ plans "" big big (refuses 3 1)
    ∷ plans "FLOOR\t1\nTRACK\t0\t0\n" big big (refuses 7 2)
    ∷ plans "FLOOR\t1\nCALL\t0\t0\n" big big (refuses 8 0)
    ∷ plans "FLOOR\t1\nCART\t0\n" big big (wrote 0 "PLAN\t0\nSPARE\t0\t0\n")
    ∷ plans "FLOOR\t2\nTRACK\t0\t1\nCART\t0\nBAY\t1\t1\n" big big (wrote 0 "PLAN\t1\nPATH\t0\t0\t0\t1\n")
    ∷ plans job_bay big big (wrote 0 "PLAN\t2\nPATH\t1\t0\t4\t3\t1\nPATH\t0\t1\t0\t1\t2\n")
    ∷ plans job_closed big big (wrote 1 "CANNOT\t1\nCHOKE\t1\t0\n")
    ∷ plans job_unclosed big big (wrote 0 "PLAN\t2\nPATH\t1\t0\t1\nPATH\t0\t1\t0\t1\t2\n")
    ∷ plans job_whole big big (wrote 1 "CANNOT\t1\nCHOKE\tCALL\t0\n")
    ∷ allows job_early big big (wrote 0 "PLAN\t4\nPATH\t3\t1\t0\nPATH\t1\t3\t1\t4\nPATH\t0\t0\t5\t0\t2\nPATH\t2\t2\t4\t2\t3\n")
    ∷ checks job_early big "CANNOT\t3\nCHOKE\t0\t1\nCHOKE\t2\t1\nCHOKE\t4\t1\n" 12
    ∷ plans "FLOOR\t1\nCART\t0\nBAY\t0\t1\nCALL\t0\t2\n" big big (refuses 7 4)
    ∷ plans "FLOOR\t2\nCART\t0\nBAY\t0\t1\nCART\t1\n" big big (refuses 3 4)
    ∷ plans job_office big big (wrote 0 "PLAN\t1\nPATH\t0\t0\t100\t120\n")
    ∷ checks job_office big "PLAN\t1\nPATH\t0\t0\t10e1\t120\n" (11 + 256 * 2)
    ∷ plans "FLOOR\t999e9\n" big big (refuses 5 1)
    ∷ plans "FLOOR\t1\nCART\t1e0\n" big big (refuses 5 2)
    ∷ plans job_spare big big (wrote 0 "PLAN\t1\nPATH\t0\t0\t0\t0\nSPARE\t1\t1\t1\n")
    ∷ checks job_aside big "PLAN\t1\nPATH\t0\t0\t0\t1\t2\nSPARE\t1\t1\t1\t1\n" 12
    ∷ checks job_aside big "PLAN\t1\nPATH\t0\t0\t0\t1\t2\nSPARE\t1\t1\t3\t3\n" 0
    ∷ allows job_shut big big (wrote 0 "PLAN\t2\nPATH\t0\t0\t0\t1\nPATH\t2\t1\t3\nSPARE\t1\t1\t2\t2\n")
    ∷ checks job_shut big "PLAN\t2\nPATH\t1\t0\t1\t1\nPATH\t2\t1\t3\nSPARE\t0\t0\t0\t1\n" 12
    ∷ plans "FLOOR\t3\nTRACK\t0\t1\nCART\t0\nCART\t1\nCALL\t2\t1\n" big big (wrote 1 "CANNOT\t0\n")
    ∷ plans job_spares big big (wrote 0 "PLAN\t0\nSPARE\t0\t1\nSPARE\t1\t0\n")
    ∷ checks job_spares big "PLAN\t0\nSPARE\t1\t0\nSPARE\t0\t1\n" 12
    ∷ checks job_spare big "PLAN\t1\nPATH\t0\t0\t0\t0\nSPARE\t1\t1\n" (11 + 256 * 3)
    ∷ checks job_spare big "PLAN\t1\nPATH\t0\t0\t0\t0\n" (11 + 256 * 3)
    ∷ maps "type octile\nheight 1\nwidth 1\nmap\n.\n" big (wrote 0 "FLOOR\t1\n")
    ∷ maps map_of_four big (wrote 0 floor_of_four)
    ∷ maps map_of_four 48 (wrote 0 floor_of_four)
    ∷ maps map_of_four 47 (refuses 10 0)
    ∷ maps "type octile\nheight 2\nwidth 2\nmap\n.@\n.G\n" big (wrote 0 "FLOOR\t3\nTRACK\t0\t1\nTRACK\t1\t2\n")
    ∷ maps "type octile\nheight 1\nwidth 3\nmap\nTTT\n" big (refuses 14 0)
    ∷ maps "type octile\nheight 2\nwidth 2\nmap\n..\n.S\n" big (refuses 13 6)
    ∷ maps "type octile\nheight 2\nwidth 2\nmap\n..\n" big (refuses 13 6)
    ∷ maps "type octile\nheight 1\nwidth 2\nmap\n..\n..\n" big (refuses 13 6)
    ∷ []
