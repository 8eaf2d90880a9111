-- What the parts of the sheet's reader answer: of the fields of a line, of a line, of the lines after the first.
use Rattle.std.specs.Prelude.{ℕ, ◌+◌, List, [], ◌∷◌, cond, ◌&&◌, ltb, leb, length, take, drop, Option, Some, None, Result, Ok, Err}
use Rattle.std.proofs.Math.Option as math
use Rattle.std.proofs.Math.Option.{none, some}
use Rattle.model.specs.Job as model
use Rattle.model.specs.Choke as model_choke
use Rattle.model.specs.Text.{fields_of, numbers_of, starts_with}
use Rattle.model.specs.ReadSheet.{Sheet, bad, cannot, all_below, size_fits}
use Rattle.text.specs.declared.Number.{Number}
use Rattle.text.specs.Scan.{number_at}
use Rattle.job.specs.declared.held.Choke.{Choke}
use Rattle.job.specs.Held.{as_choke, as_chokes}
use Rattle.job.specs.Items.{Items}
use Rattle.sheet.specs.declared.BadLine.{BadLine}

-- an answer as the model has it
abbrev pub as_read : {A : Type 0} → Option A → math.Option A
as_read None = none
as_read (Some x) = some x

-- what was read, if anything was
abbrev pub if_read : {A : Type 0} → Option Unit → A → math.Option A
if_read None x = none
if_read (Some u) x = some x

abbrev pub choke_read : Option Choke → math.Option model_choke.Choke
choke_read None = none
choke_read (Some x) = some (as_choke x)

-- the number behind a word with its tab, with the place after it
abbrev pub number_past : List ℕ → List ℕ → Option Number
number_past word l = cond (starts_with word l) (number_at l (length word)) None

-- the numbers of the fields that start at an index
abbrev pub numbers_at : List ℕ → ℕ → math.Option (List ℕ)
numbers_at s at = numbers_of (fields_of (drop at s))

-- the numbers behind a word with its tab, if the line opens with them
abbrev pub numbers_past : List ℕ → List ℕ → math.Option (List ℕ)
numbers_past word l = cond (starts_with word l) (numbers_at l (length word)) none

-- the only number, if there is one and no other
abbrev pub only_of : math.Option (List ℕ) → math.Option ℕ
only_of none = none
only_of (some []) = none
only_of (some (n ∷ [])) = some n
only_of (some (n ∷ m ∷ ns)) = none

-- the numbers after a field that ends at `next`
abbrev pub behind : List ℕ → ℕ → math.Option (List ℕ)
behind s next = cond (ltb next (length s)) (numbers_at s (next + 1)) (some [])

-- numbers below `limit`, one at least and `most` of them at most, and no others
abbrev pub cells_given : ℕ → ℕ → math.Option (List ℕ) → math.Option (List ℕ)
cells_given limit most none = none
cells_given limit most (some []) = none
cells_given limit most (some (n ∷ ns)) = cond (leb (length (n ∷ ns)) most && all_below limit (n ∷ ns)) (some (n ∷ ns)) none

-- the cells by their number
abbrev pub cells_read : Option ℕ → List ℕ → math.Option (List ℕ)
cells_read None l = none
cells_read (Some n) l = some (take n l)

-- the cells of a ride, if they are cells of the floor, and as many as a path to a call of this kind and deadline can have
abbrev pub cells_fit : model.Job → model.CallKind → ℕ → math.Option (List ℕ) → math.Option (List ℕ)
cells_fit j kind deadline none = none
cells_fit j kind deadline (some ws) = cond (size_fits kind deadline (length ws) && all_below j.cells ws) (some ws) none

-- a number, if it is below the limit
abbrev pub if_below : ℕ → math.Option ℕ → math.Option ℕ
if_below limit none = none
if_below limit (some n) = cond (ltb n limit) (some n) none

-- what the lines after the first say: a sheet, unless one of them is bad
abbrev pub unless_bad : {A : Type 0} → Result A BadLine → Sheet → Sheet
unless_bad (Ok x) sheet = sheet
unless_bad (Err e) sheet = bad e.line

abbrev pub chokes_read : Result (Items Choke) BadLine → Sheet
chokes_read (Ok xs) = cannot (as_chokes xs.items)
chokes_read (Err e) = bad e.line
