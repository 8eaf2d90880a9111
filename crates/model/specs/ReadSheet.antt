-- What a sheet says: paths and walks of spare carts, or choke points, in the written form of a job, or the first bad line.
use Rattle.std.specs.Prelude.{ℕ, suc, ◌-◌, List, [], ◌∷◌, Bool, true, false, cond, ◌&&◌, ltb, leb, eqb, length}
use Rattle.std.proofs.Math.Option.{Option, none, some}
use Rattle.model.specs.Job.{Job, CallKind, lift, bay, call_of, horizon}
use Rattle.model.specs.Plan.{Path, Ride}
use Rattle.model.specs.Choke.{Point, Choke, cell_step, whole_call}
use Rattle.model.specs.FirstBad.{lines_due, rest_says}
use Rattle.model.specs.Text.{Lines, done, cut, more, lines_of, numbers_of, opens, after, plan_word, path_word, spare_word, cannot_word, choke_word, whole_word}

pub data Sheet : Type 0 where
  bad : (line : ℕ) → Sheet
  plan : List Path → List Ride → Sheet
  cannot : List Choke → Sheet

-- the numbers behind a word, if the line opens with it
abbrev pub numbers_after : List ℕ → List ℕ → Option (List ℕ)
numbers_after word l = cond (opens word l) (numbers_of (after word l)) none

abbrev pub all_below : ℕ → List ℕ → Bool
all_below n [] = true
all_below n (a ∷ l) = ltb a n && all_below n l

-- as many cells as a path can have to a call of this kind and deadline: one or more up to deadline + 1, to a bay just these
abbrev pub size_fits : CallKind → ℕ → ℕ → Bool
size_fits lift d n = ltb 0 n && leb n (suc d)
size_fits bay d n = eqb n (suc d)

-- PATH: a known cart, a known call, as many known cells as fit it
abbrev pub known_path : Job → Path → Bool
known_path j p =
    ltb p.cart (length j.carts) && ltb p.call (length j.calls)
    && size_fits (call_of j p.call).kind (call_of j p.call).deadline (length p.cells) && all_below j.cells p.cells

abbrev pub path_of : Job → Option (List ℕ) → Option Path
path_of j none = none
path_of j (some []) = none
path_of j (some (a ∷ [])) = none
path_of j (some (a ∷ b ∷ ws)) = let p : Path = record { cart = a; call = b; cells = ws } in cond (known_path j p) (some p) none

-- SPARE: a known cart, and known cells from step 0 to H
abbrev pub known_spare : Job → Ride → Bool
known_spare j s = ltb s.cart (length j.carts) && eqb (length s.cells) (suc (horizon j)) && all_below j.cells s.cells

abbrev pub spare_of : Job → Option (List ℕ) → Option Ride
spare_of j none = none
spare_of j (some []) = none
spare_of j (some (a ∷ ws)) = let s : Ride = record { cart = a; cells = ws } in cond (known_spare j s) (some s) none

-- CHOKE: a known cell, a step from 0 to H
abbrev pub known_point : Job → Point → Bool
known_point j x = ltb x.cell j.cells && leb x.step (horizon j)

abbrev pub point_of : Job → Option (List ℕ) → Option Choke
point_of j none = none
point_of j (some []) = none
point_of j (some (a ∷ [])) = none
point_of j (some (a ∷ b ∷ [])) = let x : Point = record { cell = a; step = b } in cond (known_point j x) (some (cell_step x)) none
point_of j (some (a ∷ b ∷ c ∷ ns)) = none

-- CHOKE CALL: a known call that is no bay
abbrev pub is_lift : CallKind → Bool
is_lift lift = true
is_lift bay = false

abbrev pub known_whole : Job → ℕ → Bool
known_whole j k = ltb k (length j.calls) && is_lift (call_of j k).kind

abbrev pub whole_of : Job → Option (List ℕ) → Option Choke
whole_of j none = none
whole_of j (some []) = none
whole_of j (some (k ∷ [])) = cond (known_whole j k) (some (whole_call k)) none
whole_of j (some (k ∷ m ∷ ns)) = none

abbrev pub path_line : Job → List ℕ → Option Path
path_line j l = path_of j (numbers_after path_word l)

abbrev pub spare_line : Job → List ℕ → Option Ride
spare_line j l = spare_of j (numbers_after spare_word l)

abbrev pub choke_line : Job → List ℕ → Option Choke
choke_line j l = cond (opens whole_word l) (whole_of j (numbers_of (after whole_word l))) (point_of j (numbers_after choke_word l))

-- the first line: one number, which is right, and the rest by it
abbrev pub count_says : (ℕ → Bool) → (ℕ → Sheet) → Option (List ℕ) → Sheet
count_says is_right rest none = bad 1
count_says is_right rest (some []) = bad 1
count_says is_right rest (some (n ∷ [])) = cond (is_right n) (rest n) (bad 1)
count_says is_right rest (some (n ∷ m ∷ ns)) = bad 1

-- behind the PATH lines, one SPARE line for each cart that is left
abbrev pub spares_say : Job → List Path → ℕ → Lines → Sheet
spares_say j ps n ls = rest_says bad (spare_line j) (plan ps) [] (length j.carts - length j.calls) n ls

-- PLAN has the number of calls, CANNOT a number below it
abbrev pub head_says : Job → Lines → Sheet
head_says j done = bad 1
head_says j cut = bad 1
head_says j (more l ls) = cond (opens plan_word l)
    (count_says (λ n. eqb n (length j.calls)) (λ n. lines_due bad (path_line j) (spares_say j) [] n 2 ls) (numbers_after plan_word l))
    (count_says (λ n. ltb n (length j.calls)) (λ n. rest_says bad (choke_line j) cannot [] n 2 ls) (numbers_after cannot_word l))

unfoldable pub read_sheet : Job → List ℕ → Sheet
read_sheet j s = head_says j (lines_of s)
