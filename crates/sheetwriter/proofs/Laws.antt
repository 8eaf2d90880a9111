-- No line of a sheet is longer than its share of the least length of a sheet. Assumes nothing.
use Prim.Native.Nat.{ℕ, zero, suc, ◌+◌, ◌-◌, ◌*◌, ◌≤◌, ◌<◌}
use mathlib.Core.Path.{◌≡◌, refl, sym, ap, ◌∙◌}
use mathlib.Core.List.{List, [], ◌∷◌, ◌++◌}
use mathlib.Core.Bool.{Bool, true, false, ◌&&◌}
use native.Mathlib.Omega.{arith}
use native.Mathlib.Nat.{add-mul, one-mul}
use lib.Dec.{ltb, eqb}
use lib.ListN.{length, get_or, take, drop, length-append, length-take, length-drop}
use borrow.Author.Tests.{ltb-true, ltb-false, eqb-true}
use Rattle.std.proofs.lemmas.List.{get_or-take, get_or-drop}
use Rattle.model.specs.Lists.{In}
use Rattle.model.specs.Text.{fields, line, path_word, spare_word, choke_word, whole_word}
use Rattle.model.specs.Job.{Job, Call, lift, call, call_of, latest, horizon}
use Rattle.model.specs.Plan as plan
use Rattle.model.specs.Plan.{Path}
use Rattle.model.specs.Choke.{Choke, cell_step, whole_call}
use Rattle.model.specs.SheetText.{choke_opens, choke_numbers}
use Rattle.model.specs.ReadSheet.{size_fits, known_path, known_spare, all_below}
use Rattle.model.proofs.Basics.{and_left, and_right}
use Rattle.model.proofs.Floor.{fits_time, time_due}
use Rattle.model.proofs.Room.{numeral_short, line_room}
use Rattle.text.proofs.Wrote.{line_of, pair_room}
use Rattle.job.specs.declared.held.Ride.{Ride}
use Rattle.job.specs.Held.{as_path, as_ride, paths_to, spares_from}
use Rattle.job.proofs.Lists.{in_mapped}
use Rattle.sheetwriter.specs.Lines.{opening, ride_line}

-- The room for n pieces of at most b bytes, of which k are written up to p.
module _ (b k n p l : ℕ) (h : k < n) (room : p + (n - k) * b ≤ l) where
  apart : (n - k) * b ≡ (n - (k + 1)) * b + b
  apart =
      let e : n - k ≡ (n - (k + 1)) + 1 = omega arith in
      rw (e, add-mul, one-mul) refl

  pub room_one : p + b ≤ l
  room_one = omega (arith, apart)

  pub room_rest : (r : ℕ) → r ≤ p + b → r + (n - (k + 1)) * b ≤ l
  room_rest r i = omega (arith, apart)

-- a deadline is no later than the last step
latest_most : (l : List Call) (k : ℕ) → (get_or l k (call lift 0 0)).deadline ≤ latest l
latest_most [] k = omega arith
latest_most (q ∷ l) zero = omega arith
latest_most (q ∷ l) (suc k) = omega (arith, latest_most l k)

-- The least length of a sheet, by what is written: a share a cart.
abbrev pub share : Job → ℕ
share j = 4 * (horizon j + 1) + 16

pub choke_short : (x : Choke) → length (line (choke_opens x) (choke_numbers x)) ≤ 15
choke_short (cell_step x) = omega (arith, line_room choke_word (x.cell ∷ x.step ∷ []))
choke_short (whole_call k) = omega (arith, line_room whole_word (k ∷ []))

-- A PATH or SPARE line by its opening.
pub opening_short : (t : Bool) (r : Ride) → length (opening t r) ≤ 12
opening_short true r = pair_room path_word r.cart r.call
opening_short false r = simp length-append (omega (arith, numeral_short r.cart))

pub opening_line : (t : Bool) (r : Ride) → opening t r ++ (fields (as_ride r).cells ++ (10 ∷ [])) ≡ ride_line t r
opening_line true r = line_of path_word (r.cart ∷ r.call ∷ []) (as_ride r).cells
opening_line false r = line_of spare_word (r.cart ∷ []) (as_ride r).cells

pub ride_short : (t : Bool) (r : Ride) → length (ride_line t r) ≤ 4 * length (as_ride r).cells + 14
ride_short true r = omega (arith, line_room path_word (r.cart ∷ r.call ∷ (as_ride r).cells))
ride_short false r = omega (arith, line_room spare_word (r.cart ∷ (as_ride r).cells))

-- Ride k is no longer than up to the last step, since a known path has a cell for each step up to one at which its call is met, and a known spare cart one
-- for each step up to the last.
module _ (j : Job) (rides : List Ride) (known : (p : Path) → In p (paths_to rides (length j.calls)) → known_path j p ≡ true)
    (spare : (s : plan.Ride) → In s (spares_from rides (length j.calls)) → known_spare j s ≡ true) (k : ℕ) (h : k < length rides) (d : Ride) where
  abbrev r : Ride
  r = get_or rides k d

  path_short : k < length j.calls → length (as_ride r).cells ≤ horizon j + 1
  path_short i =
      let p = as_path r in
      let a = ltb p.cart (length j.carts) in
      let b = ltb p.call (length j.calls) in
      let q = call_of j p.call in
      let c = size_fits q.kind q.deadline (length p.cells) in
      let n = length j.calls in
      let at : get_or (take n rides) k d ≡ r = get_or-take n rides k d i in
      let w : known_path j p ≡ true = known p ((in_mapped as_path (take n rides) d p).1 (k, omega (arith, length-take {A = Ride}), ap as_path (sym at))) in
      let (last, m, t) = fits_time q.kind q.deadline (length p.cells) (and_right (a && b) c (and_left (a && b && c) (all_below j.cells p.cells) w)) in
      omega (arith, m, time_due q.kind q.deadline last t, latest_most j.calls p.call)

  spare_short : length j.calls ≤ k → length (as_ride r).cells ≤ horizon j + 1
  spare_short i =
      let s = as_ride r in
      let n = length j.calls in
      let e : n + (k - n) ≡ k = omega arith in
      let at : get_or (drop n rides) (k - n) d ≡ r = get_or-drop n rides (k - n) d ∙ ap (λ x. get_or rides x d) e in
      let w : known_spare j s ≡ true = spare s ((in_mapped as_ride (drop n rides) d s).1 (k - n, omega (arith, length-drop {A = Ride}), ap as_ride (sym at))) in
      let a = ltb s.cart (length j.carts) in
      let b = eqb (length s.cells) (suc (horizon j)) in
      omega (arith, eqb-true (length s.cells) (suc (horizon j)) (and_right a b (and_left (a && b) (all_below j.cells s.cells) w)))

  pub cells_short : length (as_ride r).cells ≤ horizon j + 1
  cells_short = go (ltb k (length j.calls)) refl
    where
      go : (t : Bool) → ltb k (length j.calls) ≡ t → length (as_ride r).cells ≤ horizon j + 1
      go true q = path_short (ltb-true _ _ q)
      go false q = spare_short (ltb-false _ _ q)
