-- The lines of a plan as they are written one after the other: those of the first n rides are PATH lines. Assumes nothing.
use Prim.Native.Nat.{ℕ, zero, suc, ◌+◌, ◌-◌, ◌≤◌, ◌<◌}
use mathlib.Core.Path.{◌≡◌, refl, sym, ap, ◌∙◌}
use mathlib.Core.List.{List, [], ◌∷◌, ◌++◌, append_assoc, append-nil}
use mathlib.Core.Bool.{Bool, true, false}
use native.Mathlib.Omega.{arith}
use lib.Dec.{ltb}
use lib.ListN.{length, get_or, take, drop}
use lib.Seq.{length-take-le}
use borrow.Author.Tests.{ltb-true, ltb-false}
use Rattle.std.specs.Prelude.{map}
use Rattle.std.proofs.lemmas.List.{length-map}
use Rattle.model.specs.Text.{line, plan_word, path_word, spare_word}
use Rattle.model.specs.SheetText.{lines_text, path_numbers, spare_numbers, plan_text}
use Rattle.job.specs.declared.held.Ride.{Ride}
use Rattle.job.specs.Held.{as_path, as_ride, paths_to, spares_from}
use Rattle.sheetwriter.specs.Lines.{ride_line}

-- what stands behind the end of a list
abbrev pub no_ride : Ride
no_ride = record { cart = 0; call = 0; last = 0; cells = [] }

-- the lines of rides, the first of which has the number k
abbrev pub lines_from : ℕ → ℕ → List Ride → List ℕ
lines_from n k [] = []
lines_from n k (r ∷ rs) = ride_line (ltb k n) r ++ lines_from n (suc k) rs

pub lines_more : (n : ℕ) (rs : List Ride) (k : ℕ) (d : Ride) (m : ℕ) → k < length rs
    → lines_from n m (take (k + 1) rs) ≡ lines_from n m (take k rs) ++ ride_line (ltb (m + k) n) (get_or rs k d)
lines_more n [] k d m h = absurd (omega arith)
lines_more n (r ∷ rs) zero d m h = let e : m + 0 ≡ m = omega arith in rw (e, append-nil (ride_line (ltb m n) r))
lines_more n (r ∷ rs) (suc k) d m h =
    let e : suc m + k ≡ m + suc k = omega arith in
    let f : k + 1 ≡ suc k = omega arith in
    let ih : lines_from n (suc m) (take (suc k) rs) ≡ lines_from n (suc m) (take k rs) ++ ride_line (ltb (m + suc k) n) (get_or rs k d) = rw (f, e) at (lines_more n rs k d (suc m) (omega arith)) in
    let g : suc k + 1 ≡ suc (suc k) = omega arith in
    rw g (ap (λ l. ride_line (ltb m n) r ++ l) ih ∙ sym (append_assoc (ride_line (ltb m n) r) (lines_from n (suc m) (take k rs)) (ride_line (ltb (m + suc k) n) (get_or rs k d))))

abbrev pub paths_text : List Ride → List ℕ
paths_text rs = lines_text (λ p. path_word) path_numbers (map as_path rs)

abbrev pub spares_text : List Ride → List ℕ
spares_text rs = lines_text (λ s. spare_word) spare_numbers (map as_ride rs)

pub lines_all : (n : ℕ) (rs : List Ride) (k : ℕ) → lines_from n k rs ≡ paths_text (take (n - k) rs) ++ spares_text (drop (n - k) rs)
lines_all n [] k = go (n - k)
  where
    go : (m : ℕ) → [] ≡ paths_text (take m []) ++ spares_text (drop m [])
    go zero = refl
    go (suc m) = refl
lines_all n (r ∷ rs) k = go (ltb k n) refl (lines_all n rs (suc k))
  where
    go : (t : Bool) → ltb k n ≡ t → lines_from n (suc k) rs ≡ paths_text (take (n - suc k) rs) ++ spares_text (drop (n - suc k) rs)
        → ride_line (ltb k n) r ++ lines_from n (suc k) rs ≡ paths_text (take (n - k) (r ∷ rs)) ++ spares_text (drop (n - k) (r ∷ rs))
    go true q ih =
        let h : k < n = ltb-true _ _ q in
        let e : n - k ≡ suc (n - suc k) = omega arith in
        rw (q, e, ih) (sym (append_assoc (ride_line true r) (paths_text (take (n - suc k) rs)) (spares_text (drop (n - suc k) rs))))
    go false q ih =
        let h : n ≤ k = ltb-false _ _ q in
        let e : n - k ≡ 0 = omega arith in
        let f : n - suc k ≡ 0 = omega arith in
        rw (q, e, ih, f)

-- behind their head
pub plan_lines : (n : ℕ) (rs : List Ride) → n ≤ length rs → line plan_word (n ∷ []) ++ lines_from n 0 rs ≡ plan_text (paths_to rs n) (spares_from rs n)
plan_lines n rs h =
    let e : length (paths_to rs n) ≡ n = length-map (take n rs) as_path ∙ length-take-le n rs h in
    let f : n - 0 ≡ n = omega arith in
    rw (e, lines_all n rs 0, f)
