-- A turn of a loop over lines of one kind: k of them are read, n is where k ends, the first has the number `first`, and `rest` is what is left of the
-- sheet. The loop goes on where the line is good; it stops at one that is missing, not ended or not good. Assumes nothing.
use Prim.Native.Nat.{ℕ, suc, ◌+◌, ◌-◌, ◌<◌}
use mathlib.Core.Path.{◌≡◌, refl, sym, ap, ◌∙◌}
use mathlib.Core.List.{List, [], ◌∷◌, ◌++◌}
use mathlib.Core.Option.{Option, none, some}
use mathlib.Core.Bool.{Bool, true, false}
use native.Mathlib.Omega.{arith}
use Rattle.model.specs.Text.{Lines, lines_of}
use Rattle.model.specs.FirstBad.{lines_due, no_more}
use Rattle.model.specs.ReadJob.{is_empty}
use Rattle.model.specs.ReadSheet.{Sheet, bad}
use Rattle.text.specs.Scan.{line_of}
use Rattle.text.proofs.LineLaws.{lines_end, lines_left, lines_next}

-- What the rest says after the lines that gave `got` is `out`, which all of them say.
pub record Left {A : Type 0} (say : List ℕ → Option A) (on : List A → ℕ → Lines → Sheet) (n first : ℕ) (out : Sheet) (got : List A) (rest : List ℕ) (k : ℕ) : Type 0 where
  pub says : lines_due bad say on got (n - k) (first + k) (lines_of rest) ≡ out

-- with no line after them
abbrev pub ends : {A : Type 0} → (List A → Sheet) → List A → ℕ → Lines → Sheet
ends all l = no_more bad (all l)

-- where a line has no end it is missing, or cut
no_line : {A : Type 0} (say : List ℕ → Option A) (on : List A → ℕ → Lines → Sheet) (got : List A) (m k : ℕ) (rest : List ℕ) → line_of rest ≡ rest
    → lines_due bad say on got (suc m) k (lines_of rest) ≡ bad k
no_line say on got m k rest e = go (is_empty rest) refl
  where
    go : (t : Bool) → is_empty rest ≡ t → lines_due bad say on got (suc m) k (lines_of rest) ≡ bad k
    go true q = ap (lines_due bad say on got (suc m) k) (lines_end rest q)
    go false q = ap (lines_due bad say on got (suc m) k) (lines_left rest q e)

module _ {A : Type 0} {say : List ℕ → Option A} {on : List A → ℕ → Lines → Sheet} {n first : ℕ} {out : Sheet} {got : List A} {rest : List ℕ} {k : ℕ}
    (left : Left say on n first out got rest k) where
  by_count : (m : ℕ) → n - k ≡ m → lines_due bad say on got m (first + k) (lines_of rest) ≡ out
  by_count m e = ap (λ x. lines_due bad say on got x (first + k) (lines_of rest)) (sym e) ∙ left.says

  module _ (room : k < n) where
    one_left : lines_due bad say on got (suc (n - (k + 1))) (first + k) (lines_of rest) ≡ out
    one_left = by_count (suc (n - (k + 1))) (omega arith)

    pub turn_cut : line_of rest ≡ rest → bad (first + k) ≡ out
    turn_cut e = sym (no_line say on got (n - (k + 1)) (first + k) rest e) ∙ one_left

    module _ (line rest' : List ℕ) (taken : (line ≡ line_of rest) × (rest ≡ line ++ (10 ∷ rest'))) where
      pub turn_bad : none ≡ say line → bad (first + k) ≡ out
      turn_bad f = sym go ∙ one_left
        where
          go : lines_due bad say on got (suc (n - (k + 1))) (first + k) (lines_of rest) ≡ bad (first + k)
          go = rw (lines_next rest line rest' taken, ← f)

      pub turn_good : {a : A} {got' : List A} → some a ≡ say line → got' ≡ got ++ (a ∷ []) → Left say on n first out got' rest' (k + 1)
      turn_good {a} {got'} f g = record { says = go ∙ one_left }
        where
          go : lines_due bad say on got' (n - (k + 1)) (first + (k + 1)) (lines_of rest') ≡ lines_due bad say on got (suc (n - (k + 1))) (first + k) (lines_of rest)
          go = let e : first + (k + 1) ≡ first + k + 1 = omega arith in rw (lines_next rest line rest' taken, ← f, g, e)
