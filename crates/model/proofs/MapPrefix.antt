-- A map has at most 4,195 bytes: lines of at most 12, 10, 9 and 4 bytes with their LF, then at most 64 rows of at most 64 letters and LF. And the first 4,196 bytes of a text decide what
-- all of it says. Both come from one fact (`TooLong`): among so many bytes there is a bad line, and what follows them does not change its number. It is shown line by line. A line that is
-- due has at most so many bytes: if no LF is among these, the line is bad however it goes on; else what is left is too long for what is due behind the line. Assumes nothing.
use Prim.Native.Nat.{ℕ, zero, suc, ◌+◌, ◌*◌, ◌≤◌, ◌<◌}
use mathlib.Core.Path.{◌≡◌, refl, sym, ap, ◌∙◌}
use mathlib.Core.List.{List, [], ◌∷◌, ◌++◌, append-nil}
use mathlib.Core.Option.{Option, none, some}
use mathlib.Core.Bool.{Bool, true, false, cond, ◌&&◌}
use native.Mathlib.Omega.{arith}
use native.Mathlib.Nat.{mul-suc}
use lib.Dec.{eqb, ltb, leb}
use lib.ListN.{length, take, drop, length-drop, take-append-drop, drop_of_length-le}
use lib.Seq.{length-take-le}
use borrow.Author.Tests.{leb-true, eqb-true}
use Rattle.model.specs.Bytes.{bytes}
use Rattle.model.specs.Limits.{max_side}
use Rattle.model.specs.Text.{Lines, done, cut, more, on_first, with_byte, lines_of, starts_with, number_of, numeral}
use Rattle.model.specs.FirstBad.{or_bad, line_due, rest_says}
use Rattle.model.specs.GridMap.{Drawn, bad, drawn, all_letters, word_line, size_of, size_line, row_line, read_map, floor_text, map_verdict}
use Rattle.model.proofs.Basics.{nope, and_left, and_right}
use Rattle.model.proofs.Decide.{decided, dec_le, all-below}
use Rattle.model.proofs.Read.{cond_some, number_back}

-- The first line of a text that begins with h, whatever follows: it is a whole line of h, or h only begins it, and it is no shorter than h.
data Start (h : List ℕ) : Type 0 where
  whole : (l r : List ℕ) → length h ≡ length l + 1 + length r → ((t : List ℕ) → lines_of (h ++ t) ≡ more l (lines_of (r ++ t))) → Start h
  begun : ((t l : List ℕ) (ls : Lines) → lines_of (h ++ t) ≡ more l ls → length h ≤ length l) → Start h

start : (h : List ℕ) → Start h
start [] = begun (λ t l ls e. omega arith)
start (b ∷ h) = go (eqb b 10) refl (start h)
  where
    go : (u : Bool) → eqb b 10 ≡ u → Start h → Start (b ∷ h)
    go true q x = whole [] h (omega arith) (λ t. rw q)
    go false q (whole l r k e) = whole (b ∷ l) r (omega arith) (λ t. ap (with_byte b) (e t) ∙ rw q)
    go false q (begun k) = begun (λ t l ls e. by t l (lines_of (h ++ t)) refl (rw q at e))
      where
        by : (t l : List ℕ) {ls : Lines} (x : Lines) → lines_of (h ++ t) ≡ x → on_first b x ≡ more l ls → suc (length h) ≤ length l
        by t l done f e = nope (cc)
        by t l cut f e = nope (cc)
        by t l (more m ms) f e = let g : b ∷ m ≡ l = cc in omega (arith, k t m ms f, ap length g)

module _ {R : Type 0} (bad : ℕ → R) where
  -- Texts of n bytes or more are bad, at a line that these bytes decide.
  abbrev TooLong : ℕ → (Lines → R) → Type 0
  TooLong n f = (h : List ℕ) → n ≤ length h → (i : ℕ) × ((t : List ℕ) → f (lines_of (h ++ t)) ≡ bad i)

  -- A line of at most k bytes and its LF, then what n bytes are too long for.
  module _ {A : Type 0} (say : List ℕ → Option A) (on : A → Lines → R) (i k n : ℕ) (known : (l : List ℕ) (a : A) → say l ≡ some a → (length l ≤ k) × TooLong n (on a)) where
    line_long : TooLong (k + 1 + n) (λ ls. line_due bad say i ls on)
    line_long h c = go (start h)
      where
        go : Start h → (j : ℕ) × ((t : List ℕ) → line_due bad say i (lines_of (h ++ t)) on ≡ bad j)
        go (whole l r m e) = by (say l) refl
          where
            by : (o : Option A) → say l ≡ o → (j : ℕ) × ((t : List ℕ) → line_due bad say i (lines_of (h ++ t)) on ≡ bad j)
            by none q = (i, λ t. rw (e t, q))
            by (some a) q =
                let (short, then) = known l a q in
                let (j, f) = then r (omega arith) in
                (j, λ t. rw (e t, q) (f t))
        go (begun m) = (i, λ t. by (lines_of (h ++ t)) (m t))
          where
            by : (x : Lines) → ((l : List ℕ) (ls : Lines) → x ≡ more l ls → length h ≤ length l) → line_due bad say i x on ≡ bad i
            by done f = refl
            by cut f = refl
            by (more l ls) f = says (say l) refl
              where
                says : (o : Option A) → say l ≡ o → or_bad bad i o (λ a. on a ls) ≡ bad i
                says none q = refl
                says (some a) q = absurd (omega (arith, (known l a q).0, f l ls refl))

  -- k lines of at most w bytes each, and no other.
  module _ {A : Type 0} (say : List ℕ → Option A) (all : List A → R) (w : ℕ) (short : (l : List ℕ) (a : A) → say l ≡ some a → length l ≤ w) where
    rest_line : (got : List A) (k i : ℕ) (ls : Lines)
        → rest_says bad say all got (suc k) i ls ≡ line_due bad say i ls (λ a. rest_says bad say all (got ++ (a ∷ [])) k (i + 1))
    rest_line got k i done = refl
    rest_line got k i cut = refl
    rest_line got k i (more l ls) = refl

    rest_over : (got : List A) (i b : ℕ) (s : List ℕ) → rest_says bad say all got 0 i (lines_of (b ∷ s)) ≡ bad i
    rest_over got i b s = go (eqb b 10) (lines_of s)
      where
        go : (t : Bool) (x : Lines) → rest_says bad say all got 0 i (cond t (more [] x) (on_first b x)) ≡ bad i
        go true x = refl
        go false done = refl
        go false cut = refl
        go false (more l ls) = refl

    rest_long : (got : List A) (k i : ℕ) → TooLong ((w + 1) * k + 1) (rest_says bad say all got k i)
    rest_long got zero i [] c = absurd (omega arith)
    rest_long got zero i (b ∷ h) c = (i, λ t. rest_over got i b (h ++ t))
    rest_long got (suc k) i h c =
        let (j, f) = line_long say (λ a. rest_says bad say all (got ++ (a ∷ [])) k (i + 1)) i w ((w + 1) * k + 1)
        (λ l a e. (short l a e, rest_long (got ++ (a ∷ [])) k (i + 1))) h (omega (arith, mul-suc (w + 1) k)) in
        (j, λ t. rest_line got k i (lines_of (h ++ t)) ∙ f t)

-- The lines of a map, without their LF.
word_short : (word l a : List ℕ) → word_line word l ≡ some a → length l ≤ length word
word_short word l a e =
    let (f, _) = cond_some (starts_with word l && eqb (length l) (length word)) (some l) a e in
    omega (arith, eqb-true (length l) (length word) (and_right (starts_with word l) (eqb (length l) (length word)) f))

numeral_two : (n : ℕ) → n < 65 → length (numeral n) ≤ 2
numeral_two = decided (all-below (λ n. dec_le (length (numeral n)) 2) 65) tt

size_small : (o : Option ℕ) (n : ℕ) → size_of o ≡ some n → (o ≡ some n) × (n ≤ max_side)
size_small none n e = nope (cc)
size_small (some m) n e =
    let (f, g) = cond_some (ltb 0 m && leb m max_side) (some m) n e in
    let same : m ≡ n = cc in
    (g, omega (arith, leb-true m max_side (and_right (ltb 0 m) (leb m max_side) f)))

pub size_short : (word l : List ℕ) (n : ℕ) → size_line word l ≡ some n → (length l ≤ length word + 2) × (n ≤ max_side)
size_short word l n e =
    let (f, g) = cond_some (starts_with word l) (size_of (number_of (drop (length word) l))) n e in
    let (o, few) = size_small (number_of (drop (length word) l)) n g in
    let digits : length (drop (length word) l) ≡ length (numeral n) = ap length (number_back (drop (length word) l) n o) in
    (omega (arith, length-drop (length word) l, numeral_two n (omega arith)), few)

row_short : (w : ℕ) → w ≤ max_side → (l a : List ℕ) → row_line w l ≡ some a → length l ≤ max_side
row_short w few l a e =
    let (f, _) = cond_some (eqb (length l) w && all_letters l) (some l) a e in
    omega (arith, eqb-true (length l) w (and_left (eqb (length l) w) (all_letters l) f))

-- What is due from a line on, and how many bytes are too long for it.
abbrev rows_from : ℕ → ℕ → Lines → Drawn
rows_from h w ls = rest_says bad (row_line w) drawn [] h 5 ls

abbrev from_fourth : ℕ → ℕ → Lines → Drawn
from_fourth h w ls = line_due bad (word_line (bytes "map")) 4 ls (λ _ x. rows_from h w x)

abbrev from_third : ℕ → Lines → Drawn
from_third h ls = line_due bad (size_line (bytes "width ")) 3 ls (from_fourth h)

abbrev from_second : Lines → Drawn
from_second ls = line_due bad (size_line (bytes "height ")) 2 ls from_third

rows_long : (h w : ℕ) → h ≤ max_side → w ≤ max_side → TooLong bad 4161 (rows_from h w)
rows_long h w low narrow s c = rest_long bad (row_line w) drawn max_side (row_short w narrow) [] h 5 s (omega arith)

fourth_long : (h w : ℕ) → h ≤ max_side → w ≤ max_side → TooLong bad 4165 (from_fourth h w)
fourth_long h w low narrow =
    line_long bad (word_line (bytes "map")) (λ _ x. rows_from h w x) 4 3 4161 (λ l a e. (word_short (bytes "map") l a e, rows_long h w low narrow))

third_long : (h : ℕ) → h ≤ max_side → TooLong bad 4174 (from_third h)
third_long h low = line_long bad (size_line (bytes "width ")) (from_fourth h) 3 8 4165 λ l w e.
    let (short, narrow) = size_short (bytes "width ") l w e in
    (short, fourth_long h w low narrow)

second_long : TooLong bad 4184 from_second
second_long = line_long bad (size_line (bytes "height ")) from_third 2 9 4174 λ l h e.
    let (short, low) = size_short (bytes "height ") l h e in
    (short, third_long h low)

map_long : TooLong bad 4196 (λ ls. line_due bad (word_line (bytes "type octile")) 1 ls (λ _ x. from_second x))
map_long = line_long bad (word_line (bytes "type octile")) (λ _ x. from_second x) 1 11 4184 (λ l a e. (word_short (bytes "type octile") l a e, second_long))

-- So a text of 4,196 bytes or more is bad, and no byte behind them counts.
bytes_decide : (s : List ℕ) → 4196 ≤ length s → (i : ℕ) × ((t : List ℕ) → read_map (s ++ t) ≡ bad i)
unfolding read_map
bytes_decide s c = map_long s c

pub map_short : (s : List ℕ) (m : List (List ℕ)) → read_map s ≡ drawn m → length s ≤ 4195
map_short s m e = go (dec_le (length s) 4195)
  where
    go : Dec (length s ≤ 4195) → length s ≤ 4195
    go (yes h) = h
    go (no n) =
        let (i, f) = bytes_decide s (omega arith) in
        let g : bad i ≡ drawn m = sym (f []) ∙ ap read_map (append-nil s) ∙ e in
        nope (cc)

pub map_prefix : (s : List ℕ) (n : ℕ) → 4196 ≤ n → read_map (take n s) ≡ read_map s
map_prefix s n c = go (dec_le (length s) n)
  where
    parts : take n s ++ drop n s ≡ s
    parts = take-append-drop n s

    go : Dec (length s ≤ n) → read_map (take n s) ≡ read_map s
    go (yes h) = ap read_map (sym (append-nil (take n s)) ∙ ap (λ x. take n s ++ x) (sym (drop_of_length-le s h)) ∙ parts)
    go (no h) =
        let (i, f) = bytes_decide (take n s) (omega (arith, length-take-le n s (omega arith))) in
        ap read_map (sym (append-nil (take n s))) ∙ f [] ∙ sym (f (drop n s)) ∙ ap read_map parts

pub verdict_prefix : (s : List ℕ) (n room : ℕ) → 4196 ≤ n → map_verdict (take n s) room ≡ map_verdict s room
verdict_prefix s n room c = ap (floor_text room) (map_prefix s n c)
