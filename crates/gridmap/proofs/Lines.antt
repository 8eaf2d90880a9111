-- A line at a place of a text, byte by byte: its bytes stand there and a line feed behind them (`Ended`), and what stands there so is a line if no line feed is among its bytes.
-- So a byte that fits no line shows that no line there says anything. A size from 1 to 64 is one digit or two. Assumes nothing.
use Prim.Native.Nat.{ℕ, suc, ◌+◌, ◌/◌, ◌%◌, ◌≤◌, ◌<◌}
use mathlib.Core.Path.{◌≡◌, refl, sym, ap, ◌∙◌}
use mathlib.Core.List.{List, [], ◌∷◌, ◌++◌, append-nil}
use mathlib.Core.Option.{Option, none, some}
use mathlib.Core.Logic.{inl, inr, ⊎_elim}
use mathlib.Core.Bool.{Bool, true, false, cond, ◌&&◌}
use native.Mathlib.Omega.{arith}
use native.Mathlib.Numerals.{add-one}
use lib.Dec.{ltb, leb, eqb}
use lib.ListN.{length, get_or, take, drop, length-append, length-drop, take-append-drop, drop_of_length-le}
use lib.Seq.{drop-cons, take_at, get_or_at, get_or-take, get_or-drop, get_or-append-add, drop-drop, drop-append_seam, take-take, take-add, length-take-le}
use borrow.Author.Tests.{ltb-true, leb-true, eqb-true, lt-ltb, le-leb, eq-eqb}
use Rattle.model.specs.Text.{Lines, done, cut, more, lines_of, starts_with, number_of, numeral}
use Rattle.model.specs.Limits.{max_side}
use Rattle.model.specs.FirstBad.{line_due, rest_says}
use Rattle.model.specs.GridMap.{word_line, size_of, size_line}
use Rattle.model.proofs.Basics.{nope, and_left, and_right, and_both}
use Rattle.model.proofs.Decide.{dec-lt}
use Rattle.model.proofs.Written.{free, free_append, lines_line, numeral_good}
use Rattle.model.proofs.Read.{lines_done, lines_more, cond_some, number_back, one-digit}
use Rattle.text.specs.Scan.{line_of}
use Rattle.text.proofs.Wrote.{numeral_2}
use Rattle.gridmap.specs.Lines.{SaidAt, UnsaidAt, opens_at, Digits}

pub record Ended (s : List ℕ) (at : ℕ) (l : List ℕ) : Type 0 where
  pub inside : at + length l < length s
  pub part : take (length l) (drop at s) ≡ l
  pub feed : get_or s (at + length l) 0 ≡ 10

pub line_ended : (s : List ℕ) (at : ℕ) (l : List ℕ) (ls : Lines) → lines_of (drop at s) ≡ more l ls → Ended s at l
line_ended s at l ls e =
    let (t, f, g) = lines_more (drop at s) l ls e in
    record {
      inside = omega (arith, length-drop at s, ap length f ∙ length-append l (10 ∷ t));
      part = ap (take (length l)) f ∙ take_at l (10 ∷ t) (length l) refl;
      feed = sym (get_or-drop at s (length l) 0) ∙ ap (λ x. get_or x (length l) 0) f ∙ get_or_at l 10 t 0 (length l) refl;
    }

module _ {A : Type 0} (say : List ℕ → Option A) (s : List ℕ) (at : ℕ) where
  pub said : (l : List ℕ) (a : A) → Ended s at l → free 10 l ≡ true → say l ≡ some a → SaidAt say s at a (at + length l + 1)
  said l a h e f = record { line = l; lines = ap lines_of apart ∙ lines_line l (drop (at + length l + 1) s) e; says = f; inside = omega (arith, h.inside) }
    where
      rest : drop (length l) (drop at s) ≡ 10 ∷ drop (at + length l + 1) s
      rest = drop-drop (length l) at s ∙ drop-cons s (at + length l) 0 h.inside ∙ rw (h.feed, add-one) refl

      apart : drop at s ≡ l ++ (10 ∷ drop (at + length l + 1) s)
      apart = sym (take-append-drop (length l) (drop at s)) ∙ ap (λ x. x ++ drop (length l) (drop at s)) h.part ∙ ap (λ x. l ++ x) rest

  pub unsaid : ((l : List ℕ) (a : A) → Ended s at l → say l ≡ some a → ⊥) → UnsaidAt say s at
  unsaid h l ls e = go (say l) refl
    where
      go : (o : Option A) → say l ≡ o → o ≡ none
      go none q = refl
      go (some a) q = absurd (h l a (line_ended s at l ls e) q)

-- What a form says at a line that is due, by what stands there.
module _ {A R : Type 0} (bad : ℕ → R) (say : List ℕ → Option A) (s : List ℕ) (at n : ℕ) where
  pub due_said : (on : A → Lines → R) {a : A} {next : ℕ} → SaidAt say s at a next → line_due bad say n (lines_of (drop at s)) on ≡ on a (lines_of (drop next s))
  due_said on h = rw (h.lines, h.says)

  pub due_unsaid : (on : A → Lines → R) → UnsaidAt say s at → line_due bad say n (lines_of (drop at s)) on ≡ bad n
  due_unsaid on h = go (lines_of (drop at s)) refl
    where
      go : (x : Lines) → lines_of (drop at s) ≡ x → line_due bad say n x on ≡ bad n
      go done q = refl
      go cut q = refl
      go (more l ls) q = rw (h l ls q)

  module _ (all : List A → R) (got : List A) where
    pub rest_said : (k : ℕ) {a : A} {next : ℕ} → SaidAt say s at a next
        → rest_says bad say all got (suc k) n (lines_of (drop at s)) ≡ rest_says bad say all (got ++ (a ∷ [])) k (n + 1) (lines_of (drop next s))
    rest_said k h = rw (h.lines, h.says)

    pub rest_unsaid : (k : ℕ) → UnsaidAt say s at → rest_says bad say all got (suc k) n (lines_of (drop at s)) ≡ bad n
    rest_unsaid k h = go (lines_of (drop at s)) refl
      where
        go : (x : Lines) → lines_of (drop at s) ≡ x → rest_says bad say all got (suc k) n x ≡ bad n
        go done q = refl
        go cut q = refl
        go (more l ls) q = rw (h l ls q)

    -- nothing is due
    pub rest_over : at < length s → rest_says bad say all got 0 n (lines_of (drop at s)) ≡ bad n
    rest_over h = go (lines_of (drop at s)) refl
      where
        go : (x : Lines) → lines_of (drop at s) ≡ x → rest_says bad say all got 0 n x ≡ bad n
        go done q = absurd (omega (arith, length-drop at s, ap length (lines_done (drop at s) q)))
        go cut q = refl
        go (more l ls) q = refl

    pub rest_none : length s ≤ at → rest_says bad say all got 0 n (lines_of (drop at s)) ≡ all got
    rest_none h = rw (drop_of_length-le s h)

-- a line of its own has no line feed
pub line_free : (l : List ℕ) → line_of l ≡ l → free 10 l ≡ true
line_free [] e = refl
line_free (b ∷ l) e = go (eqb b 10) refl e (line_free l)
  where
    go : (x : Bool) → eqb b 10 ≡ x → cond x [] (b ∷ line_of l) ≡ b ∷ l → (line_of l ≡ l → free 10 l ≡ true) → free 10 (b ∷ l) ≡ true
    go true q e ih = nope (cc)
    go false q e ih = let f : line_of l ≡ l = cc in rw (q, ih f)

-- Words.
pub starts_whole : (w l : List ℕ) → starts_with w (w ++ l) ≡ true
starts_whole [] l = refl
starts_whole (b ∷ w) l = rw (eq-eqb b b refl) (starts_whole w l)

starts_back : (w l : List ℕ) → starts_with w l ≡ true → l ≡ w ++ drop (length w) l
starts_back [] l e = refl
starts_back (a ∷ w) [] e = nope (cc)
starts_back (a ∷ w) (b ∷ l) e = go (eqb b a) refl e (starts_back w l)
  where
    go : (t : Bool) → eqb b a ≡ t → cond t (starts_with w l) false ≡ true → (starts_with w l ≡ true → l ≡ w ++ drop (length w) l) → b ∷ l ≡ a ∷ (w ++ drop (length w) l)
    go true q e ih = rw (eqb-true b a q) (ap (λ x. a ∷ x) (ih e))
    go false q e ih = nope (cc)

module _ (word s : List ℕ) (at : ℕ) where
  pub opens_inside : opens_at word s at ≡ true → at + length word < length s
  opens_inside e = ltb-true _ _ (and_left (ltb (at + length word) (length s)) (starts_with word (take (length word) (drop at s))) e)

  -- what opens a line that ends there, is the word
  opened : (l : List ℕ) → Ended s at l → starts_with word l ≡ true → opens_at word s at ≡ true
  opened l h e =
      let f = starts_back word l e in
      let k : length word ≤ length l = omega (arith, ap length f ∙ length-append word (drop (length word) l)) in
      let g : take (length word) (drop at s) ≡ word
      = sym (take-take (length word) (length l) (drop at s) k) ∙ ap (take (length word)) (h.part ∙ f) ∙ take_at word (drop (length word) l) (length word) refl in
      let i : at + length word < length s = omega (arith, h.inside) in
      and_both _ _ (lt-ltb (at + length word) (length s) i) (rw g (ap (starts_with word) (sym (append-nil word)) ∙ starts_whole word []))

  stands : opens_at word s at ≡ true → take (length word) (drop at s) ≡ word
  stands e =
      let i = opens_inside e in
      let t = take (length word) (drop at s) in
      let f : length t ≡ length word = length-take-le (length word) (drop at s) (omega (arith, length-drop at s)) in
      let g = starts_back word t (and_right (ltb (at + length word) (length s)) (starts_with word t) e) in
      sym (take_at t [] (length word) f) ∙ ap (take (length word)) (append-nil t ∙ g) ∙ take_at word (drop (length word) t) (length word) refl

  -- The whole line is the word.
  pub word_said : free 10 word ≡ true → opens_at word s at ≡ true → get_or s (at + length word) 0 ≡ 10 → SaidAt (word_line word) s at word (at + length word + 1)
  word_said e o f = said (word_line word) s at word word (record { inside = opens_inside o; part = stands o; feed = f }) e itself
    where
      itself : word_line word word ≡ some word
      itself = rw (ap (starts_with word) (sym (append-nil word)) ∙ starts_whole word [], eq-eqb (length word) (length word) refl)

  pub word_unsaid : (opens_at word s at ≡ true → get_or s (at + length word) 0 ≡ 10 → ⊥) → UnsaidAt (word_line word) s at
  word_unsaid never = unsaid (word_line word) s at λ l a h e.
      let f = (cond_some (starts_with word l && eqb (length l) (length word)) (some l) a e).0 in
      let k : length l ≡ length word = eqb-true _ _ (and_right (starts_with word l) (eqb (length l) (length word)) f) in
      never (opened l h (and_left (starts_with word l) (eqb (length l) (length word)) f)) (rw k at h.feed)

-- Sizes.
size_back : (o : Option ℕ) (n : ℕ) → size_of o ≡ some n → (o ≡ some n) × (0 < n) × (n ≤ max_side)
size_back none n e = nope (cc)
size_back (some m) n e =
    let (f, g) = cond_some (ltb 0 m && leb m max_side) (some m) n e in
    let k : m ≡ n = cc in
    (ap some k, rw k at (ltb-true 0 m (and_left (ltb 0 m) (leb m max_side) f)), rw k at (leb-true m max_side (and_right (ltb 0 m) (leb m max_side) f)))

module _ (word s : List ℕ) (at : ℕ) where
  abbrev P : ℕ
  P = at + length word

  -- a byte of a line, behind the word
  behind : (x : List ℕ) → Ended s at (word ++ x) → (i : ℕ) → i < length x → get_or s (P + i) 0 ≡ get_or x i 0
  behind x h i k =
      let e : at + (length word + i) ≡ P + i = omega arith in
      let j : length word + i < length (word ++ x) = omega (arith, length-append word x) in
      sym (ap (λ y. get_or s y 0) e) ∙ sym (get_or-drop at s (length word + i) 0) ∙ sym (get_or-take (length (word ++ x)) (drop at s) (length word + i) 0 j)
      ∙ ap (λ y. get_or y (length word + i) 0) h.part ∙ get_or-append-add word x i 0

  ends : (x : List ℕ) → Ended s at (word ++ x) → (P + length x < length s) × (get_or s (P + length x) 0 ≡ 10)
  ends x h = let e : at + length (word ++ x) ≡ P + length x = omega (arith, length-append word x) in (rw e at h.inside, rw e at h.feed)

  digits_shown : (n : ℕ) → 0 < n → n ≤ max_side → Ended s at (word ++ numeral n) → (next : ℕ) × Digits s P n next
  digits_shown n low high h = go (dec-lt n 10)
    where
      go : Dec (n < 10) → (next : ℕ) × Digits s P n next
      go (yes k) =
          let x = (48 + n) ∷ [] in
          let h' : Ended s at (word ++ x) = rw (one-digit n k) at h in
          let z : P + 0 ≡ P = omega arith in
          (P + 1 + 1, record { low = low; high = high; bytes = inl (k, (ends x h').0, rw z at (behind x h' 0 (omega arith)), (ends x h').1, refl) })
      go (no k) =
          let x = (48 + n / 10) ∷ (48 + n % 10) ∷ [] in
          let h' : Ended s at (word ++ x) = rw (numeral_2 n (omega arith) (omega arith)) at h in
          let z : P + 0 ≡ P = omega arith in
          let y : P + 2 ≡ P + 1 + 1 = omega arith in
          let (i, f) = ends x h' in
          (P + 1 + 1 + 1, record { low = low; high = high; bytes = inr (omega arith, rw y at i, rw z at (behind x h' 0 (omega arith)), behind x h' 1 (omega arith), rw y at f, refl) })

  pub size_unsaid : (opens_at word s at ≡ true → (n next : ℕ) → Digits s P n next → ⊥) → UnsaidAt (size_line word) s at
  size_unsaid never = unsaid (size_line word) s at λ l n h e.
      let (f, g) = cond_some (starts_with word l) (size_of (number_of (drop (length word) l))) n e in
      let (k, low, high) = size_back (number_of (drop (length word) l)) n g in
      let x : l ≡ word ++ numeral n = starts_back word l f ∙ ap (λ y. word ++ y) (number_back (drop (length word) l) n k) in
      let (next, d) = digits_shown n low high (rw x at h) in
      never (opened word s at l h f) n next d

  -- the other way round: such bytes are a line
  module _ (e : free 10 word ≡ true) (o : opens_at word s at ≡ true) (n next : ℕ) (d : Digits s P n next) where
    says : size_line word (word ++ numeral n) ≡ some n
    says = rw (starts_whole word (numeral n), drop-append_seam word (numeral n), (numeral_good n (omega (arith, d.high))).1.1, lt-ltb 0 n d.low, le-leb n max_side d.high)

    ended : (x : List ℕ) → numeral n ≡ x → (P + length x < length s) → take (length x) (drop P s) ≡ x → get_or s (P + length x) 0 ≡ 10
        → SaidAt (size_line word) s at n (P + length x + 1)
    ended x g i p b =
        let k : at + length (word ++ x) ≡ P + length x = omega (arith, length-append word x) in
        let h : Ended s at (word ++ x) = record {
          inside = rw k i;
          part = ap (λ y. take y (drop at s)) (length-append word x) ∙ take-add (length word) (length x) (drop at s) ∙ rw (stands word s at o, drop-drop (length word) at s, p) refl;
          feed = rw k b;
        } in
        rw (g, k) at (said (size_line word) s at (word ++ numeral n) n (rw g h) (free_append 10 word (numeral n) e (numeral_good n (omega (arith, d.high))).1.0) says)

    pub size_said : SaidAt (size_line word) s at n next
    size_said = ⊎_elim one two d.bytes
      where
        one : (n < 10) × (P + 1 < length s) × (get_or s P 0 ≡ 48 + n) × (get_or s (P + 1) 0 ≡ 10) × (next ≡ P + 1 + 1) → SaidAt (size_line word) s at n next
        one (k, i, a, b, q) = rw q (ended ((48 + n) ∷ []) (one-digit n k) i (ap (take 1) (drop-cons s P 0 (omega arith)) ∙ ap (λ y. y ∷ []) a) b)

        two : (10 ≤ n) × (P + 1 + 1 < length s) × (get_or s P 0 ≡ 48 + n / 10) × (get_or s (P + 1) 0 ≡ 48 + n % 10) × (get_or s (P + 1 + 1) 0 ≡ 10) × (next ≡ P + 1 + 1 + 1)
            → SaidAt (size_line word) s at n next
        two (k, i, a, b, c, q) =
            let z : P + 1 + 1 ≡ P + 2 = omega arith in
            let j : suc P ≡ P + 1 = omega arith in
            let v : drop P s ≡ get_or s P 0 ∷ get_or s (P + 1) 0 ∷ drop (suc (P + 1)) s = drop-cons s P 0 (omega arith) ∙ ap (λ y. get_or s P 0 ∷ y) (rw j (drop-cons s (P + 1) 0 (omega arith))) in
            rw (q, z) (ended ((48 + n / 10) ∷ (48 + n % 10) ∷ []) (numeral_2 n k (omega (arith, d.high))) (rw z at i) (ap (take 2) v ∙ rw (a, b) refl) (rw z at c))
