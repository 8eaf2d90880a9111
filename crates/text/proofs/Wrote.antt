-- What is written piece by piece is written as one piece.
-- A writer's contract is a `Writes`; its proof composes those of the functions that it calls by `writes_more`. Assumes nothing.
use mathlib.Core.Path.{◌≡◌, refl, sym, ap, ◌∙◌}
use mathlib.Core.List.{List, [], ◌∷◌, ◌++◌, append_assoc, append-nil}
use Prim.Native.Nat.{ℕ, suc, ◌+◌, ◌/◌, ◌%◌, ◌≤◌, ◌<◌}
use native.Mathlib.Omega.{arith}
use native.Mathlib.Numerals.{add-one}
use native.Mathlib.Nat.{add-zero, zero-add}
use lib.ListN.{length, get_or, take, drop, set, length-append, take-append-drop, length-take, length-drop}
use lib.Seq.{length-take-le, take-suc, append_snoc, set_split, drop-drop, take_at, drop_at}
use borrow.Author.Tests.{lt-ltb, le-ltb}
use Rattle.model.proofs.Room.{fields_room}
use Rattle.model.specs.Text.{numeral, fields, line}
use Rattle.model.specs.SheetText.{lines_text}
use Rattle.text.specs.declared.put.Pen.{Pen}
use Rattle.text.specs.Wrote.{Wrote, Writes}

pub wrote_long : {s : List ℕ} {at : ℕ} {bytes t : List ℕ} {r : ℕ} → Wrote s at bytes t r → length t ≡ length s
wrote_long w = ap length w.text ∙ simp (length-append, length-take, length-drop) (omega (arith, w.fits))

pub wrote_none : {s : List ℕ} {at : ℕ} → at ≤ length s → Wrote s at [] s at
wrote_none {s} {at} h = record { fits = omega arith; next = omega arith; text = rw (add-zero, append-nil) (sym (take-append-drop at s)) }

pub wrote_one : {s : List ℕ} {at b : ℕ} → at + 1 ≤ length s → Wrote s at (b ∷ []) (set s at b) (at + 1)
wrote_one {s} {at} {b} h =
    let l : at < length s = omega arith in
    record { fits = h; next = refl; text = set_split s at b l ∙ rw add-one (sym (append_snoc (take at s) b (drop (suc at) s))) }

pub wrote_more : {s : List ℕ} {at : ℕ} {xs t : List ℕ} {p : ℕ} {ys u : List ℕ} {r : ℕ} → Wrote s at xs t p → Wrote t p ys u r → Wrote s at (xs ++ ys) u r
wrote_more {s} {at} {xs} {t} {p} {ys} {u} {r} w v =
    let la : length (take at s) ≡ at = length-take-le at s (omega (arith, w.fits)) in
    let lf : length (take at s ++ xs) ≡ p = length-append (take at s) xs ∙ omega (arith, w.next) in
    let f : take p t ≡ take at s ++ xs = ap (take p) w.text ∙ take_at (take at s ++ xs) (drop (at + length xs) s) p lf in
    let g : drop p t ≡ drop (at + length xs) s = ap (drop p) w.text ∙ drop_at (take at s ++ xs) (drop (at + length xs) s) p lf in
    let k : at + length xs + length ys ≡ at + length (xs ++ ys) = simp length-append (omega arith) in
    let e : drop (p + length ys) t ≡ drop (at + length (xs ++ ys)) s =
    sym (drop-drop (length ys) p t) ∙ ap (drop (length ys)) g ∙ drop-drop (length ys) (at + length xs) s ∙ ap (λ (m : ℕ). drop m s) k in
    record {
      fits = simp length-append (omega (arith, wrote_long w, w.next, v.fits));
      next = simp length-append (omega (arith, w.next, v.next));
      text = v.text ∙ rw (f, e) (ap (λ (l : List ℕ). l ++ drop (at + length (xs ++ ys)) s) (append_assoc (take at s) xs ys));
    }

pub wrote_whole : {s bytes t : List ℕ} {r : ℕ} → Wrote s 0 bytes t r → t ≡ bytes ++ drop (length bytes) s
wrote_whole w = simp zero-add at w.text

-- The same of a pen.
pub writes_long : {p : Pen} {bytes : List ℕ} {q : Pen} → Writes p bytes q → length q.out.now ≡ length p.out.now
writes_long w = wrote_long w.wrote

pub writes_none : {p : Pen} → p.at ≤ length p.out.now → Writes p [] p
writes_none h = record { same = refl; wrote = wrote_none h }

pub writes_more : {p : Pen} {xs : List ℕ} {q : Pen} {ys : List ℕ} {r : Pen} → Writes p xs q → Writes q ys r → Writes p (xs ++ ys) r
writes_more w v = record { same = v.same ∙ w.same; wrote = wrote_more w.wrote v.wrote }

-- What a lent buffer holds in the end, where a pen over it wrote the bytes from its start on.
pub wrote_by : {s : List ℕ} {p : Pen} {bytes : List ℕ} {q : Pen} {t : List ℕ} → p.out.now ≡ s → p.at ≡ 0 → Writes p bytes q → t ≡ q.out.now → Wrote s 0 bytes t q.at
wrote_by e z w f = rw (f, ← e, ← z) w.wrote

-- a numeral's two digits
pub numeral_2 : (n : ℕ) → 10 ≤ n → n < 100 → numeral n ≡ (48 + n / 10) ∷ (48 + n % 10) ∷ []
numeral_2 n l h = simp (le-ltb _ _ l, lt-ltb _ _ h) (ap (λ (d : ℕ). (48 + d) ∷ (48 + n % 10) ∷ []) (omega arith))

pub fields_append : (xs ys : List ℕ) → fields (xs ++ ys) ≡ fields xs ++ fields ys
fields_append [] ys = refl
fields_append (x ∷ xs) ys = rw (fields_append xs ys) (ap (λ (l : List ℕ). 9 ∷ l) (sym (append_assoc (numeral x) (fields xs) (fields ys))))

pub fields_one : (n : ℕ) → fields (n ∷ []) ≡ 9 ∷ numeral n
fields_one n = rw append-nil

-- one field more, at an index
pub fields_suc : (ns : List ℕ) (i : ℕ) → i < length ns → fields (take (i + 1) ns) ≡ fields (take i ns) ++ (9 ∷ numeral (get_or ns i 0))
fields_suc ns i h = rw (add-one, take-suc ns i 0 h) (fields_append (take i ns) (get_or ns i 0 ∷ []) ∙ rw fields_one)

-- a line of its three pieces
pub writes_line : {word : List ℕ} {p q r s : Pen} (ns : List ℕ) → Writes p word q → Writes q (fields ns) r → Writes r (10 ∷ []) s → Writes p (line word ns) s
writes_line ns a b c = writes_more a (writes_more b c)

-- a line that begins with a word and two fields
pub writes_pair : {word : List ℕ} {p q r s : Pen} (a b : ℕ) → Writes p word q → Writes q (9 ∷ numeral a) r → Writes r (9 ∷ numeral b) s → Writes p (word ++ fields (a ∷ b ∷ [])) s
writes_pair a b x y z = rw (append-nil (numeral b)) (writes_more x (writes_more y z))

pub pair_room : (word : List ℕ) (a b : ℕ) → length (word ++ fields (a ∷ b ∷ [])) ≤ length word + 8
pair_room word a b = rw (length-append word (fields (a ∷ b ∷ []))) (omega (arith, fields_room (a ∷ b ∷ [])))

-- how long the lines with one field and with two are
pub head_long : (word : List ℕ) (n : ℕ) → length (line word (n ∷ [])) ≡ length word + length (numeral n) + 2
head_long word n = simp length-append (omega arith)

pub pair_long : (word : List ℕ) (a b : ℕ) → length (word ++ fields (a ∷ b ∷ [])) ≡ length word + length (numeral a) + length (numeral b) + 2
pair_long word a b = simp length-append (omega arith)

pub pair_line_long : (word : List ℕ) (a b : ℕ) → length (line word (a ∷ b ∷ [])) ≡ length word + length (numeral a) + length (numeral b) + 3
pair_line_long word a b = simp length-append (omega arith)

pub line_of : (word xs ys : List ℕ) → (word ++ fields xs) ++ (fields ys ++ (10 ∷ [])) ≡ line word (xs ++ ys)
line_of word xs ys = rw (fields_append xs ys) (simp append_assoc)

-- Many lines, and one more of them.
pub lines_append : {A : Type 0} (word numbers : A → List ℕ) (l m : List A) → lines_text word numbers (l ++ m) ≡ lines_text word numbers l ++ lines_text word numbers m
lines_append word numbers [] m = refl
lines_append word numbers (a ∷ l) m =
    rw (lines_append word numbers l m) (sym (append_assoc (line (word a) (numbers a)) (lines_text word numbers l) (lines_text word numbers m)))

pub writes_lines : {A : Type 0} (word numbers : A → List ℕ) (l : List A) (a : A) {p q r : Pen}
    → Writes p (lines_text word numbers l) q → Writes q (line (word a) (numbers a)) r → Writes p (lines_text word numbers (l ++ (a ∷ []))) r
writes_lines word numbers l a x y = rw (lines_append word numbers l (a ∷ []), append-nil (line (word a) (numbers a))) (writes_more x y)
