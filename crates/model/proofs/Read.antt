-- What a sheet is read as is what its bytes write: no other bytes are read so. Assumes nothing.
use Prim.Native.Nat.{ℕ, zero, suc, ◌+◌, ◌-◌, ◌*◌, ◌≤◌, ◌<◌}
use mathlib.Core.Path.{◌≡◌, refl, sym, ap, ◌∙◌}
use mathlib.Core.List.{List, [], ◌∷◌, ◌++◌, map, append_assoc, append-nil}
use mathlib.Core.Option.{Option, none, some}
use mathlib.Core.Bool.{Bool, true, false, cond, ◌&&◌, false≢true}
use mathlib.Core.Logic.{◌⊎◌, inl, inr}
use native.Mathlib.Omega.{arith}
use lib.Dec.{eqb, ltb, leb}
use lib.ListN.{length, drop}
use borrow.Author.Tests.{ltb-true, leb-true, eqb-true}
use Rattle.model.specs.Lists.{In}
use Rattle.model.specs.Job.{Job}
use Rattle.model.specs.Plan.{Path, Ride}
use Rattle.model.specs.Choke.{point, Choke, cell_step, whole_call}
use Rattle.model.specs.Ready.{Fit}
use Rattle.model.specs.Text.{Lines, done, cut, more, on_first, lines_of, on_field, fields_of, is_digit, number_from, number_of}
use Rattle.model.specs.Text.{and_number, numbers_of, numeral, fields, line, opens, after, plan_word, path_word, spare_word, cannot_word, choke_word, whole_word}
use Rattle.model.specs.SheetText.{lines_text, path_numbers, spare_numbers, choke_opens, choke_numbers, plan_text, cannot_text}
use Rattle.model.specs.FirstBad.{or_bad, lines_due, no_more, rest_says}
use Rattle.model.specs.ReadSheet.{Sheet, bad, plan, cannot, known_path, known_spare, numbers_after, path_of, spare_of, point_of, whole_of, head_says}
use Rattle.model.specs.ReadSheet.{count_says, path_line, spare_line, spares_say, choke_line, read_sheet}
use Rattle.model.proofs.Decide.{decided, dec_imp, dec_list, dec-lt, dec_eq, all-below}
use Rattle.model.proofs.Basics.{nope, and_left, and_right}
use Rattle.model.proofs.Floor.{known_choke}
use Rattle.model.proofs.Written.{plan_read, cannot_read}

-- Lines.
pub lines_done : (b : List ℕ) → lines_of b ≡ done → b ≡ []
lines_done [] e = refl
lines_done (c ∷ b) e = go (eqb c 10) (lines_of b) e
  where
    go : (t : Bool) (x : Lines) → cond t (more [] x) (on_first c x) ≡ done → c ∷ b ≡ []
    go true x e = nope (cc)
    go false done e = nope (cc)
    go false cut e = nope (cc)
    go false (more m ms) e = nope (cc)

pub lines_more : (b l : List ℕ) (ls : Lines) → lines_of b ≡ more l ls → (s : List ℕ) × (b ≡ l ++ (10 ∷ s)) × (lines_of s ≡ ls)
lines_more [] l ls e = nope (cc)
lines_more (c ∷ b) l ls e = go (eqb c 10) refl (lines_of b) refl e (λ m ms. lines_more b m ms)
  where
    go : (t : Bool) → eqb c 10 ≡ t → (x : Lines) → lines_of b ≡ x → cond t (more [] x) (on_first c x) ≡ more l ls
        → ((m : List ℕ) (ms : Lines) → lines_of b ≡ more m ms → (s : List ℕ) × (b ≡ m ++ (10 ∷ s)) × (lines_of s ≡ ms))
        → (s : List ℕ) × (c ∷ b ≡ l ++ (10 ∷ s)) × (lines_of s ≡ ls)
    go true q x f e ih =
        let n : [] ≡ l = cc in
        let m : c ≡ 10 = eqb-true c 10 q in
        (b, ap (λ y. y ∷ b) m ∙ ap (λ y. y ++ (10 ∷ b)) n, cc)
    go false q done f e ih = nope (cc)
    go false q cut f e ih = nope (cc)
    go false q (more m ms) f e ih =
        let n : c ∷ m ≡ l = cc in
        let (s, g, h) = ih m ms f in
        (s, ap (λ y. c ∷ y) g ∙ ap (λ y. y ++ (10 ∷ s)) n, cc)

-- Fields.
tabbed : List (List ℕ) → List ℕ
tabbed [] = []
tabbed (f ∷ fs) = 9 ∷ (f ++ tabbed fs)

tabbed_fields : (l : List ℕ) → tabbed (fields_of l) ≡ 9 ∷ l
unfolding tabbed
tabbed_fields [] = refl
tabbed_fields (b ∷ l) = go (eqb b 9) refl (fields_of l) (tabbed_fields l)
  where
    go : (t : Bool) → eqb b 9 ≡ t → (fs : List (List ℕ)) → tabbed fs ≡ 9 ∷ l → tabbed (on_field b fs) ≡ 9 ∷ b ∷ l
    go t q [] e = nope (cc)
    go true q (f ∷ fs) e = ap (λ x. tabbed (cond x ([] ∷ f ∷ fs) ((b ∷ f) ∷ fs))) q ∙ ap (λ y. 9 ∷ y) e ∙ ap (λ y. 9 ∷ y ∷ l) (sym (eqb-true b 9 q))
    go false q (f ∷ fs) e =
        let g : f ++ tabbed fs ≡ l = cc in
        ap (λ x. tabbed (cond x ([] ∷ f ∷ fs) ((b ∷ f) ∷ fs))) q ∙ ap (λ y. 9 ∷ b ∷ y) g

tabbed_numerals : (ns : List ℕ) → tabbed (map numeral ns) ≡ fields ns
unfolding tabbed
tabbed_numerals [] = refl
tabbed_numerals (n ∷ ns) = ap (λ y. 9 ∷ (numeral n ++ y)) (tabbed_numerals ns)

-- Numbers: one, two or three digits, all tried.
pub one-digit : (x : ℕ) → x < 10 → numeral x ≡ (48 + x) ∷ []
one-digit = decided (all-below (λ x. dec_list dec_eq (numeral x) ((48 + x) ∷ [])) 10) tt

pub two_digits : (x : ℕ) → x < 10 → (y : ℕ) → y < 10 → 0 < x → numeral (x * 10 + y) ≡ (48 + x) ∷ (48 + y) ∷ []
two_digits = decided (all-below (λ x. all-below (λ y. dec_imp (dec-lt 0 x) (dec_list dec_eq (numeral (x * 10 + y)) ((48 + x) ∷ (48 + y) ∷ []))) 10) 10) tt

three_digits : (x : ℕ) → x < 10 → (y : ℕ) → y < 10 → (z : ℕ) → z < 10 → 0 < x → numeral ((x * 10 + y) * 10 + z) ≡ (48 + x) ∷ (48 + y) ∷ (48 + z) ∷ []
three_digits = decided (all-below (λ x. all-below (λ y. all-below (λ z. dec_imp (dec-lt 0 x)
    (dec_list dec_eq (numeral ((x * 10 + y) * 10 + z)) ((48 + x) ∷ (48 + y) ∷ (48 + z) ∷ []))) 10) 10) 10) tt

digit_back : (b : ℕ) → is_digit b ≡ true → (b - 48 < 10) × (b ≡ 48 + (b - 48))
digit_back b e =
    let l : 48 ≤ b = leb-true 48 b (and_left (leb 48 b) (ltb b 58) e) in
    let h : b < 58 = ltb-true b 58 (and_right (leb 48 b) (ltb b 58) e) in
    (omega arith, omega arith)

pub cond_some : {A : Type 0} (t : Bool) (x : Option A) (a : A) → cond t x none ≡ some a → (t ≡ true) × (x ≡ some a)
cond_some true x a e = (refl, e)
cond_some false x a e = nope (cc)

from_back : (v c n : ℕ) (s : List ℕ) → number_from v (c ∷ s) ≡ some n
    → (is_digit c ≡ true) × ((0 < v) × ((v < 100) × (number_from (v * 10 + (c - 48)) s ≡ some n)))
from_back v c n s e =
    let h = cond_some (is_digit c && ltb 0 v && ltb v 100) (number_from (v * 10 + (c - 48)) s) n e in
    let k = and_left (is_digit c && ltb 0 v) (ltb v 100) h.0 in (
      and_left (is_digit c) (ltb 0 v) k,
      (
        ltb-true 0 v (and_right (is_digit c) (ltb 0 v) k),
        (ltb-true v 100 (and_right (is_digit c && ltb 0 v) (ltb v 100) h.0), h.1),
      ),
    )

pub number_back : (f : List ℕ) (n : ℕ) → number_of f ≡ some n → f ≡ numeral n
number_back [] n e = nope (cc)
number_back (b ∷ s) n e =
    let h = cond_some (is_digit b) (number_from (b - 48) s) n e in
    go s (digit_back b h.0) h.1
  where
    go : (s : List ℕ) → (b - 48 < 10) × (b ≡ 48 + (b - 48)) → number_from (b - 48) s ≡ some n → b ∷ s ≡ numeral n
    go [] (l, g) e =
        let k : b - 48 ≡ n = cc in
        ap (λ x. x ∷ []) g ∙ sym (one-digit (b - 48) l) ∙ ap numeral k
    go (c ∷ []) (l, g) e =
        let (dc, (pos, (_, r))) = from_back (b - 48) c n [] e in
        let (l₂, g₂) = digit_back c dc in
        let k : (b - 48) * 10 + (c - 48) ≡ n = cc in
        ap (λ x. x ∷ c ∷ []) g ∙ ap (λ x. (48 + (b - 48)) ∷ x ∷ []) g₂ ∙ sym (two_digits (b - 48) l (c - 48) l₂ pos) ∙ ap numeral k
    go (c ∷ d ∷ []) (l, g) e =
        let (dc, (pos, (_, r))) = from_back (b - 48) c n (d ∷ []) e in
        let (dd, (_, (_, r₂))) = from_back ((b - 48) * 10 + (c - 48)) d n [] r in
        let (l₂, g₂) = digit_back c dc in
        let (l₃, g₃) = digit_back d dd in
        let k : ((b - 48) * 10 + (c - 48)) * 10 + (d - 48) ≡ n = cc in
        ap (λ x. x ∷ c ∷ d ∷ []) g ∙ ap (λ x. (48 + (b - 48)) ∷ x ∷ d ∷ []) g₂ ∙ ap (λ x. (48 + (b - 48)) ∷ (48 + (c - 48)) ∷ x ∷ []) g₃
        ∙ sym (three_digits (b - 48) l (c - 48) l₂ (d - 48) l₃ pos) ∙ ap numeral k
    go (c ∷ d ∷ x ∷ s) (l, g) e =
        let (dc, (pos, (_, r))) = from_back (b - 48) c n (d ∷ x ∷ s) e in
        let (dd, (_, (_, r₂))) = from_back ((b - 48) * 10 + (c - 48)) d n (x ∷ s) r in
        let (_, (_, (few, _))) = from_back (((b - 48) * 10 + (c - 48)) * 10 + (d - 48)) x n s r₂ in
        absurd (omega arith)

numbers_back : (fs : List (List ℕ)) (ns : List ℕ) → numbers_of fs ≡ some ns → fs ≡ map numeral ns
numbers_back [] ns e = let n : [] ≡ ns = cc in ap (map numeral) n
numbers_back (f ∷ fs) ns e = go (number_of f) refl (numbers_of fs) refl e (λ ms. numbers_back fs ms)
  where
    go : (x : Option ℕ) → number_of f ≡ x → (y : Option (List ℕ)) → numbers_of fs ≡ y → and_number x y ≡ some ns
        → ((ms : List ℕ) → numbers_of fs ≡ some ms → fs ≡ map numeral ms) → f ∷ fs ≡ map numeral ns
    go none q y r e ih = nope (cc)
    go (some n) q none r e ih = nope (cc)
    go (some n) q (some ms) r e ih =
        let k : n ∷ ms ≡ ns = cc in
        ap (λ x. x ∷ fs) (number_back f n q) ∙ ap (λ x. numeral n ∷ x) (ih ms r) ∙ ap (map numeral) k

-- Words.
opens_back : (w l : List ℕ) → opens w l ≡ true → l ≡ w ++ (9 ∷ drop (suc (length w)) l)
opens_back [] [] e = absurd (false≢true e)
opens_back [] (b ∷ s) e = go (eqb b 9) refl e
  where
    go : (t : Bool) → eqb b 9 ≡ t → cond t true false ≡ true → b ∷ s ≡ 9 ∷ s
    go true q e = ap (λ x. x ∷ s) (eqb-true b 9 q)
    go false q e = absurd (false≢true e)
opens_back (c ∷ w) [] e = absurd (false≢true e)
opens_back (c ∷ w) (b ∷ s) e = go (eqb b c) refl e (λ h. opens_back w s h)
  where
    go : (t : Bool) → eqb b c ≡ t → cond t (opens w s) false ≡ true → (opens w s ≡ true → s ≡ w ++ (9 ∷ drop (suc (length w)) s))
        → b ∷ s ≡ c ∷ (w ++ (9 ∷ drop (suc (length w)) s))
    go true q e ih = ap (λ x. x ∷ s) (eqb-true b c q) ∙ ap (λ x. c ∷ x) (ih e)
    go false q e ih = absurd (false≢true e)

opened_back : (w l ns : List ℕ) → opens w l ≡ true → numbers_of (after w l) ≡ some ns → l ≡ w ++ fields ns
opened_back w l ns o e =
    let x = drop (suc (length w)) l in
    opens_back w l o ∙ ap (λ y. w ++ y) (sym (tabbed_fields x) ∙ ap tabbed (numbers_back (fields_of x) ns e) ∙ tabbed_numerals ns)

pub after_back : (w l ns : List ℕ) → numbers_after w l ≡ some ns → l ≡ w ++ fields ns
after_back w l ns e = let h = cond_some (opens w l) (numbers_of (after w l)) ns e in opened_back w l ns h.0 h.1

-- The first line.
count_back : (is_right : ℕ → Bool) (rest : ℕ → Sheet) (o : Option (List ℕ)) (out : Sheet) → (bad 1 ≡ out → ⊥) → count_says is_right rest o ≡ out
    → (n : ℕ) × (o ≡ some (n ∷ [])) × (is_right n ≡ true) × (rest n ≡ out)
count_back is_right rest none out h e = absurd (h e)
count_back is_right rest (some []) out h e = absurd (h e)
count_back is_right rest (some (n ∷ [])) out h e = go (is_right n) refl e
  where
    go : (t : Bool) → is_right n ≡ t → cond t (rest n) (bad 1) ≡ out → (m : ℕ) × (some (n ∷ []) ≡ some (m ∷ [])) × (is_right m ≡ true) × (rest m ≡ out)
    go true q e = (n, refl, q, e)
    go false q e = absurd (h e)
count_back is_right rest (some (n ∷ m ∷ ns)) out h e = absurd (h e)

-- a first line, LF and the rest
head_joined : (word b l s t : List ℕ) (n : ℕ) → b ≡ l ++ (10 ∷ s) → l ≡ word ++ fields (n ∷ []) → s ≡ t → b ≡ line word (n ∷ []) ++ t
head_joined word b l s t n e f g = e ∙ ap (λ x. x ++ (10 ∷ s)) f ∙ ap (λ x. (word ++ fields (n ∷ [])) ++ (10 ∷ x)) g ∙ simp append_assoc

-- Lines of one kind, and what follows them.
module _ {A : Type 0} (say : List ℕ → Option A) (word numbers : A → List ℕ) (Good : A → Type 0)
    (back : (l : List ℕ) (a : A) → say l ≡ some a → (l ≡ word a ++ fields (numbers a)) × Good a) (out : Sheet) (not_bad : (n : ℕ) → bad n ≡ out → ⊥) where
  -- the members that were said, and the lines and bytes behind theirs
  record LinesBack (on : List A → ℕ → Lines → Sheet) (got : List A) (k : ℕ) (b : List ℕ) : Type 0 where
    l : List A
    size : length l ≡ k
    good : (a : A) → In a l → Good a
    n : ℕ
    ls : Lines
    s : List ℕ
    text : b ≡ lines_text word numbers l ++ s
    behind : lines_of s ≡ ls
    says : on (got ++ l) n ls ≡ out

  lines_back : (on : List A → ℕ → Lines → Sheet) (got : List A) (k n : ℕ) (ls : Lines) (b : List ℕ) → lines_of b ≡ ls → lines_due bad say on got k n ls ≡ out → LinesBack on got k b
  lines_back on got zero n ls b q e =
      record { l = []; size = refl; good = λ a h. absurd h; n = n; ls = ls; s = b; text = refl; behind = q; says = ap (λ x. on x n ls) (append-nil got) ∙ e }
  lines_back on got (suc k) n done b q e = absurd (not_bad n e)
  lines_back on got (suc k) n cut b q e = absurd (not_bad n e)
  lines_back on got (suc k) n (more l ls) b q e = go (say l) refl e (lines_more b l ls q) (λ g s. lines_back on g k (n + 1) ls s)
    where
      go : (o : Option A) → say l ≡ o → or_bad bad n o (λ a. lines_due bad say on (got ++ (a ∷ [])) k (n + 1) ls) ≡ out
          → (s : List ℕ) × (b ≡ l ++ (10 ∷ s)) × (lines_of s ≡ ls)
          → ((g : List A) (s : List ℕ) → lines_of s ≡ ls → lines_due bad say on g k (n + 1) ls ≡ out → LinesBack on g k s) → LinesBack on got (suc k) b
      go none f e m ih = absurd (not_bad n e)
      go (some a) f e (s, g, h) ih =
          let r = ih (got ++ (a ∷ [])) s h e in
          let (lw, good) = back l a f in
          record {
            l = a ∷ r.l;
            size = ap suc r.size;
            good = both r.l good r.good;
            n = r.n;
            ls = r.ls;
            s = r.s;
            text = g ∙ joined r.l s r.s lw r.text;
            behind = r.behind;
            says = ap (λ x. on x r.n r.ls) (sym (append_assoc got (a ∷ []) r.l)) ∙ r.says;
          }
        where
          joined : (m : List A) (s t : List ℕ) → l ≡ word a ++ fields (numbers a) → s ≡ lines_text word numbers m ++ t
              → l ++ (10 ∷ s) ≡ (line (word a) (numbers a) ++ lines_text word numbers m) ++ t
          joined m s t e f = ap (λ x. x ++ (10 ∷ s)) e ∙ ap (λ x. (word a ++ fields (numbers a)) ++ (10 ∷ x)) f ∙ simp append_assoc

          both : (m : List A) → Good a → ((b : A) → In b m → Good b) → (b : A) → (b ≡ a) ⊎ In b m → Good b
          both m g t b (inl e) = rw e g
          both m g t b (inr h) = t b h

  -- They are the last.
  abbrev RestBack : (List A → Sheet) → ℕ → List ℕ → Type 0
  RestBack all k b = (l : List A) × (length l ≡ k) × (b ≡ lines_text word numbers l) × ((a : A) → In a l → Good a) × (all l ≡ out)

  rest_back : (all : List A → Sheet) (k n : ℕ) (ls : Lines) (b : List ℕ) → lines_of b ≡ ls → rest_says bad say all [] k n ls ≡ out → RestBack all k b
  rest_back all k n ls b q e = let r = lines_back (λ x. no_more bad (all x)) [] k n ls b q e in go r r.ls refl r.says
    where
      go : (r : LinesBack (λ x. no_more bad (all x)) [] k b) (ls : Lines) → r.ls ≡ ls → no_more bad (all r.l) r.n ls ≡ out → RestBack all k b
      go r done e f = (r.l, r.size, r.text ∙ ap (λ x. lines_text word numbers r.l ++ x) (lines_done r.s (r.behind ∙ e)) ∙ append-nil (lines_text word numbers r.l), r.good, f)
      go r cut e f = absurd (not_bad r.n f)
      go r (more l ls) e f = absurd (not_bad r.n f)

  -- Where neither a bad line nor what follows gives it, nothing does.
  lines_not : (on : List A → ℕ → Lines → Sheet) → ((l : List A) (n : ℕ) (ls : Lines) → on l n ls ≡ out → ⊥) → (got : List A) (k n : ℕ) (ls : Lines) → lines_due bad say on got k n ls ≡ out → ⊥
  lines_not on not got zero n ls e = not got n ls e
  lines_not on not got (suc k) n done e = not_bad n e
  lines_not on not got (suc k) n cut e = not_bad n e
  lines_not on not got (suc k) n (more l ls) e = go (say l) e (λ g. lines_not on not g k (n + 1) ls)
    where
      go : (o : Option A) → or_bad bad n o (λ a. lines_due bad say on (got ++ (a ∷ [])) k (n + 1) ls) ≡ out → ((g : List A) → lines_due bad say on g k (n + 1) ls ≡ out → ⊥) → ⊥
      go none e ih = not_bad n e
      go (some a) e ih = ih (got ++ (a ∷ [])) e

  rest_not : (all : List A → Sheet) → ((l : List A) → all l ≡ out → ⊥) → (k n : ℕ) (ls : Lines) → rest_says bad say all [] k n ls ≡ out → ⊥
  rest_not all not k n ls e = lines_not (λ x. no_more bad (all x)) over [] k n ls e
    where
      over : (l : List A) (n : ℕ) (ls : Lines) → no_more bad (all l) n ls ≡ out → ⊥
      over l n done e = not l e
      over l n cut e = not_bad n e
      over l n (more m ms) e = not_bad n e

plan_not_bad : (n : ℕ) (ps : List Path) (ss : List Ride) → bad n ≡ plan ps ss → ⊥
plan_not_bad n ps ss e = nope (cc)

cannot_not_bad : (n : ℕ) (xs : List Choke) → bad n ≡ cannot xs → ⊥
cannot_not_bad n xs e = nope (cc)

plan_same : (ps qs : List Path) (ss rs : List Ride) → plan ps ss ≡ plan qs rs → (ps ≡ qs) × (ss ≡ rs)
plan_same ps qs ss rs e = (cc, cc)

cannot_same : (x y : List Choke) → cannot x ≡ cannot y → x ≡ y
cannot_same x y e = cc

plan_not_cannot : (ps : List Path) (ss : List Ride) (xs : List Choke) → plan ps ss ≡ cannot xs → ⊥
plan_not_cannot ps ss xs e = nope (cc)

module _ (j : Job) where
  path_back : (l : List ℕ) (p : Path) → path_line j l ≡ some p → (l ≡ path_word ++ fields (path_numbers p)) × (known_path j p ≡ true)
  path_back l p e = go (numbers_after path_word l) refl e
    where
      go : (o : Option (List ℕ)) → numbers_after path_word l ≡ o → path_of j o ≡ some p → (l ≡ path_word ++ fields (path_numbers p)) × (known_path j p ≡ true)
      go none q e = nope (cc)
      go (some []) q e = nope (cc)
      go (some (a ∷ [])) q e = nope (cc)
      go (some (a ∷ b ∷ ws)) q e =
          let x : Path = record { cart = a; call = b; cells = ws } in
          let h = cond_some (known_path j x) (some x) p e in
          let f : x ≡ p = some_path x p h.1 in
          (after_back path_word l (a ∷ b ∷ ws) q ∙ ap (λ y. path_word ++ fields (path_numbers y)) f, ap (known_path j) (sym f) ∙ h.0)
        where
          some_path : (x y : Path) → some x ≡ some y → x ≡ y
          some_path x y e = cc

  spare_back : (l : List ℕ) (s : Ride) → spare_line j l ≡ some s → (l ≡ spare_word ++ fields (spare_numbers s)) × (known_spare j s ≡ true)
  spare_back l s e = go (numbers_after spare_word l) refl e
    where
      go : (o : Option (List ℕ)) → numbers_after spare_word l ≡ o → spare_of j o ≡ some s → (l ≡ spare_word ++ fields (spare_numbers s)) × (known_spare j s ≡ true)
      go none q e = nope (cc)
      go (some []) q e = nope (cc)
      go (some (a ∷ ws)) q e =
          let x : Ride = record { cart = a; cells = ws } in
          let h = cond_some (known_spare j x) (some x) s e in
          let f : x ≡ s = some_ride x s h.1 in
          (after_back spare_word l (a ∷ ws) q ∙ ap (λ y. spare_word ++ fields (spare_numbers y)) f, ap (known_spare j) (sym f) ∙ h.0)
        where
          some_ride : (x y : Ride) → some x ≡ some y → x ≡ y
          some_ride x y e = cc

  abbrev Says : List ℕ → Choke → Type 0
  Says l x = (l ≡ choke_opens x ++ fields (choke_numbers x)) × (known_choke j x ≡ true)

  -- what passed its test
  passed : (l : List ℕ) (x y : Choke) → l ≡ choke_opens y ++ fields (choke_numbers y) → cond (known_choke j y) (some y) none ≡ some x → Says l x
  passed l x y g e =
      let h = cond_some (known_choke j y) (some y) x e in
      let f : y ≡ x = some_choke y x h.1 in
      (g ∙ ap (λ z. choke_opens z ++ fields (choke_numbers z)) f, ap (known_choke j) (sym f) ∙ h.0)
    where
      some_choke : (x y : Choke) → some x ≡ some y → x ≡ y
      some_choke x y e = cc

  point_back : (l : List ℕ) (x : Choke) (o : Option (List ℕ)) → numbers_after choke_word l ≡ o → point_of j o ≡ some x → Says l x
  point_back l x none q e = nope (cc)
  point_back l x (some []) q e = nope (cc)
  point_back l x (some (a ∷ [])) q e = nope (cc)
  point_back l x (some (a ∷ b ∷ [])) q e = passed l x (cell_step (point a b)) (after_back choke_word l (a ∷ b ∷ []) q) e
  point_back l x (some (a ∷ b ∷ c ∷ ns)) q e = nope (cc)

  whole_back : (l : List ℕ) (x : Choke) (o : Option (List ℕ)) → opens whole_word l ≡ true → numbers_of (after whole_word l) ≡ o → whole_of j o ≡ some x → Says l x
  whole_back l x none t q e = nope (cc)
  whole_back l x (some []) t q e = nope (cc)
  whole_back l x (some (k ∷ [])) t q e = passed l x (whole_call k) (opened_back whole_word l (k ∷ []) t q) e
  whole_back l x (some (k ∷ m ∷ ns)) t q e = nope (cc)

  choke_back : (l : List ℕ) (x : Choke) → choke_line j l ≡ some x → Says l x
  choke_back l x e = go (opens whole_word l) refl e
    where
      go : (t : Bool) → opens whole_word l ≡ t → cond t (whole_of j (numbers_of (after whole_word l))) (point_of j (numbers_after choke_word l)) ≡ some x → Says l x
      go true t e = whole_back l x (numbers_of (after whole_word l)) t refl e
      go false t e = point_back l x (numbers_after choke_word l) refl e

  -- what a PLAN or a CANNOT says, by its first line
  abbrev plans : List ℕ → Lines → Sheet
  plans l ls = count_says (λ n. eqb n (length j.calls)) (λ n. lines_due bad (path_line j) (spares_say j) [] n 2 ls) (numbers_after plan_word l)

  abbrev cannots : List ℕ → Lines → Sheet
  cannots l ls = count_says (λ n. ltb n (length j.calls)) (λ n. rest_says bad (choke_line j) cannot [] n 2 ls) (numbers_after cannot_word l)

  pub record PlanBack (b : List ℕ) (ps : List Path) (ss : List Ride) : Type 0 where
    pub text : b ≡ plan_text ps ss
    pub size : length ps ≡ length j.calls
    pub left : length ss ≡ length j.carts - length j.calls
    pub paths : (p : Path) → In p ps → known_path j p ≡ true
    pub spares : (s : Ride) → In s ss → known_spare j s ≡ true

  plans_back : (b l : List ℕ) (ls : Lines) (ps : List Path) (ss : List Ride) → lines_of b ≡ more l ls → plans l ls ≡ plan ps ss → PlanBack b ps ss
  plans_back b l ls ps ss q e =
      let not_bad : (n : ℕ) → bad n ≡ plan ps ss → ⊥ = λ n. plan_not_bad n ps ss in
      let (n, f, g, h) = count_back (λ n. eqb n (length j.calls)) (λ n. lines_due bad (path_line j) (spares_say j) [] n 2 ls) (numbers_after plan_word l) (plan ps ss) (not_bad 1) e in
      let (s, q₁, q₂) = lines_more b l ls q in
      let r = lines_back (path_line j) (λ p. path_word) path_numbers (λ p. known_path j p ≡ true) path_back (plan ps ss) not_bad (spares_say j) [] n 2 ls s q₂ h in
      let (rs, c, w, t, z) = rest_back (spare_line j) (λ s. spare_word) spare_numbers (λ s. known_spare j s ≡ true) spare_back (plan ps ss) not_bad (plan r.l)
      (length j.carts - length j.calls) r.n r.ls r.s r.behind r.says in
      let (x, y) = plan_same r.l ps rs ss z in
      let k : length ps ≡ n = ap length (sym x) ∙ r.size in
      let rest : s ≡ lines_text (λ p. path_word) path_numbers ps ++ lines_text (λ s. spare_word) spare_numbers ss =
      r.text ∙ ap (λ v. lines_text (λ p. path_word) path_numbers r.l ++ v) w ∙ (λ i. lines_text (λ p. path_word) path_numbers (x i) ++ lines_text (λ s. spare_word) spare_numbers (y i)) in
      record {
        text = head_joined plan_word b l s _ n q₁ (after_back plan_word l (n ∷ []) f) rest
            ∙ ap (λ v. line plan_word (v ∷ []) ++ (lines_text (λ p. path_word) path_numbers ps ++ lines_text (λ s. spare_word) spare_numbers ss)) (sym k);
        size = k ∙ eqb-true n (length j.calls) g;
        left = ap length (sym y) ∙ c;
        paths = λ p i. r.good p (rw x i);
        spares = λ s i. t s (rw y i);
      }

  pub plan_back : (b : List ℕ) (ps : List Path) (ss : List Ride) → read_sheet j b ≡ plan ps ss → PlanBack b ps ss
  unfolding read_sheet
  plan_back b ps ss e = go (lines_of b) refl e
    where
      go : (ls : Lines) → lines_of b ≡ ls → head_says j ls ≡ plan ps ss → PlanBack b ps ss
      go done q e = absurd (plan_not_bad 1 ps ss e)
      go cut q e = absurd (plan_not_bad 1 ps ss e)
      go (more l ls) q e = by (opens plan_word l) e
        where
          by : (t : Bool) → cond t (plans l ls) (cannots l ls) ≡ plan ps ss → PlanBack b ps ss
          by true e = plans_back b l ls ps ss q e
          by false e =
              let not_bad : (n : ℕ) → bad n ≡ plan ps ss → ⊥ = λ n. plan_not_bad n ps ss in
              let (n, f, g, h) = count_back (λ n. ltb n (length j.calls)) (λ n. rest_says bad (choke_line j) cannot [] n 2 ls) (numbers_after cannot_word l) (plan ps ss) (not_bad 1) e in
              absurd (rest_not (choke_line j) choke_opens choke_numbers (λ x. known_choke j x ≡ true) choke_back (plan ps ss) not_bad cannot (λ xs f. plan_not_cannot ps ss xs (sym f)) n 2 ls h)

  abbrev CannotBack : List ℕ → List Choke → Type 0
  CannotBack b xs = (b ≡ cannot_text xs) × (length xs < length j.calls) × ((x : Choke) → In x xs → known_choke j x ≡ true)

  cannots_back : (b l : List ℕ) (ls : Lines) (xs : List Choke) → lines_of b ≡ more l ls → cannots l ls ≡ cannot xs → CannotBack b xs
  cannots_back b l ls xs q e =
      let not_bad : (n : ℕ) → bad n ≡ cannot xs → ⊥ = λ n. cannot_not_bad n xs in
      let (n, f, g, h) = count_back (λ n. ltb n (length j.calls)) (λ n. rest_says bad (choke_line j) cannot [] n 2 ls) (numbers_after cannot_word l) (cannot xs) (not_bad 1) e in
      let (s, q₁, q₂) = lines_more b l ls q in
      let (ys, c, w, t, z) = rest_back (choke_line j) choke_opens choke_numbers (λ x. known_choke j x ≡ true) choke_back (cannot xs) not_bad cannot n 2 ls s q₂ h in
      let x = cannot_same ys xs z in
      let k : length xs ≡ n = ap length (sym x) ∙ c in (
        head_joined cannot_word b l s (lines_text choke_opens choke_numbers xs) n q₁ (after_back cannot_word l (n ∷ []) f) (w ∙ ap (lines_text choke_opens choke_numbers) x)
            ∙ ap (λ v. line cannot_word (v ∷ []) ++ lines_text choke_opens choke_numbers xs) (sym k),
        omega (arith, ltb-true n (length j.calls) g),
        λ y i. t y (rw x i),
      )

  pub cannot_back : (b : List ℕ) (xs : List Choke) → read_sheet j b ≡ cannot xs → CannotBack b xs
  unfolding read_sheet
  cannot_back b xs e = go (lines_of b) refl e
    where
      go : (ls : Lines) → lines_of b ≡ ls → head_says j ls ≡ cannot xs → CannotBack b xs
      go done q e = absurd (cannot_not_bad 1 xs e)
      go cut q e = absurd (cannot_not_bad 1 xs e)
      go (more l ls) q e = by (opens plan_word l) e
        where
          not_spares : (ps : List Path) (n : ℕ) (ls : Lines) → spares_say j ps n ls ≡ cannot xs → ⊥
          not_spares ps n ls e = rest_not (spare_line j) (λ s. spare_word) spare_numbers (λ s. known_spare j s ≡ true) spare_back (cannot xs) (λ n. cannot_not_bad n xs) (plan ps)
              (λ ss. plan_not_cannot ps ss xs) (length j.carts - length j.calls) n ls e

          by : (t : Bool) → cond t (plans l ls) (cannots l ls) ≡ cannot xs → CannotBack b xs
          by true e =
              let (n, f, g, h) = count_back (λ n. eqb n (length j.calls)) (λ n. lines_due bad (path_line j) (spares_say j) [] n 2 ls) (numbers_after plan_word l) (cannot xs) (cannot_not_bad 1 xs) e in
              absurd (lines_not (path_line j) (λ p. path_word) path_numbers (λ p. known_path j p ≡ true) path_back (cannot xs) (λ n. cannot_not_bad n xs) (spares_say j) not_spares [] n 2 ls h)
          by false e = cannots_back b l ls xs q e

-- Two texts are equal only if what they write is.
module _ (j : Job) (f : Fit j) where
  -- what a plan's lines say is known, and a line for each call and each cart
  pub record Sayable (ps : List Path) (ss : List Ride) : Type 0 where
    pub size : length ps ≡ length j.calls
    pub all : length ps + length ss ≡ length j.carts
    pub paths : (p : Path) → In p ps → known_path j p ≡ true
    pub spares : (s : Ride) → In s ss → known_spare j s ≡ true

  said_so : (ps : List Path) (ss : List Ride) → Sayable ps ss → read_sheet j (plan_text ps ss) ≡ plan ps ss
  said_so ps ss h = plan_read j f ps ss h.size h.all h.paths h.spares

  pub plan_once : (ps qs : List Path) (ss rs : List Ride) → Sayable ps ss → Sayable qs rs → plan_text ps ss ≡ plan_text qs rs → (ps ≡ qs) × (ss ≡ rs)
  plan_once ps qs ss rs h k e = plan_same ps qs ss rs (sym (said_so ps ss h) ∙ ap (read_sheet j) e ∙ said_so qs rs k)

  pub cannot_once : (xs ys : List Choke) → length xs < length j.calls → ((x : Choke) → In x xs → known_choke j x ≡ true)
      → length ys < length j.calls → ((x : Choke) → In x ys → known_choke j x ≡ true) → cannot_text xs ≡ cannot_text ys → xs ≡ ys
  cannot_once xs ys l g l' g' e = cannot_same xs ys (sym (cannot_read j f xs l g) ∙ ap (read_sheet j) e ∙ cannot_read j f ys l' g')
