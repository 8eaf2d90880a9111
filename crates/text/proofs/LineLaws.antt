-- The lines of a text from an index on, by the end of the first: what a loop over lines cites. Where no line feed ends it the rest is cut;
-- else it is the first line. By induction over the rest. Assumes nothing.
use Prim.Native.Nat.{ℕ, suc, ◌+◌, ◌-◌, ◌≤◌, ◌<◌}
use mathlib.Core.Path.{◌≡◌, refl, sym, ap, ◌∙◌}
use mathlib.Core.List.{List, [], ◌∷◌, ◌++◌}
use mathlib.Core.Bool.{Bool, true, false, cond, not}
use native.Mathlib.Omega.{arith}
use lib.Dec.{eqb, ltb, leb}
use lib.ListN.{length, take, drop, length-append, length-drop}
use lib.Seq.{drop-drop, take_all}
use borrow.Author.Tests.{eqb-true, ltb-true, ltb-false, le-leb, lt-leb}
use Rattle.std.specs.Prelude.{◌==◌, Some, None, position}
use Rattle.std.specs.List.{position_or_len}
use Rattle.model.specs.Text.{done, cut, more, on_first, lines_of}
use Rattle.model.specs.ReadJob.{is_empty}
use Rattle.model.proofs.Basics.{nope}
use Rattle.text.specs.Scan.{line_of}

line_short : (s : List ℕ) → length (line_of s) ≤ length s
line_short [] = omega arith
line_short (b ∷ s) = go (eqb b 10) (line_short s)
  where
    go : (t : Bool) → length (line_of s) ≤ length s → length (cond t [] (b ∷ line_of s)) ≤ suc (length s)
    go true h = omega arith
    go false h = omega arith

line_front : (s : List ℕ) → take (length (line_of s)) s ≡ line_of s
line_front [] = refl
line_front (b ∷ s) = go (eqb b 10) (line_front s)
  where
    go : (t : Bool) → take (length (line_of s)) s ≡ line_of s → take (length (cond t [] (b ∷ line_of s))) (b ∷ s) ≡ cond t [] (b ∷ line_of s)
    go true h = refl
    go false h = ap (λ l. b ∷ l) h

-- The first line feed stands behind the line, which is the whole where there is none.
line_whole : (s : List ℕ) → length s ≤ length (line_of s) → line_of s ≡ s
line_whole s h = sym (line_front s) ∙ take_all (length (line_of s)) s h

line_split : (s : List ℕ) → length (line_of s) < length s → s ≡ line_of s ++ (10 ∷ drop (suc (length (line_of s))) s)
line_split [] h = absurd (omega arith)
line_split (b ∷ s) h = go (eqb b 10) refl h (line_split s)
  where
    go : (t : Bool) → eqb b 10 ≡ t → length (cond t [] (b ∷ line_of s)) < suc (length s) → (length (line_of s) < length s → s ≡ line_of s ++ (10 ∷ drop (suc (length (line_of s))) s))
        → b ∷ s ≡ cond t [] (b ∷ line_of s) ++ (10 ∷ drop (suc (length (cond t [] (b ∷ line_of s)))) (b ∷ s))
    go true q h ih = ap (λ x. x ∷ s) (eqb-true b 10 q)
    go false q h ih = ap (λ l. b ∷ l) (ih (omega arith))

feed_at : (s : List ℕ) → position_or_len (λ b. b == 10) s ≡ length (line_of s)
feed_at [] = refl
feed_at (b ∷ s) = go (eqb b 10) (feed_at s)
  where
    go : (t : Bool) → position_or_len (λ b. b == 10) s ≡ length (line_of s) → cond (not t) (1 + position_or_len (λ b. b == 10) s) 0 ≡ length (cond t [] (b ∷ line_of s))
    go true h = refl
    go false h = omega arith

module _ (s : List ℕ) where
  pub feed_none : None ≡ position (λ b. b == 10) s → line_of s ≡ s
  feed_none e = go (ltb (position_or_len (λ b. b == 10) s) (length s)) refl e
    where
      go : (t : Bool) → ltb (position_or_len (λ b. b == 10) s) (length s) ≡ t → None ≡ cond t (Some (position_or_len (λ b. b == 10) s)) None → line_of s ≡ s
      go true q e = nope (cc)
      go false q e = let k = ltb-false _ _ q in line_whole s (omega (arith, feed_at s))

  pub feed_some : (n : ℕ) → Some n ≡ position (λ b. b == 10) s → (n ≡ length (line_of s)) × (n < length s)
  feed_some n e = go (ltb (position_or_len (λ b. b == 10) s) (length s)) refl e
    where
      go : (t : Bool) → ltb (position_or_len (λ b. b == 10) s) (length s) ≡ t → Some n ≡ cond t (Some (position_or_len (λ b. b == 10) s)) None → (n ≡ length (line_of s)) × (n < length s)
      go true q e = let k = ltb-true _ _ q in let m : n ≡ position_or_len (λ b. b == 10) s = cc in (omega (arith, feed_at s), omega arith)
      go false q e = nope (cc)

no_feed : (s : List ℕ) → 0 < length s → length s ≤ length (line_of s) → lines_of s ≡ cut
no_feed [] n h = absurd (omega arith)
no_feed (b ∷ s) n h = go (eqb b 10) s h (λ m k. no_feed s m k)
  where
    go : (t : Bool) (s : List ℕ) → suc (length s) ≤ length (cond t [] (b ∷ line_of s)) → (0 < length s → length s ≤ length (line_of s) → lines_of s ≡ cut)
        → cond t (more [] (lines_of s)) (on_first b (lines_of s)) ≡ cut
    go true s h ih = absurd (omega arith)
    go false [] h ih = refl
    go false (c ∷ s) h ih = ap (on_first b) (ih (omega arith) (omega arith))

first_line : (s : List ℕ) → length (line_of s) < length s → lines_of s ≡ more (line_of s) (lines_of (drop (suc (length (line_of s))) s))
first_line [] h = absurd (omega arith)
first_line (b ∷ s) h = go (eqb b 10) h (λ k. first_line s k)
  where
    go : (t : Bool) → length (cond t [] (b ∷ line_of s)) < suc (length s)
        → (length (line_of s) < length s → lines_of s ≡ more (line_of s) (lines_of (drop (suc (length (line_of s))) s)))
        → cond t (more [] (lines_of s)) (on_first b (lines_of s)) ≡ more (cond t [] (b ∷ line_of s)) (lines_of (drop (suc (length (cond t [] (b ∷ line_of s)))) (b ∷ s)))
    go true h ih = refl
    go false h ih = ap (on_first b) (ih (omega arith))

-- What a reader of lines knows of the rest s: nothing is left; or the line l and its line feed stand in front of t; or no line feed stands in it.
pub lines_end : (s : List ℕ) → is_empty s ≡ true → lines_of s ≡ done
lines_end [] e = refl
lines_end (b ∷ s) e = nope (cc)

pub lines_left : (s : List ℕ) → is_empty s ≡ false → line_of s ≡ s → lines_of s ≡ cut
lines_left [] e q = nope (cc)
lines_left (b ∷ s) e q = no_feed (b ∷ s) (omega arith) (omega (arith, ap length q))

pub lines_next : (s l t : List ℕ) → (l ≡ line_of s) × (s ≡ l ++ (10 ∷ t)) → lines_of s ≡ more l (lines_of t)
lines_next s l t (q, e) =
    let n : length s ≡ length l + suc (length t) = ap length e ∙ length-append l (10 ∷ t) in
    let k : length (line_of s) ≡ length l = sym (ap length q) in
    let d : drop (suc (length l)) s ≡ t = ap (drop (suc (length l))) e ∙ behind l in
    first_line s (omega arith) ∙ rw (k, d, ← q)
  where
    behind : (l : List ℕ) → drop (suc (length l)) (l ++ (10 ∷ t)) ≡ t
    behind [] = refl
    behind (b ∷ l) = behind l

module _ (s : List ℕ) (at : ℕ) where
  -- a part up to the end
  pub to_end : take (length s - at) (drop at s) ≡ drop at s
  to_end = take_all (length s - at) (drop at s) (omega (arith, length-drop at s))

  -- the line, as the part that its end cuts off, and that this end is within the text
  pub line_part : (e : ℕ) → e ≡ at + length (line_of (drop at s)) → take (e - at) (drop at s) ≡ line_of (drop at s)
  line_part e end = let k : e - at ≡ length (line_of (drop at s)) = omega arith in ap (λ x. take x (drop at s)) k ∙ line_front (drop at s)

  pub line_bound : at ≤ length s → at + length (line_of (drop at s)) ≤ length s
  line_bound h = omega (arith, line_short (drop at s), length-drop at s)

  pub past_end : leb (length s) at ≡ is_empty (drop at s)
  past_end = go (drop at s) (length-drop at s)
    where
      go : (l : List ℕ) → length l ≡ length s - at → leb (length s) at ≡ is_empty l
      go [] h = le-leb _ _ (omega arith)
      go (b ∷ l) h = lt-leb _ _ (omega arith)

  -- the line before the first line feed from `at` on
  pub line_at : (n : ℕ) → Some n ≡ position (λ b. b == 10) (drop at s)
      → (take n (drop at s) ≡ line_of (drop at s)) × (drop at s ≡ take n (drop at s) ++ (10 ∷ drop (at + length (take n (drop at s)) + 1) s))
  line_at n e =
      let (m, h) = feed_some (drop at s) n e in
      let l : take n (drop at s) ≡ line_of (drop at s) = ap (λ x. take x (drop at s)) m ∙ line_front (drop at s) in
      let k : at + suc (length (line_of (drop at s))) ≡ at + length (line_of (drop at s)) + 1 = omega arith in
      (l, rw l (line_split (drop at s) (omega arith) ∙ ap (λ x. line_of (drop at s) ++ (10 ∷ x)) (drop-drop (suc (length (line_of (drop at s)))) at s ∙ ap (λ x. drop x s) k)))
