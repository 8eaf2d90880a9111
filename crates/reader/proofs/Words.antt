-- What a line says, by the word that opens it: in plain lists. The word is the first of the five that the line begins with, and what follows it and its tab are its fields. By cases on
-- the five tests. Assumes nothing.
use Prim.Native.Nat.{ℕ}
use mathlib.Core.Path.{◌≡◌, refl, sym, ap, ◌∙◌}
use mathlib.Core.List.{List, [], ◌∷◌}
use mathlib.Core.Bool.{Bool, true, false, cond, ◌&&◌}
use lib.Dec.{eqb}
use lib.ListN.{length, take, drop}
use Rattle.std.specs.Prelude.{Option, Some, None, nat_eq}
use Rattle.std.specs.Cmp.Lexicographic.{pointwise}
use Rattle.model.specs.declared.answer.Answer.TheVariants.{BadLine}
use Rattle.model.specs.Job as model
use Rattle.model.specs.Job.{lift, bay}
use Rattle.model.specs.Text.{starts_with, fields_of, scaled_of, opens, floor_word, track_word, cart_word, call_word, bay_word}
use Rattle.model.specs.ReadJob.{Said, wrong, floor_line, track_line, cart_line, call_line, fields_say, line_says}
use Rattle.model.specs.ReadJob as read
use Rattle.job.specs.declared.state.CallKind.TheVariants.{Lift, Bay}
use Rattle.reader.specs.declared.line.Kind.{Kind}
use Rattle.reader.specs.declared.line.Kind.TheVariants.{Floor, Track, Cart, Call}
use Rattle.reader.specs.Lines.{kind_of, opened, word_of}

-- A word: the library compares it with as many bytes.
pub strips_as : (w s : List ℕ) → pointwise nat_eq (take (length w) s) w ≡ starts_with w s
strips_as [] s = refl
strips_as (a ∷ w) [] = refl
strips_as (a ∷ w) (b ∷ s) = go (eqb b a) (strips_as w s)
  where
    go : (t : Bool) → pointwise nat_eq (take (length w) s) w ≡ starts_with w s → (t && pointwise nat_eq (take (length w) s) w) ≡ cond t (starts_with w s) false
    go true h = h
    go false h = refl

-- The first of the five words that opens the line.
module _ (l : List ℕ) where
  pub word_floor : opens floor_word l ≡ true → opened Floor 6 l ≡ word_of l
  word_floor f = simp f

  module _ (f : opens floor_word l ≡ false) where
    pub word_track : opens track_word l ≡ true → opened Track 6 l ≡ word_of l
    word_track t = simp (f, t)

    module _ (t : opens track_word l ≡ false) where
      pub word_cart : opens cart_word l ≡ true → opened Cart 5 l ≡ word_of l
      word_cart c = simp (f, t, c)

      module _ (c : opens cart_word l ≡ false) where
        pub word_call : opens call_word l ≡ true → opened (Call Lift) 5 l ≡ word_of l
        word_call d = simp (f, t, c, d)

        module _ (d : opens call_word l ≡ false) where
          pub word_bay : opens bay_word l ≡ true → opened (Call Bay) 4 l ≡ word_of l
          word_bay e = simp (f, t, c, d, e)

          pub word_unknown : opens bay_word l ≡ false → None ≡ word_of l
          word_unknown e = simp (f, t, c, d, e)

-- What a line says by the word that opens it.
unfoldable pub word_says : model.Job → Option (Kind × List ℕ) → Said
word_says j (Some (k, fields)) = fields_say scaled_of j (kind_of k) (fields_of fields)
word_says j None = wrong BadLine

pub line_by : (j : model.Job) (l : List ℕ) → word_says j (word_of l) ≡ line_says scaled_of j l
unfolding word_says
line_by j l = go (opens floor_word l) (opens track_word l) (opens cart_word l) (opens call_word l) (opens bay_word l)
  where
    say : read.Kind → ℕ → Said
    say k n = fields_say scaled_of j k (fields_of (drop n l))

    go : (f t c d e : Bool) →
        word_says j (cond f (opened Floor 6 l) (cond t (opened Track 6 l) (cond c (opened Cart 5 l) (cond d (opened (Call Lift) 5 l) (cond e (opened (Call Bay) 4 l) None))))) ≡
        cond f (say floor_line 6) (cond t (say track_line 6) (cond c (say cart_line 5) (cond d (say (call_line lift) 5) (cond e (say (call_line bay) 4) (wrong BadLine)))))
    go true t c d e = refl
    go false true c d e = refl
    go false false true d e = refl
    go false false false true e = refl
    go false false false false true = refl
    go false false false false false = refl

pub part_says : (j : model.Job) (l : List ℕ) (k : Kind) (fields : List ℕ) → word_of l ≡ Some (k, fields) → fields_say scaled_of j (kind_of k) (fields_of fields) ≡ line_says scaled_of j l
unfolding word_says
part_says j l k fields e = ap (word_says j) (sym e) ∙ line_by j l
