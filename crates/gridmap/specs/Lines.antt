-- A line at a place of a text, as a reader of one line knows it.
use Rattle.std.specs.Prelude.{Some, None}
use Rattle.std.specs.Prelude as std
use Rattle.text.specs.declared.Number.{Number}
use Rattle.std.specs.Prelude.{ℕ, ◌+◌, ◌/◌, ◌%◌, ◌<◌, ◌≤◌, ◌≡◌, List, ◌⊎◌, Bool, true, false, ◌&&◌, ltb, length, get_or, take, drop}
use Rattle.std.proofs.Math.Option.{Option, none, some}
use Rattle.model.specs.Limits.{max_side}
use Rattle.model.specs.Text.{Lines, more, lines_of, starts_with}
use Rattle.model.specs.GridMap.{word_line, size_line}

module _ {A : Type 0} (say : List ℕ → Option A) (s : List ℕ) (at : ℕ) where
  -- The line at `at` says a, and `next` is the place behind its line feed.
  pub record SaidAt (a : A) (next : ℕ) : Type 0 where
    pub line : List ℕ
    pub lines : lines_of (drop at s) ≡ more line (lines_of (drop next s))
    pub says : say line ≡ some a
    pub inside : next ≤ length s

  -- There is no line at `at` that says anything.
  abbrev pub UnsaidAt : Type 0
  UnsaidAt = (l : List ℕ) (ls : Lines) → lines_of (drop at s) ≡ more l ls → say l ≡ none

-- the word stands at `at`, and a byte behind it
abbrev pub opens_at : List ℕ → List ℕ → ℕ → Bool
opens_at word s at = ltb (at + length word) (length s) && starts_with word (take (length word) (drop at s))

abbrev pub WordAt : List ℕ → List ℕ → ℕ → Bool → Type 0
WordAt word s at false = UnsaidAt (word_line word) s at
WordAt word s at true = SaidAt (word_line word) s at word (at + length word + 1)

-- The digits of the size n, one or two, stand from p on, then a line feed; `next` is the place behind it.
pub record Digits (s : List ℕ) (p n next : ℕ) : Type 0 where
  pub low : 0 < n
  pub high : n ≤ max_side
  pub bytes : ((n < 10) × (p + 1 < length s) × (get_or s p 0 ≡ 48 + n) × (get_or s (p + 1) 0 ≡ 10) × (next ≡ p + 1 + 1))
      ⊎ ((10 ≤ n) × (p + 1 + 1 < length s) × (get_or s p 0 ≡ 48 + n / 10) × (get_or s (p + 1) 0 ≡ 48 + n % 10) × (get_or s (p + 1 + 1) 0 ≡ 10) × (next ≡ p + 1 + 1 + 1))

abbrev pub DigitsAt : List ℕ → ℕ → std.Option Number → Type 0
DigitsAt s p None = (n next : ℕ) → Digits s p n next → ⊥
DigitsAt s p (Some n) = Digits s p n.value n.next

abbrev pub SizeAt : List ℕ → List ℕ → ℕ → std.Option Number → Type 0
SizeAt word s at None = UnsaidAt (size_line word) s at
SizeAt word s at (Some n) = SaidAt (size_line word) s at n.value n.next × (0 < n.value) × (n.value ≤ max_side)
