-- `word_line` meets its contract: where the word stands at the place and a line feed behind it, that is the line; a line that is the word passes both tests.
-- Assumes nothing.
use mathlib.Core.Path.{◌≡◌, refl, sym, ◌∙◌}
use mathlib.Core.List.{List}
use mathlib.Core.Bool.{Bool, true, false, false≢true}
use Prim.Native.Nat.{ℕ, ◌+◌}
use lib.Dec.{eqb}
use lib.ListN.{length, get_or}
use borrow.Author.Tests.{eqb-true, eqb-false}
use Rattle.model.proofs.Written.{free}
use Rattle.gridmap.specs.Lines.{opens_at, WordAt}
use Rattle.gridmap.proofs.Lines.{line_free, opens_inside, word_said, word_unsaid}
use Rattle.gridmap.proofs.head.word_line.Goals as goal
use Rattle.gridmap.proofs.head.word_line.Goals.{Then-opens_at}

opened : (c : Then-opens_at) → let a = c.args in opens_at a.word.now a.map.now a.at ≡ true
opened c = sym c.opens_at.ensures ∙ c.if-opens_at.true

pub bounds-map-at : goal.bounds-map-at
bounds-map-at c = let a = c.args in opens_inside a.word.now a.map.now a.at (opened (goal.at.bounds-map-at c).Then-opens_at)

-- by the byte behind the word
by_feed : (word s : List ℕ) (at : ℕ) → free 10 word ≡ true → opens_at word s at ≡ true → WordAt word s at (eqb (get_or s (at + length word) 0) 10)
by_feed word s at e o = go (eqb (get_or s (at + length word) 0) 10) refl
  where
    go : (t : Bool) → eqb (get_or s (at + length word) 0) 10 ≡ t → WordAt word s at t
    go false q = word_unsaid word s at (λ o f. eqb-false _ _ q f)
    go true q = word_said word s at e o (eqb-true _ _ q)

pub returns-then-opens_at : goal.returns-then-opens_at
returns-then-opens_at c = let a = c.args in
    by_feed a.word.now a.map.now a.at (line_free a.word.now c.requires.1) (opened (goal.at.returns-then-opens_at c).Then-opens_at)

pub returns-else-opens_at : goal.returns-else-opens_at
returns-else-opens_at c =
    let a = c.args in
    rw c.if-opens_at.false (word_unsaid a.word.now a.map.now a.at (λ o f. false≢true (sym (c.if-opens_at.false) ∙ c.opens_at.ensures ∙ o)))
