-- `size_line` meets its contract: the word stands at the place, and `size_at` reads the size behind it. Assumes nothing.
use mathlib.Core.Path.{◌≡◌, sym, ◌∙◌}
use mathlib.Core.List.{List}
use mathlib.Core.Bool.{true, false≢true}
use Prim.Native.Nat.{ℕ, ◌+◌}
use lib.ListN.{length}
use Rattle.std.specs.Prelude.{Some, None}
use Rattle.std.specs.Prelude as std
use Rattle.text.specs.declared.Number.{Number}
use Rattle.model.proofs.Written.{free}
use Rattle.gridmap.specs.Lines.{opens_at, DigitsAt, SizeAt}
use Rattle.gridmap.proofs.Lines.{line_free, opens_inside, size_said, size_unsaid}
use Rattle.gridmap.proofs.head.size_line.Goals as goal
use Rattle.gridmap.proofs.head.size_line.Goals.{Else-not-opens_at}

pub returns-then-not-opens_at : goal.returns-then-not-opens_at
returns-then-not-opens_at c =
    let a = c.args in
    size_unsaid a.word.now a.map.now a.at (λ o n next d. false≢true (sym (c.if-not-opens_at.true) ∙ c.opens_at.ensures ∙ o))

opened : (c : Else-not-opens_at) → let a = c.args in opens_at a.word.now a.map.now a.at ≡ true
opened c = sym c.opens_at.ensures ∙ c.if-not-opens_at.false

pub size_at-requires : goal.size_at-requires
size_at-requires c = let a = c.args in opens_inside a.word.now a.map.now a.at (opened (goal.at.size_at-requires c).Else-not-opens_at)

-- by what stands behind the word
by_digits : (word s : List ℕ) (at : ℕ) (r : std.Option Number) → free 10 word ≡ true → opens_at word s at ≡ true → DigitsAt s (at + length word) r → SizeAt word s at r
by_digits word s at None e o d = size_unsaid word s at (λ _. d)
by_digits word s at (Some n) e o d = (size_said word s at e o n.value n.next d, d.low, d.high)

pub returns : goal.returns
returns c =
    let a = c.args in
    by_digits a.word.now a.map.now a.at c.size_at.result (line_free a.word.now c.requires.1) (opened (goal.at.returns c).Else-not-opens_at) c.size_at.ensures
