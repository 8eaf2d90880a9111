-- The bytes of the word are those of the text, or one of them differs, or the text is too short. Assumes nothing.
use mathlib.Core.Path.{◌∙◌}
use Rattle.std.proofs.Common.{rules, tests}
use Rattle.std.proofs.lemmas.Iterator.{cases_from_all, YieldsList-from_slice, YieldsList-from_zip}
use native.Mathlib.Omega.{arith}
use lib.ListN.{length}
use borrow.Author.Tests.{lt-leb}
use Rattle.text.proofs.Steps.{Alike, starts_by, starts_short}
use Rattle.text.proofs.scan.opens_with.Goals as goal

pub returns-then-word-s : goal.returns-then-word-s
returns-then-word-s c =
    let w = c.args.word.now in
    let s = c.args.s.now in
    starts_by w s _ (omega arith)
    (cases_from_all c.all.new.self _ _ Alike (λ p. Alike p → ⊥) c.all.ensures.ran
    (YieldsList-from_zip (YieldsList-from_slice {s = c.zip.result.a} w cc) (YieldsList-from_slice {s = c.zip.result.b} s cc))
    (λ x q k. search (rules, tests))
    (λ x q k. search (rules, tests)))

pub returns-else-word-s : goal.returns-else-word-s
returns-else-word-s c = let w = c.args.word.now in let s = c.args.s.now in lt-leb (length w) (length s) (omega arith) ∙ starts_short w s (omega arith)
