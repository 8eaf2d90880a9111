-- `line` hands out what stands before the first line feed from `at` on, if there is one. Assumes nothing.
use Rattle.text.proofs.LineLaws.{feed_none, line_at, to_end}
use Rattle.text.proofs.scan.line.Goals as goal

pub returns-in_err-n : goal.returns-in_err-n
returns-in_err-n c = let a = c.args in rw c.from_residual.ensures (feed_none _ (rw (to_end a.s.now a.at) at c.in_err-n.ensures))

pub returns : goal.returns
returns c = let a = c.args in rw (to_end a.s.now a.at) (line_at a.s.now a.at c.in_ok-n.n (rw (to_end a.s.now a.at) at c.in_ok-n.ensures))
