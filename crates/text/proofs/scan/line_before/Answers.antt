-- `line_before` hands out the part from `at` up to one before the place behind the line: the line without its line feed. Assumes nothing.
use native.Mathlib.Omega.{arith}
use Rattle.text.proofs.LineLaws.{line_part, line_bound}
use Rattle.text.proofs.scan.line_before.Goals as goal

pub slice_bounds-result-end : goal.slice_bounds-result-end
slice_bounds-result-end c = omega (arith, line_bound c.args.s.now c.args.at c.requires.0)

pub returns : goal.returns
returns c = line_part c.args.s.now c.args.at _ (omega (arith, c.requires.1))
