-- `of` has the tables filled, and the cells of the whole calls taken out of that of the lifts alone. Assumes nothing.
use Rattle.chokejudge.specs.Lifts.{lifted_to}
use Rattle.chokejudge.proofs.calls.Meetings.of.Goals as goal

pub returns : goal.returns
returns c = (
  c.bays.ensures,
  record { all = c.by_cell.result; filled = c.by_cell.ensures lifted_to (λ q r e. e); passed = c.pass_over.ensures },
  c.of.ensures,
)
