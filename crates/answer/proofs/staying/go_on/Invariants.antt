-- `go_on` meets its contract: the walk is written from its start on. The invariant: the row has the cells up to the step t, where the cart is on the cell `at`. Assumes nothing.
use mathlib.Core.Path.{◌≡◌}
use lib.ListN.{length}
use Rattle.model.specs.Limits.{max_steps}
use Rattle.model.specs.Job.{Job}
use Rattle.model.specs.Choke.{point}
use Rattle.network.specs.Keeping.{KeepsAll}
use Rattle.answer.specs.Trail.{MeetsNone}
use Rattle.answer.proofs.StayRows.{WalkedTo}
use Rattle.answer.proofs.staying.go_on.Given as goal

abbrev pub invariant-loop-t : goal.invariant-loop-t
invariant-loop-t l = (length l.row ≡ max_steps)
    × ((j : Job) → KeepsAll j l.store.grid l.store.bytes.now → MeetsNone j l.store.bytes.now (point l.cell 0) → WalkedTo j l.store.bytes.now l.cell l.row l.at l.t)
