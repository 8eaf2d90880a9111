-- `go_on` meets its contract: the walk is written from its start on. The invariant: the row has the cells up to the step t, where the cart is on the cell `at`. Assumes nothing.
use Prim.Native.Nat.{◌+◌}
use native.Mathlib.Omega.{arith}
use lib.ListN.{set, length-set}
use Rattle.model.specs.Job.{Job}
use Rattle.model.specs.Choke.{point}
use Rattle.network.specs.Keeping.{KeepsAll}
use Rattle.answer.specs.Trail.{MeetsNone}
use Rattle.answer.proofs.SpareKeep.{top_few}
use Rattle.answer.proofs.StayRows.{WalkedTo, going_more, going_last, unmet_cell}
use Rattle.answer.proofs.staying.go_on.Goals as goal
use Rattle.answer.proofs.staying.go_on.Goals.{After-goes_to-at}

-- The cart goes on there.
goes : (c : After-goes_to-at) (j : Job) → KeepsAll j c.args.store.now.grid c.args.store.now.bytes.now
    → MeetsNone j c.args.store.now.bytes.now (point c.args.cell 0)
    → WalkedTo j c.args.store.now.bytes.now c.args.cell (set c.loop-t.row (c.loop-t.t + 1) c.goes_to-at.result) c.goes_to-at.result
    (c.loop-t.t + 1)
goes c j h u =
    let i = c.loop-t.invariant in
    let w = i.1 j h u in
    let more = c.loop-t-test.true in
    going_more h w (omega (arith, more)) (omega (arith, i.0, more, top_few h)) c.goes_to-at.result (c.goes_to-at.ensures j h w.unmet)

pub overflow_cast-row-in-loop-t : goal.overflow_cast-row-in-loop-t
overflow_cast-row-in-loop-t c = let (j, h, u) = c.requires in omega (arith, unmet_cell h u, unmet_cell h (goes (goal.at.overflow_cast-row-in-loop-t c).After-goes_to-at j h u).unmet)

pub bounds-row-t : goal.bounds-row-t
bounds-row-t c = omega (arith, c.loop-t-test.true, top_few c.requires.1)

pub loop-t-preserved : goal.loop-t-preserved
loop-t-preserved c = (simp length-set c.loop-t.invariant.0, λ j h u. goes (goal.at.loop-t-preserved c).After-goes_to-at j h u)

pub returns : goal.returns
returns c = λ j h u. going_last (c.loop-t.invariant.1 j h u) (omega (arith, c.loop-t-test.false))
