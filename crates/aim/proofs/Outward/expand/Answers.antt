-- `expand` puts cells of the row at the end of the queue, which holds known cells all along. Assumes nothing.
use Prim.Native.Nat.{◌<◌}
use native.Mathlib.Omega.{arith}
use lib.ListN.{get_or}
use Rattle.model.proofs.Lists.{in_get_or}
use Rattle.aim.proofs.CellsLaws.{cells_more}
use Rattle.aim.proofs.Outward.expand.Goals as goal
use Rattle.aim.proofs.Outward.expand.Goals.{In-loop-i, then-not-self-x+then-not-is_full+else-is_free, else-not-self-x}

-- The cell at hand is a known one.
known : (c : In-loop-i) → get_or c.args.row.now c.loop-i.i 0 < c.args.store.now.grid.cells
known c = c.requires.0 _ (in_get_or c.args.row.now c.loop-i.i 0 c.loop-i-test.true)

pub is_free-requires : goal.is_free-requires
is_free-requires c =
    let k = known (goal.at.is_free-requires c).In-loop-i in
    (omega (arith, k, c.from-x.ensures), (c.requires.3, omega (arith, k, c.from-x.ensures)))

pub returns-then-is_free : goal.returns-then-is_free
returns-then-is_free c =
    let k = known (goal.at.returns-then-is_free c).In-loop-i in
    (rw c.push.ensures.items (cells_more _ _ _ c.loop-i.invariant k), omega (arith, k, c.from-x.ensures))

pub loop-i-preserved : goal.loop-i-preserved
loop-i-preserved c =
    let k = known (goal.at.loop-i-preserved c).In-loop-i in
    elim c.if-not-self-x.branch [
      | then-not-self-x+then-not-is_full+else-is_free w ↦ rw (w.self-is, w.push.ensures.items) (cells_more _ _ _ c.loop-i.invariant k)
      | else-not-self-x w ↦ rw w.self-is c.loop-i.invariant
    ]
