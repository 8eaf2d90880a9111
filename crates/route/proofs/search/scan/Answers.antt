-- `scan` looks by way of the cells of a row, one by one, past those that are closed at the next step. Invariant: by way of the cells passed all is marked. Assumes nothing.
use native.Mathlib.Omega.{arith}
use Rattle.model.specs.Lists.{In}
use Rattle.route.proofs.SearchFinds.{in_at, row_more, row_all}
use Rattle.route.proofs.search.scan.Goals as goal
use Rattle.route.proofs.search.scan.Goals.{After-from-cell, else-step-from, then-step-from+in_default}

-- The cell at hand is one of the row.
in_row : (c : After-from-cell) → In c.from-cell.result c.args.row.now
in_row c = in_at c.args.row.now c.loop-b.b-index c.from-cell.ensures c.loop-b-test.true

pub look-requires : goal.look-requires
look-requires c = let (j, h, k, l) = c.requires in (j, (h, (k _ (in_row (goal.at.look-requires c).After-from-cell), l)))

pub returns-in-Some : goal.returns-in-Some
returns-in-Some c =
    let k = c.in-Some.ensures in
    ((c.from-cell.result, in_row (goal.at.returns-in-Some c).After-from-cell, rw c.from.ensures at c.if-step-from.true, k.0), k.1)

pub loop-b-preserved : goal.loop-b-preserved
loop-b-preserved c =
    let a = c.args in
    let l = c.loop-b in
    row_more a.store.now.grid a.store.now.bytes.now a.shut.now a.row.now a.step a.stamp l.b-index l.invariant c.from-cell.result c.from-cell.ensures
    (λ o. elim c.if-step-from.branch [
      | then-step-from+in_default w ↦ rw w.in_default.is at w.look.ensures
      | else-step-from w ↦ absurd (omega (arith, w.if-step-from.false, c.from.ensures, o))
    ])

pub returns : goal.returns
returns c =
    let a = c.args in
    let l = c.loop-b in
    row_all a.store.now.grid a.store.now.bytes.now a.shut.now a.row.now a.step a.stamp l.b-index l.invariant (omega arith)
