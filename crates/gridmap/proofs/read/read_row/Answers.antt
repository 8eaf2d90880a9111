-- `read_row` reads a row. Invariant: the first c letters are walked over, and no more cells than letters were counted. Assumes nothing.
use Prim.Native.Nat.{◌+◌}
use mathlib.Core.Path.{◌≡◌, sym, ap, ◌∙◌}
use mathlib.Core.Bool.{true, false}
use native.Mathlib.Omega.{arith}
use lib.ListN.{length, get_or, length-set}
use Rattle.model.specs.GridMap.{is_cell, is_wall}
use Rattle.gridmap.proofs.RowWalk.{walked_none, walked_cell, walked_wall, walked_bad, walked_all}
use Rattle.gridmap.proofs.read.read_row.Goals as goal
use Rattle.gridmap.proofs.read.read_row.Goals.{then-cell, else-cell+else-not-wall}

pub loop-c-init : goal.loop-c-init
loop-c-init c = let a = c.args in (omega arith, walked_none a.row.now a.first a.cells a.places.now)

pub returns-then-not-wall : goal.returns-then-not-wall
returns-then-not-wall c =
    let a = c.args in
    let l = c.loop-c in
    walked_bad a.row.now a.first a.cells a.places.now l.invariant.1 (omega arith) (sym c.cell.ensures ∙ c.if-cell.false)
    (sym c.wall.ensures ∙ c.if-not-wall.true)

pub loop-c-preserved : goal.loop-c-preserved
loop-c-preserved c =
    let a = c.args in
    let l = c.loop-c in
    let row = a.row.now in
    elim c.if-cell.branch [
      | then-cell w ↦
          let e : is_cell (get_or row l.c 0) ≡ true = sym c.cell.ensures ∙ w.if-cell.true in (
            omega (arith, w.n-is),
            walked_cell row a.first a.cells a.places.now l.invariant.1 (omega arith) e
                (sym (length-set l.places l.n (a.first + l.c)) ∙ ap length (sym w.note_place.ensures) ∙ w.note_place.array_long) (w.places-is ∙ w.note_place.ensures) w.n-is,
          )
      | else-cell+else-not-wall w ↦
          let e : is_cell (get_or row l.c 0) ≡ false = sym c.cell.ensures ∙ w.if-cell.false in
          let f : is_wall (get_or row l.c 0) ≡ true = sym w.wall.ensures ∙ w.if-not-wall.false in
          (omega (arith, w.n-is), walked_wall row a.first a.cells a.places.now l.invariant.1 (omega arith) e f w.places-is w.n-is)
    ]

pub returns : goal.returns
returns c =
    let a = c.args in
    walked_all a.row.now a.first a.cells a.places.now c.loop-c.invariant.1 (omega arith)
