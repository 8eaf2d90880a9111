-- `from_node` answers what `find` does for the row of the node's cell at its step, or a guess that is a position. No loop. Assumes nothing.
use mathlib.Core.Path.{◌≡◌}
use Rattle.floor.specs.Tables.{row_at}
use Rattle.route.proofs.SearchFinds.{row-cells}
use Rattle.route.proofs.search.from_node.Goals as goal
use Rattle.route.proofs.search.from_node.Goals.{After-row_at-row}

row_is : (c : After-row_at-row) →
    (let a = c.args in c.row_at-row.result.now ≡ row_at a.tables.now.near.near a.tables.now.near.begin a.tables.now.shut a.node.cell a.node.step)
row_is c = c.row_at-row.ensures

pub guess-requires : goal.guess-requires
guess-requires c =
    let v = c.args.node in
    let (j, h, n, o) = c.requires in
    (j, h, row-cells n o v.cell v.step h.1.0 (row_is (goal.at.guess-requires c).After-row_at-row))

pub find-requires : goal.find-requires
find-requires c =
    let v = c.args.node in
    let (j, h, n, o) = c.requires in
    (j, h, row-cells n o v.cell v.step h.1.0 (row_is (goal.at.find-requires c).After-row_at-row))
