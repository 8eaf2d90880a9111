-- `guess` answers a position that the node leads to and that is not marked, or none: the hint's cell, if it is one of the row, is looked at as any other. Assumes nothing.
use Prim.Native.Nat.{◌-◌}
use mathlib.Core.Path.{◌∙◌}
use mathlib.Core.Logic.{inl}
use native.Mathlib.Omega.{arith}
use Rattle.model.specs.Lists.{In}
use Rattle.model.specs.Choke.{point}
use Rattle.network.specs.Store.{as_point}
use Rattle.route.specs.Finds.{By, FromNode, Stamped}
use Rattle.route.proofs.SearchFinds.{found_guess, in_at}
use Rattle.route.proofs.search.guess.Goals as goal
use Rattle.route.proofs.search.guess.Goals.{After-from-cell}

-- The hint's cell is one of the row.
in_row : (c : After-from-cell) → In c.from-cell.result c.args.row.now
in_row c = let k = c.in_ok-b.ensures.lookup in in_at c.args.row.now c.args.hint (c.from-cell.ensures ∙ k.3.1 0) k.3.0

pub look-requires : goal.look-requires
look-requires c = let (j, h, k) = c.requires in (j, (h.0, (k _ (in_row (goal.at.look-requires c).After-from-cell), omega (arith, h.1.1))))

pub returns : goal.returns
returns c =
    let pos = c.if-node-eq0.false in
    let a = c.args in
    found_guess (By a.store.now.grid a.store.now.bytes.now (point c.from-cell.result (a.node.step - 1))) (FromNode a.store.now.grid a.store.now.bytes.now a.shut.now a.row.now (as_point a.node))
    (Stamped a.store.now.grid a.store.now.bytes.now a.stamp) (λ y via b. inl (
      omega (arith, pos),
      (
        c.from-cell.result,
        in_row (goal.at.returns c).After-from-cell,
        omega
            (arith, pos, c.if-from-node.false, c.from.ensures),
        b,
      ),
    )) c.look.result c.look.ensures
