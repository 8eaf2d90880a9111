-- `look` answers the one position that lies by way of the node, unless it is marked. Assumes nothing.
use Rattle.route.specs.Finds.{Stamped}
use Rattle.route.proofs.SearchFinds.{by_down}
use Rattle.route.proofs.search.look.Goals as goal

pub returns-then-used : goal.returns-then-used
returns-then-used c =
    let a = c.args in
    by_down c.requires.1 c.place-v.ensures c.used.ensures c.if-used.true c.drop_out.result (Stamped a.store.now.grid a.store.now.bytes.now a.stamp) c.drop_out.ensures
