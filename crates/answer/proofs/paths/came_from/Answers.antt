-- The two tests tell the three ways in which a cart can have come. Both nodes that are read are known ones. Assumes nothing.
use Rattle.model.specs.Job.{Job}
use Rattle.model.specs.Choke.{point}
use Rattle.network.specs.Graph.{Inside}
use Rattle.network.specs.Keeping.{KeepsAll}
use Rattle.network.proofs.StoreLaws.{is_in_use}
use Rattle.network.proofs.KeepLaws.{keeps_within}
use Rattle.answer.proofs.PathLinks.{other_known, from_same}
use Rattle.answer.proofs.paths.came_from.Goals as goal
use Rattle.answer.proofs.paths.came_from.Goals.{After-prev-from}

-- The node of the cell that the flow tells.
other : (c : After-prev-from) → (j : Job) × KeepsAll j c.args.store.now.grid c.args.store.now.bytes.now × Inside j (point c.prev-from.result c.args.node.step)
other c = let (j, h, k) = c.requires.0 in (j, h, other_known h _ k c.requires.1 c.requires.2 c.place.ensures c.prev-from.ensures.0)

pub place-other-requires : goal.place-other-requires
place-other-requires c = let (j, h, k) = other (goal.at.place-other-requires c).After-prev-from in (keeps_within h k).1

pub used-requires : goal.used-requires
used-requires c = let (j, h, k) = other (goal.at.used-requires c).After-prev-from in rw c.place-other.ensures (keeps_within h k)

pub prev-requires : goal.prev-requires
prev-requires c = let (j, h, k) = other (goal.at.prev-requires c).After-prev-from in rw c.place-other.ensures (keeps_within h k)

pub returns : goal.returns
returns c = λ j h k.
    from_same h _ k c.requires.1 c.requires.2 c.place.ensures c.prev-from.ensures.0 c.place-other.ensures
    c.prev.ensures.0
    (is_in_use c.used.ensures c.if-not-used.false) c.if-prev-cell.false
