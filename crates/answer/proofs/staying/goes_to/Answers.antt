-- The tests tell the ways in which a cart can go on. All nodes that are read are known ones. Assumes nothing.
use Rattle.network.proofs.StoreLaws.{is_unused, is_in_use}
use Rattle.answer.proofs.StayLinks.{on_stands, on_free, on_other, on_same}
use Rattle.answer.proofs.staying.goes_to.Goals as goal

pub returns-then-on-cell : goal.returns-then-on-cell
returns-then-on-cell c = λ j h u. on_stands h _ u c.requires.1 c.place.ensures c.next-on.ensures.0 c.if-on-cell.true

pub returns-then-not-used : goal.returns-then-not-used
returns-then-not-used c = λ j h u.
    on_free h _ u c.requires.1 c.place.ensures c.next-on.ensures.0 c.place-beside.ensures (is_unused c.used.ensures c.if-not-used.true)

pub returns-then-prev-on : goal.returns-then-prev-on
returns-then-prev-on c = λ j h u.
    on_other h _ u c.requires.1 c.place.ensures c.next-on.ensures.0 c.place-beside.ensures c.prev.ensures.0 c.if-prev-on.true

pub returns : goal.returns
returns c = λ j h u.
    on_same h _ u c.requires.1 c.place.ensures c.next-on.ensures.0 c.place-beside.ensures c.prev.ensures.0
    (is_in_use c.used.ensures c.if-not-used.false) c.if-prev-on.false
