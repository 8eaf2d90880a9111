-- `seek` searches, and lays the way that a search finds; one that finds none leaves the flow as it was. No loop. Assumes nothing.
use Rattle.route.proofs.ServeLaws.{sought_none, may_lay, sought_some}
use Rattle.route.proofs.serve.seek.Goals as goal

pub returns-in_default-clause-sought : goal.returns-in_default-clause-sought
returns-in_default-clause-sought c = λ j h. sought_none (c.search-found.ensures.searched j h) h c.in_default.is

pub augment-requires : goal.augment-requires
augment-requires c =
    let (j, h) = c.requires in
    let s = c.search-found.ensures in
    (j, rw s.same.grid (may_lay (s.searched j h) h c.in-Some.is))

pub returns-clause-sought : goal.returns-clause-sought
returns-clause-sought c = λ j h.
    let s = c.search-found.ensures in
    let f = s.searched j h in
    let e = c.in-Some.is in
    sought_some f h e (c.augment.ensures.laid j (rw s.same.grid (may_lay f h e)))
