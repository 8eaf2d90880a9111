-- `search` is a depth-first search over the residual arcs of the flow. Invariant: it is under way (`Going`, SearchTurn) for every job that it may be for.
-- The measure is twice the unmarked nodes and the depth: a push takes one node and adds one to the depth, a pop takes one of the depth. Assumes nothing.
use Prim.Native.Nat.{◌+◌, ◌*◌}
use Rattle.model.specs.Job.{Job}
use Rattle.network.specs.Store.{as_point, mark_at, SameStore}
use Rattle.route.specs.Search.{Searching}
use Rattle.route.proofs.SearchCount.{unmarked}
use Rattle.route.proofs.SearchTurn.{Going}
use Rattle.route.proofs.search.search.Given as goal

abbrev pub invariant-loop-depth : goal.invariant-loop-depth
invariant-loop-depth l = SameStore l.fn.store l.store
    × ((j : Job) → Searching j l.tables l.initial.store.bytes.now l.fn.store.grid (as_point l.initial.top)
    → Going j l.tables.due l.initial.store.bytes.now l.store.bytes.now l.stamp l.soon (as_point l.initial.top) l.depth (as_point l.top) l.below l.ahead)

abbrev pub decreases-loop-depth : goal.decreases-loop-depth
decreases-loop-depth l = 2 * unmarked (mark_at l.fn.store.grid l.store.bytes.now) l.stamp l.fn.store.grid.nodes + l.depth
