-- `search` is a depth-first search over the residual arcs of the flow. Invariant: it is under way (`Going`, SearchTurn) for every job that it may be for.
-- The measure is twice the unmarked nodes and the depth: a push takes one node and adds one to the depth, a pop takes one of the depth. Assumes nothing.
use Prim.Native.Nat.{◌-◌}
use mathlib.Core.Path.{ap}
use mathlib.Core.Bool.{not}
use borrow.Author.Tests.{eq-eqb, ne_eqb}
use native.Mathlib.Omega.{arith}
use Rattle.model.specs.Job.{Job}
use Rattle.network.specs.Store.{as_point}
use Rattle.network.proofs.NodeBytes.{few_nodes}
use Rattle.network.proofs.StoreLaws.{same_more}
use Rattle.route.specs.Search.{Searching}
use Rattle.route.proofs.SearchTurn.{Turn, Looked, first_needs, under_way, begun, ends_none, ends_some}
use Rattle.route.proofs.SearchTurn.{holds, top_inside, top_due, entry_within, is_goal, no_goal, turn_pop, turn_anew, turn_out, push_needs, turn_falls, turn_push}
use Rattle.route.proofs.search.search.Goals as goal
use Rattle.route.proofs.search.search.Goals.{
  After-leads-found,
  After-push,
  In-loop-depth,
  else-below-soon,
  else-top-eq0-via-else-top-eq0,
  else-top-eq0-via-then-top-eq0+else-tables-c-ne0,
  then-below-soon,
}

-- A job that the search may be for, told from the store after the first push.
one : (c : After-push) → (j : Job) × (let a = c.args in
    Searching j a.tables.now c.push.new.store.bytes.now a.store.now.grid (as_point a.node))
one c = (c.requires.0, begun _ c.push.ensures.bytes c.requires.1)

-- What is at hand in a turn.
turn : (c : In-loop-depth) (j : Job) → (let a = c.args in
    Searching j a.tables.now c.push.new.store.bytes.now a.store.now.grid (as_point a.node)) →
    (let a = c.args in let l = c.loop-depth in
    Turn j a.tables.now a.store.now.grid c.push.new.store.bytes.now l.store.bytes.now
    (as_point a.node) a.stamp a.soon l.depth (as_point l.top) l.below l.ahead)
turn c j h = record { for = h; going = c.loop-depth.invariant.1 j h; some = omega (arith, c.loop-depth-test.true) }

-- What was found: past the test the position on top is no goal.
looked : (c : After-leads-found) (j : Job) → (let a = c.args in
    Searching j a.tables.now c.push.new.store.bytes.now a.store.now.grid (as_point a.node)) →
    (let a = c.args in let l = c.loop-depth in
    Looked j a.tables.now a.store.now.grid c.push.new.store.bytes.now l.store.bytes.now
    (as_point a.node) a.stamp a.soon l.depth (as_point l.top) l.below l.ahead c.leads-found.result)
looked c j h =
    let a = c.args in
    let l = c.loop-depth in
    let w : Turn j a.tables.now a.store.now.grid c.push.new.store.bytes.now l.store.bytes.now
    (as_point a.node) a.stamp a.soon l.depth (as_point l.top) l.below l.ahead =
    record { for = h; going = l.invariant.1 j h; some = omega (arith, c.loop-depth-test.true) } in
    record {
      turn = w;
      sees = rw l.invariant.0.grid at c.leads-found.ensures;
      dull = no_goal w (λ z. elim c.else-top-eq0.branch [
        | else-top-eq0-via-then-top-eq0+else-tables-c-ne0 v ↦ ap not (eq-eqb _ 0 v.if-tables-c-ne0.false)
        | else-top-eq0-via-else-top-eq0 v ↦ absurd (v.if-top-eq0.false z)
      ]);
    }

pub push-requires : goal.push-requires
push-requires c = first_needs c.requires.1

pub loop-depth-init : goal.loop-depth-init
loop-depth-init c = (c.push.ensures.same, λ j h. under_way c.args.store.now.bytes.now _ _ c.push.ensures.bytes c.requires.1.holds.room h)

pub bounds-tables-c : goal.bounds-tables-c
bounds-tables-c c =
    let (j, h) = one (goal.at.bounds-tables-c c).After-push in
    omega (arith, (top_inside (turn (goal.at.bounds-tables-c c).In-loop-depth j h)).0, h.tables.carts.size, h.holds.ready.fit.few_cells)

pub returns-then-tables-c-ne0-clause-searched : goal.returns-then-tables-c-ne0-clause-searched
returns-then-tables-c-ne0-clause-searched c = λ j h.
    let l = c.loop-depth in
    let p = c.push.ensures.bytes in
    let w = turn (goal.at.returns-then-tables-c-ne0-clause-searched c).In-loop-depth j (begun _ p h) in
    ends_some _ p h w.going.run (l.depth - 1) (omega arith) (is_goal w c.if-top-eq0.true (ap not (ne_eqb _ 0 c.if-tables-c-ne0.true)))

pub leads-found-requires : goal.leads-found-requires
leads-found-requires c =
    let (j, h) = one (goal.at.leads-found-requires c).After-push in
    let w = turn (goal.at.leads-found-requires c).In-loop-depth j h in
    rw c.loop-depth.invariant.0.grid (j, holds w, top_inside w, h.tables.sides, h.tables.shuts, top_due w)

pub via-left-requires : goal.via-left-requires
via-left-requires c =
    let (j, h) = one (goal.at.via-left-requires c).After-push in
    rw c.loop-depth.invariant.0.grid (entry_within (turn (goal.at.via-left-requires c).In-loop-depth j h) (omega (arith, c.loop-depth-test.true)))

pub position-top-requires : goal.position-top-requires
position-top-requires c =
    let (j, h) = one (goal.at.position-top-requires c).After-push in
    rw c.loop-depth.invariant.0.grid (entry_within (turn (goal.at.position-top-requires c).In-loop-depth j h) (omega (arith, c.loop-depth-test.true)))

pub loop-depth-preserved-after-below-soon : goal.loop-depth-preserved-after-below-soon
loop-depth-preserved-after-below-soon c = (
  c.loop-depth.invariant.0,
  λ j h.
      let k = looked (goal.at.loop-depth-preserved-after-below-soon c).After-leads-found j h in
      let g = c.loop-depth.invariant.0.grid in
      let ec = rw g at c.position-top.ensures.0 in
      let es = rw g at c.position-top.ensures.1 in
      elim c.if-below-soon.branch [
        | then-below-soon w ↦ rw w.below-is (turn_anew k c.in_default.is ec es)
        | else-below-soon w ↦ rw w.below-is (turn_pop k c.in_default.is ec es (omega (arith, c.if-depth-gt0.true)) (rw g at c.via-left.ensures.0) w.if-below-soon.false)
      ],
)

pub loop-depth-preserved-else-depth-gt0 : goal.loop-depth-preserved-else-depth-gt0
loop-depth-preserved-else-depth-gt0 c = (
  c.loop-depth.invariant.0,
  λ j h. turn_out (looked
      (goal.at.loop-depth-preserved-else-depth-gt0 c).After-leads-found j h) c.in_default.is (omega (arith, c.if-depth-gt0.false)),
)

pub push-requires-in-loop-depth : goal.push-requires-in-loop-depth
push-requires-in-loop-depth c = let (j, h) = one (goal.at.push-requires-in-loop-depth c).After-push in rw c.loop-depth.invariant.0.grid (push_needs (looked
    (goal.at.push-requires-in-loop-depth c).After-leads-found j h) c.in-Some.hop c.in-Some.is)

pub overflow_add-depth : goal.overflow_add-depth
overflow_add-depth c = let (j, h) = one (goal.at.overflow_add-depth c).After-push in omega (arith, (turn (goal.at.overflow_add-depth c).In-loop-depth j h).going.run.room, few_nodes j h.holds.ready)

pub loop-depth-smaller : goal.loop-depth-smaller
loop-depth-smaller c =
    let (j, h) = one (goal.at.loop-depth-smaller c).After-push in
    let pushed = rw c.loop-depth.invariant.0.grid at c.push-in-loop-depth.ensures.bytes in
    omega (arith, turn_falls (looked (goal.at.loop-depth-smaller c).After-leads-found j h) c.in-Some.hop c.in-Some.is c.push-in-loop-depth.new.store.bytes.now pushed)

pub loop-depth-preserved : goal.loop-depth-preserved
loop-depth-preserved c =
    let p = c.push-in-loop-depth in
    let pushed = rw c.loop-depth.invariant.0.grid at p.ensures.bytes in (
      same_more c.loop-depth.invariant.0 p.ensures.same,
      λ j h. turn_push (looked (goal.at.loop-depth-preserved c).After-leads-found j h) c.in-Some.hop c.in-Some.is p.new.store.bytes.now pushed,
    )

pub returns-clause-searched : goal.returns-clause-searched
returns-clause-searched c = λ j h. let p = c.push.ensures.bytes in ends_none _ p h (c.loop-depth.invariant.1 j (begun _ p h)).run (omega (arith, c.loop-depth-test.false))
