-- `stand` meets its contract: each turn lets one cart of the chain stand. The invariant: the loose end is on the cell `at` at the step, and v is the place of the node behind it. The measure: how
-- many carts move in this step. Assumes nothing.
use Prim.Native.Nat.{suc, ◌<◌}
use mathlib.Core.Path.{◌≡◌, sym, ◌∙◌, ap}
use native.Mathlib.Omega.{arith}
use native.Mathlib.Numerals.{add-one}
use Rattle.model.specs.Choke.{point}
use Rattle.network.specs.Store.{place_in, used_at, prev_at}
use Rattle.network.proofs.StoreLaws.{same_more, is_unused, is_in_use}
use Rattle.answer.proofs.SpareTurn.{ChainTo, chain_more, cell_few, step_few, here_within, next_within, turn_loose, turn_starts, turn_fewer, ended, chain_end}
use Rattle.answer.proofs.spares.stand.Goals as goal
use Rattle.answer.proofs.spares.stand.Goals.{After-link, At-loop-grid, Start}

early : (c : Start) → suc c.args.step < c.args.store.now.grid.top
early c = omega (arith, c.requires.1)

-- The loose end of the chain, for the job that there is.
chain : (c : At-loop-grid)
    → ChainTo c.requires.0.0 c.args.store.now.grid c.args.store.now.bytes.now c.loop-grid.store.bytes.now (point c.loop-grid.at c.args.step)
chain c = c.loop-grid.invariant.2 c.requires.0.0 c.requires.0.1

pub used-requires : goal.used-requires
used-requires c = rw (c.loop-grid.invariant.1.grid, c.loop-grid.invariant.0) (next_within (chain (goal.at.used-requires c).At-loop-grid).loose (early (goal.at.used-requires c).Start))

pub prev-came-requires : goal.prev-came-requires
prev-came-requires c = rw (c.loop-grid.invariant.1.grid, c.loop-grid.invariant.0) (next_within (chain (goal.at.prev-came-requires c).At-loop-grid).loose (early (goal.at.prev-came-requires c).Start))

pub link-requires : goal.link-requires
link-requires c =
    let h = (chain (goal.at.link-requires c).At-loop-grid).loose in
    let e = early (goal.at.link-requires c).Start in
    rw c.loop-grid.invariant.1.grid ((here_within h e).0, (here_within h e).1, (next_within h e).1, cell_few h e, step_few h e)

-- Somebody was to come to the cell.
taken : (c : After-link)
    → used_at c.args.store.now.grid c.loop-grid.store.bytes.now (place_in c.args.store.now.grid c.loop-grid.at (suc c.args.step)) ≡ 0 → ⊥
taken c e =
    is_in_use (rw c.loop-grid.invariant.1.grid at c.used.ensures) c.loop-grid-test.true (ap (used_at c.args.store.now.grid c.loop-grid.store.bytes.now) c.loop-grid.invariant.0 ∙ e)

came : (c : After-link)
    → c.prev-came.result ≡ prev_at c.args.store.now.grid c.loop-grid.store.bytes.now (place_in c.args.store.now.grid c.loop-grid.at (suc c.args.step))
came c = (rw c.loop-grid.invariant.1.grid at c.prev-came.ensures.0) ∙ ap (prev_at c.args.store.now.grid c.loop-grid.store.bytes.now) c.loop-grid.invariant.0

pub place-v-requires-in-loop-grid : goal.place-v-requires-in-loop-grid
place-v-requires-in-loop-grid c =
    let at = goal.at.place-v-requires-in-loop-grid c in
    let e = early at.Start in
    rw (add-one c.args.step) (next_within (turn_loose (chain at.At-loop-grid).loose e (taken at.After-link) (came at.After-link)) e).1

pub loop-grid-smaller : goal.loop-grid-smaller
loop-grid-smaller c =
    let at = goal.at.loop-grid-smaller c in
    rw (rw c.loop-grid.invariant.1.grid at c.link.ensures.bytes) (turn_fewer (chain at.At-loop-grid).loose (early at.Start) (taken at.After-link) (came at.After-link))

pub loop-grid-preserved : goal.loop-grid-preserved
loop-grid-preserved c =
    let i = c.loop-grid.invariant in
    let at = goal.at.loop-grid-preserved c in
    let e = early at.Start in
    let t = taken at.After-link in
    let m = came at.After-link in (
      c.place-v-in-loop-grid.ensures ∙ ap (place_in c.args.store.now.grid c.prev-came.result) (add-one c.args.step),
      same_more i.1 c.link.ensures.same,
      λ j h. let w = i.2 j h in rw (rw i.1.grid at c.link.ensures.bytes) (chain_more w (turn_loose w.loose e t m) (turn_starts w.loose e t m)),
    )

pub link-requires-2 : goal.link-requires-2
link-requires-2 c =
    let h = (chain (goal.at.link-requires-2 c).At-loop-grid).loose in
    let e = early (goal.at.link-requires-2 c).Start in
    rw c.loop-grid.invariant.1.grid ((here_within h e).0, (here_within h e).1, (next_within h e).1, cell_few h e, step_few h e)

pub set_used-requires : goal.set_used-requires
set_used-requires c =
    let h = (chain (goal.at.set_used-requires c).At-loop-grid).loose in
    let w = next_within h (early (goal.at.set_used-requires c).Start) in
    let s = c.link-2.ensures.same in
    rw (s.grid, c.loop-grid.invariant.1.grid) (rw s.long w.0, rw c.loop-grid.invariant.0 w.1)

pub returns : goal.returns
returns c =
    let i = c.loop-grid.invariant in
    let g = i.1.grid in
    let w = c.link-2.ensures in
    let u = c.set_used.ensures in
    let free = sym (ap (used_at c.args.store.now.grid c.loop-grid.store.bytes.now) i.0) ∙ is_unused (rw g at c.used.ensures) c.loop-grid-test.false in
    let e = ended c.args.store.now.grid c.loop-grid.store.bytes.now c.loop-grid.v c.loop-grid.at c.args.step (rw g at w.bytes)
    (rw (w.same.grid, g) at u.bytes) i.0 in
    (same_more (same_more i.1 w.same) u.same, λ j h. chain_end (i.2 j h) (early (goal.at.returns c).Start) free e)
