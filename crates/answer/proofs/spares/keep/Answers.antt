-- `keep` meets its contract: the cart's node at step 0 begins its line, and `stand` leads that on, step by step. The invariant: its loose end is on the cell `at` at the step t.
-- Assumes nothing.
use mathlib.Core.Path.{◌∙◌, ap}
use native.Mathlib.Omega.{arith}
use native.Mathlib.Numerals.{add-one}
use Rattle.model.specs.Lists.{In}
use Rattle.model.specs.Job.{Job}
use Rattle.model.specs.Choke.{point}
use Rattle.network.specs.Store.{with_used}
use Rattle.network.specs.Keeping.{KeepsAll}
use Rattle.network.proofs.StoreLaws.{same_more}
use Rattle.answer.proofs.SpareTurn.{chain_more}
use Rattle.answer.proofs.SpareKeep.{KeptTo, start_within, kept_first, kept_more, kept_last, top_few}
use Rattle.answer.proofs.spares.keep.Goals as goal
use Rattle.answer.proofs.spares.keep.Goals.{At-loop-t}

pub place-requires : goal.place-requires
place-requires c = (start_within c.requires.0.1 c.args.cell c.requires.0.2).1

pub set_used-requires : goal.set_used-requires
set_used-requires c = rw c.place.ensures (start_within c.requires.0.1 c.args.cell c.requires.0.2)

-- The line begins.
begun : (c : At-loop-t) (j : Job) → KeepsAll j c.args.store.now.grid c.args.store.now.bytes.now → In c.args.cell j.carts
    → KeptTo j c.args.store.now.grid c.args.store.now.bytes.now c.set_used.new.self.bytes.now c.args.cell (point c.args.cell 0)
begun c j k i =
    kept_first k c.args.cell i c.requires.1 (c.set_used.ensures.bytes ∙ ap (λ v. with_used c.args.store.now.grid c.args.store.now.bytes.now v 1) c.place.ensures)

pub stand-at-requires : goal.stand-at-requires
stand-at-requires c =
    let (j, k, i) = c.requires.0 in
    let b = begun (goal.at.stand-at-requires c).At-loop-t j k i in
    rw c.loop-t.invariant.0.grid ((j, (c.loop-t.invariant.1 j b.loose).loose), omega (arith, c.loop-t-test.true))

pub loop-t-preserved : goal.loop-t-preserved
loop-t-preserved c =
    let l = c.loop-t in
    let s = l.invariant.0 in
    let e = c.stand-at.ensures in (
      same_more s e.0,
      λ j h. let w = l.invariant.1 j h in let (n, same) = rw s.grid at (e.1 j (rw s.grid w.loose)) in rw (add-one l.t) (chain_more w n same),
    )

pub returns : goal.returns
returns c =
    let l = c.loop-t in (
      l.invariant.0,
      λ j k i. let b = begun (goal.at.returns c).At-loop-t j k i in
          let w = l.invariant.1 j b.loose in
          kept_last (kept_more b (w.loose, w.starts)) (omega (arith, top_few k, l.auto.t-end)) (omega (arith, c.loop-t-test.false)),
    )
