-- `from_steps` looks by way of the steps of a cell, from the latest down. Invariant: by way of the steps passed all is marked. Assumes nothing.
use Prim.Native.Nat.{◌-◌}
use native.Mathlib.Omega.{arith}
use Rattle.route.proofs.SearchFinds.{steps_more, steps_all, steps_push}
use Rattle.route.proofs.search.from_steps.Goals as goal

pub returns-in-Some : goal.returns-in-Some
returns-in-Some c =
    let a = c.args in
    let l = c.loop-step in
    steps_push a.store.now.grid a.store.now.bytes.now a.cell a.stamp l.step a.past l.invariant a.first (l.step - 1) c.in-Some.hop (omega arith) (omega arith)
    l.auto.step c.in-Some.ensures

pub loop-step-preserved : goal.loop-step-preserved
loop-step-preserved c =
    let a = c.args in
    let l = c.loop-step in
    steps_more a.store.now.grid a.store.now.bytes.now a.cell a.stamp l.step a.past l.invariant (l.step - 1) (omega arith) (rw c.in_default.is at c.look.ensures)

pub returns : goal.returns
returns c =
    let a = c.args in
    let l = c.loop-step in
    steps_all a.store.now.grid a.store.now.bytes.now a.cell a.stamp l.step a.past l.invariant a.first (omega arith)
