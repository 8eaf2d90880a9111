-- `from_call` has the step `ahead` tried, if it is in the call's window below `below`, and then the steps of the window below `below`. The window begins at a bay's own step,
-- since that closes its cell, and at 0 for a lift. No loop. Assumes nothing.
use Prim.Native.Nat.{min, ◌-◌}
use mathlib.Core.Path.{◌≡◌, sym, ◌∙◌, ap, subst₂}
use mathlib.Core.Logic.{inl, inr}
use native.Mathlib.Omega.{arith}
use Rattle.std.specs.Prelude.{Some}
use Rattle.route.specs.Finds.{Stamped, Tries, Aims, first_of}
use Rattle.route.proofs.SearchFinds.{first_bay, first_lift, aims_found}
use Rattle.route.proofs.search.from_call.Goals as goal
use Rattle.route.proofs.search.from_call.Goals.{Joined-tables-cell, else-tables-cell, then-tables-cell}

first_is : (c : Joined-tables-cell) → (let a = c.args in c.if-tables-cell.first ≡ first_of a.tables.now.due a.tables.now.shut a.cell)
first_is c =
    let a = c.args in
    elim c.if-tables-cell.branch [
      | then-tables-cell w ↦ w.first-is ∙ ap (λ n. n - 1) c.from-due.ensures ∙ sym (first_bay a.tables.now.due a.tables.now.shut a.cell w.if-tables-cell.true)
      | else-tables-cell w ↦ w.first-is ∙ sym (first_lift a.tables.now.due a.tables.now.shut a.cell w.if-tables-cell.false)
    ]

-- A cell is open at step 0, so that a call on one that is closed in time is due later.
pub overflow_sub-first : goal.overflow_sub-first
overflow_sub-first c =
    let (j, h, o, k, l) = c.requires in
    omega (arith, c.from-due.ensures, c.if-tables-cell.true, (o.opens c.args.cell 0 (omega (arith, h.ready.fit.few_cells)) (omega arith)).1 (λ q m b e. omega arith))

pub returns-in-Some : goal.returns-in-Some
returns-in-Some c =
    let a = c.args in
    inr (subst₂ (λ first past. Aims a.store.now.grid a.store.now.bytes.now a.cell first past a.ahead (Stamped a.store.now.grid a.store.now.bytes.now a.stamp) (Some c.in-Some.hop))
    (first_is (goal.at.returns-in-Some c).Joined-tables-cell) (c.min-past.ensures ∙ ap (λ n. min n a.below) c.from-due.ensures)
    (aims_found a.store.now.grid a.store.now.bytes.now a.cell _ _ a.ahead a.stamp c.in-Some.hop c.in-Some.ensures c.if-first-ahead.true c.if-ahead-past.true))

pub returns : goal.returns
returns c =
    let a = c.args in
    inl (subst₂ (λ first past. Tries a.store.now.grid a.store.now.bytes.now a.cell first past (Stamped a.store.now.grid a.store.now.bytes.now a.stamp) c.from_steps.result)
    (first_is (goal.at.returns c).Joined-tables-cell) (c.min-past.ensures ∙ ap (λ n. min n a.below) c.from-due.ensures) c.from_steps.ensures)
