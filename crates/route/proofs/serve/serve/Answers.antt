-- `serve` seeks with the caller's stamp, then with a new one. A search that fails is final if no mark had its stamp at the start: so the caller says, or the stamp
-- is one above all marks that there are. One that finds nothing leaves the flow as it was, so the second starts where the first did. No loop. Assumes nothing.
use native.Mathlib.Omega.{arith}
use Rattle.route.proofs.ServeLaws.{fresh_next, serves_from, marks_both}
use Rattle.route.proofs.SearchTurn.{may_search}
use Rattle.route.proofs.serve.serve.Goals as goal

pub returns-then-seek-2-clause-served : goal.returns-then-seek-2-clause-served
returns-then-seek-2-clause-served c = λ j h.
    let g = c.seek.ensures.same.grid in
    let k = c.seek.ensures.sought j h.search in
    let none = c.if-seek.false in
    let k' = rw g at (c.seek-2.ensures.sought j (rw g (may_search (k.same none) h.search))) in
    (k'.holds, (omega arith, omega arith, marks_both k k' (omega arith) h.marks, λ v. serves_from k none v (k'.serves c.if-seek-2.true v)))

pub returns-clause-served : goal.returns-clause-served
returns-clause-served c = λ j h.
    let g = c.seek.ensures.same.grid in
    let k = c.seek.ensures.sought j h.search in
    let k' = rw g at (c.seek-2.ensures.sought j (rw g (may_search (k.same c.if-seek.false) h.search))) in
    (k'.holds, (omega arith, k'.stuck c.if-seek-2.false (fresh_next k _ (omega arith) h.marks)))
