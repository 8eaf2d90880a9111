-- `advance` spreads from each cell of the last step that is older. Invariant: those in the queue before place i were looked at. What is older stays so, since only cells of this step
-- are added, and they come behind the end of the queue. Assumes nothing.
use Prim.Native.Nat.{◌+◌, ◌-◌, ◌<◌}
use mathlib.Core.Path.{◌≡◌, sym, ap, ◌∙◌}
use native.Mathlib.Omega.{arith}
use lib.ListN.{length, get_or, length-drop, get_or-append}
use Rattle.std.proofs.lemmas.List.{get_or-drop}
use Rattle.floor.specs.Tables.{row_of}
use Rattle.chokejudge.specs.Grown.{last_cells}
use Rattle.chokejudge.proofs.GrownLaws.{grown_none, grown_as, older_same, each_none, each_more}
use Rattle.chokejudge.proofs.layer.Reach.advance.Invariants.{Spreads}
use Rattle.chokejudge.proofs.layer.Reach.advance.Goals as goal
use Rattle.chokejudge.proofs.layer.Reach.advance.Goals.{then-is_older, else-is_older}

pub loop-i-init : goal.loop-i-init
loop-i-init c =
    let a = c.args in
    let e : a.self.now.head - a.self.now.head ≡ 0 = omega arith in
    rw e (each_none (last_cells a.self.now) (Spreads a.neighbours.now a.self.now a.t) a.self.now)

pub loop-i-preserved : goal.loop-i-preserved
loop-i-preserved c =
    let a = c.args in
    let l = c.loop-i in
    let g = l.invariant in
    let s = a.self.now in
    let near = a.neighbours.now in
    let S = Spreads near s a.t in
    let k = l.i - s.head in
    let below : k < length (last_cells s) = omega (arith, length-drop s.head s.queue.items, c.len-i-end.ensures.value) in
    let next : l.i + 1 - s.head ≡ k + 1 = omega arith in
    let at : s.head + k ≡ l.i = omega arith in
    -- the cell is that of the old queue
    let u : get_or c.deref.result.now l.i 0 ≡ get_or (last_cells s) k 0 =
    ap (λ q. get_or q l.i 0) (c.deref.ensures.0 ∙ g.queue) ∙ get_or-append s.queue.items g.added 0 l.i (omega (arith, c.len-i-end.ensures.value))
    ∙ sym (get_or-drop s.head s.queue.items k 0 ∙ ap (λ x. get_or s.queue.items x 0) at) in
    let o = rw u at c.is_older.ensures in
    let same = older_same g (get_or (last_cells s) k 0) in
    elim c.if-is_older.branch [
      | then-is_older w ↦
          let r = w.row.ensures ∙ ap (row_of near.near near.begin) (w.from.ensures ∙ u) in
          rw (w.self-is, next) (each_more (last_cells s) S k below g (grown_as (λ v. (λ q. (same.0 (o.0 w.if-is_older.true), rw r at q), λ q. rw r q.1)) w.spread.ensures.0))
      | else-is_older w ↦ rw (w.self-is, next) (each_more (last_cells s) S k below g (grown_none a.t l.self (λ v q. absurd (o.1 w.if-is_older.false (same.1 q.0)))))
    ]
