-- `reaches` holds the layer of one step after the other. Invariant: the table is the layer of step t, and no cell of a layer before it meets a call. Assumes nothing.
use Prim.Native.Nat.{◌+◌, ◌<◌}
use mathlib.Core.Path.{◌∙◌, ap}
use native.Mathlib.Omega.{arith}
use native.Mathlib.Nat.{not-suc-le-zero}
use lib.ListN.{get_or}
use Rattle.model.specs.Limits.{max_cells, max_steps}
use Rattle.model.proofs.Lists.{in_unmap}
use Rattle.job.proofs.Tested.{denied, told}
use Rattle.floor.proofs.TableLaws.{zeros}
use Rattle.chokejudge.specs.declared.layer.Point.{Point}
use Rattle.chokejudge.specs.ChokeLayers.{MetBy, Reached}
use Rattle.chokejudge.proofs.PointLaws.{cell_part}
use Rattle.chokejudge.proofs.StepLaws.{Unmet, holding_first, holding_next, older_known, lift_met, bay_met, still_open, unmet_more}
use Rattle.chokejudge.proofs.choke.reaches.Goals as goal
use Rattle.chokejudge.proofs.choke.reaches.Goals.{then-has_lift-via-then-has_lift, then-has_lift-via-else-has_lift+then-has_bay, Else-has_bay}

pub loop-t-init : goal.loop-t-init
loop-t-init c =
    let a = c.args in
    let (few, calls_few, points_few, climbs, floor, closing, chained) = c.requires in
    let n = c.new-layer.ensures in (
      holding_first floor closing
          (λ v. ap (λ l. get_or l v 0) n.0 ∙ zeros max_cells v) n.1 n.2 n.3 c.spread.ensures.0 c.spread.ensures.1 c.close.ensures,
      λ s v l. absurd (not-suc-le-zero l),
    )

pub returns-then-has_lift : goal.returns-then-has_lift
returns-then-has_lift c =
    let a = c.args in
    let (few, calls_few, points_few, climbs, floor, closing, chained) = c.requires in
    let h = c.loop-t.invariant.0 in
    elim c.then-has_lift.branch [
      | then-has_lift-via-then-has_lift w ↦ told (lift_met floor h a.meetings.now.due a.calls.now
          c.loop-t-test.true (c.has_lift.ensures.0 w.if-has_lift.true))
      | then-has_lift-via-else-has_lift+then-has_bay w ↦ told (bay_met floor h a.meetings.now.due
          a.calls.now c.loop-t-test.true (w.has_bay.ensures.0 w.if-has_bay.true))
    ]

pub grow-requires : goal.grow-requires
grow-requires c =
    let a = c.args in
    let (few, calls_few, points_few, climbs, floor, closing, chained) = c.requires in
    let h = c.loop-t.invariant.0 in (
      omega (arith, h.ends, h.to.few, points_few),
      h.to.few,
      (
        floor.job.cells,
        floor.near.rows,
        λ v m. let (p, i, e) = in_unmap (λ (p : Point). p.cell) v a.points.now (cell_part a.points.now c.loop-t.layer.opens c.loop-t.layer.closed v m) in rw e at (floor.points_known p.step p.cell i),
        older_known floor h,
      ),
    )

-- no call is met at the step
unmet : (c : Else-has_bay) → let a = c.args in
    Unmet (MetBy a.meetings.now.due a.calls.now) (Reached a.neighbours.now a.meetings.now.shut a.carts.now a.points.now) (c.loop-t.t + 1)
unmet c =
    let a = c.args in
    let (few, calls_few, points_few, climbs, floor, closing, chained) = c.requires in
    unmet_more floor c.loop-t.invariant.0 a.meetings.now.due a.calls.now
    (c.has_bay.ensures.1 c.if-has_bay.false) (c.has_lift.ensures.1 c.if-has_lift.false) c.loop-t.invariant.1

pub loop-t-preserved : goal.loop-t-preserved
loop-t-preserved c =
    let a = c.args in
    let (few, calls_few, points_few, climbs, floor, closing, chained) = c.requires in
    let h = c.loop-t.invariant.0 in
    let soon : c.loop-t.t < max_steps = omega (arith, few, c.loop-t-test.true) in
    let lasts = still_open floor h a.meetings.now.due a.calls.now (c.has_bay.ensures.1 c.if-has_bay.false) closing soon in (
      holding_next floor h lasts c.grow.ensures.0 c.grow.ensures.1
          (rw c.from.ensures at c.close-in-loop-t.ensures),
      unmet (goal.at.loop-t-preserved c).Else-has_bay,
    )

pub returns-else-has_bay : goal.returns-else-has_bay
returns-else-has_bay c = denied (λ (t, b, (v, o, m)). unmet (goal.at.returns-else-has_bay c).Else-has_bay t v (omega arith) o m)
