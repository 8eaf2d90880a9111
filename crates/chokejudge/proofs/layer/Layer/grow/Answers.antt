-- The reach's `grow` asks for room in the queue, which a layer has, since few points were taken out; and of the points of the last step only, which are some of all. Assumes nothing.
use native.Mathlib.Omega.{arith}
use Rattle.chokejudge.proofs.PointLaws.{cell_part}
use Rattle.chokejudge.proofs.layer.Layer.grow.Goals as goal

pub grow-requires : goal.grow-requires
grow-requires c =
    let s = c.self.inside in
    let r = rw (← c.self.view_is) at c.requires in
    let p = r.1 in
    (omega (arith, s.few, s.room), r.0, (p.0, p.1, λ v m. p.2 v (cell_part c.args.points.now _ _ v m), p.3))
