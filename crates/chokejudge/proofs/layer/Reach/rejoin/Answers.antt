-- `rejoin` adds the cell of each point whose row has an older cell. Invariant: the points before the one at the index were looked at. What is older stays so, since only cells of this
-- step are added. Assumes nothing.
use Prim.Native.Nat.{◌<◌}
use mathlib.Core.Path.{◌≡◌, sym, ◌∙◌}
use native.Mathlib.Omega.{arith}
use lib.ListN.{length, get_or}
use Rattle.std.proofs.lemmas.List.{length-map}
use Rattle.chokejudge.specs.declared.layer.Point.{Point}
use Rattle.chokejudge.specs.ChokeLayers.{Side}
use Rattle.chokejudge.specs.Points.{cells_of}
use Rattle.chokejudge.proofs.GrownLaws.{grown_none, grown_as, grown_roomy, older_some, each_more, each_all, themselves}
use Rattle.chokejudge.proofs.PointLaws.{cell_at, cell_in}
use Rattle.chokejudge.proofs.layer.Reach.rejoin.Invariants.{Back}
use Rattle.chokejudge.proofs.layer.Reach.rejoin.Goals as goal
use Rattle.chokejudge.proofs.layer.Reach.rejoin.Goals.{then-borders, else-borders}

pub row-requires : goal.row-requires
row-requires c =
    let p = c.requires.1 in
    (p.0, p.1, rw c.from.ensures (p.2 _ (cell_in c.args.points.now c.loop-point.point-index c.loop-point-test.true)), omega arith)

pub add-requires : goal.add-requires
add-requires c = grown_roomy c.loop-point.invariant c.requires.0

pub loop-point-preserved : goal.loop-point-preserved
loop-point-preserved c =
    let a = c.args in
    let l = c.loop-point in
    let g = l.invariant in
    let i = l.point-index in
    let near = a.neighbours.now in
    let S = Back near a.self.now a.t in
    let e : c.from.result ≡ get_or (cells_of a.points.now) i 0 = c.from.ensures ∙ sym (cell_at a.points.now i) in
    let b = rw (c.row.ensures, e) at c.borders.ensures in
    let same = older_some g (Side near (get_or (cells_of a.points.now) i 0)) in
    let below : i < length (cells_of a.points.now) = rw (length-map a.points.now (λ (p : Point). p.cell)) c.loop-point-test.true in
    elim c.if-borders.branch [
      | then-borders w ↦ rw w.self-is (each_more (cells_of a.points.now) S i below g
          (grown_as (λ v. (λ q. (same.0 (b.0 w.if-borders.true), q ∙ sym (cell_at a.points.now i)), λ q. q.1 ∙ cell_at a.points.now i)) w.add.ensures.0))
      | else-borders w ↦ rw w.self-is (each_more (cells_of a.points.now) S i below g (grown_none a.t l.self (λ v q. absurd (b.1 w.if-borders.false (same.1 q.0)))))
    ]

pub returns : goal.returns
returns c =
    let a = c.args in
    let points = a.points.now in
    themselves (each_all (cells_of points) (Back a.neighbours.now a.self.now a.t) c.loop-point.point-index (omega (arith, length-map points (λ (p : Point). p.cell))) c.loop-point.invariant)
