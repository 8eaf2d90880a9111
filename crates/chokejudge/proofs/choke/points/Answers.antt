-- `points` goes over the choke points. Invariant: the list has those cells that stand before the index. Assumes nothing.
use mathlib.Core.Path.{sym, ◌∙◌, ap}
use mathlib.Core.List.{[], ◌∷◌, ◌++◌}
use native.Mathlib.Omega.{arith}
use lib.ListN.{length, take}
use Rattle.std.proofs.lemmas.List.{append-nil}
use Rattle.job.specs.declared.held.Choke.{Choke}
use Rattle.chokejudge.specs.declared.layer.Point.{Point}
use Rattle.chokejudge.specs.Points.{points_in}
use Rattle.chokejudge.proofs.OrderLaws.{no_choke, points_more}
use Rattle.chokejudge.proofs.choke.points.Goals as goal
use Rattle.chokejudge.proofs.choke.points.Goals.{in-Cell, in_default}

pub loop-choke-preserved : goal.loop-choke-preserved
loop-choke-preserved c =
    let chokes = c.args.chokes.now in
    let l = c.loop-choke in
    let before = take l.choke-index chokes in
    let e = points_more chokes l.choke-index no_choke c.loop-choke-test.true in
    elim c.match-choke.branch [
      | in-Cell w ↦
          let f = ap (λ (v : _). v.items) w.points-is in
          let g = ap (λ (x : Choke). points_in before ++ points_in (x ∷ [])) w.in-Cell.is in
          let p : Point = record { step = w.in-Cell.step; cell = w.in-Cell.cell } in
          (f ∙ w.push.ensures.items ∙ ap (λ q. q ++ (p ∷ [])) l.invariant.0 ∙ sym (e ∙ g), omega (arith, ap length f, w.push.ensures.len, l.invariant.1))
      | in_default w ↦
          let f = ap (λ (v : _). v.items) w.points-is in
          let g = ap (λ (x : Choke). points_in before ++ points_in (x ∷ [])) w.in_default.is in
          (f ∙ l.invariant.0 ∙ sym (e ∙ g ∙ append-nil (points_in before)), omega (arith, ap length f, l.invariant.1))
    ]
