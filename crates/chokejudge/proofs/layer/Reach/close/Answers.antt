-- `close` takes the points out from the first of its step on, until one is of a later step. Invariant: the points from `opens` to before `closed` are of step t, and their cells were
-- taken out. Each takes at most one cell out of the table. Assumes nothing.
use Prim.Native.Nat.{ℕ, ◌+◌, ◌<◌, ◌≤◌}
use native.Mathlib.Omega.{arith}
use mathlib.Core.Path.{◌≡◌, sym, ◌∙◌, ap, subst}
use lib.ListN.{length, get_or, set}
use Rattle.chokejudge.specs.declared.layer.Point.{Point}
use Rattle.chokejudge.specs.Points.{no_point}
use Rattle.chokejudge.proofs.MemberLaws.{members_clear}
use Rattle.chokejudge.proofs.PointLaws.{Taken, slice_at, taken_more, taken_next, taken_all, later}
use Rattle.chokejudge.proofs.layer.Reach.close.Goals as goal

pub loop-point-preserved : goal.loop-point-preserved
loop-point-preserved c =
    let a = c.args in
    let l = c.loop-point in
    let points = a.points.now in
    let first = a.self.now.closed in
    let (small, e) = slice_at points no_point first (length points) l.point-index c.loop-point-test.true in
    let f : get_or points (first + l.point-index) no_point ≡ get_or points l.self.closed no_point = ap (λ k. get_or points k no_point) (sym l.invariant.closed) in
    let step : (get_or points l.self.closed no_point).step ≡ a.t = sym (ap (λ (p : Point). p.step) (e ∙ f)) ∙ sym c.from.ensures ∙ c.if-from-t.false in
    let cell : c.from-in-loop-point.result ≡ (get_or points l.self.closed no_point).cell = c.from-in-loop-point.ensures ∙ ap (λ (p : Point). p.cell) (e ∙ f) in
    record {
      opens = l.invariant.opens;
      closed = omega (arith, l.invariant.closed);
      taken = subst (λ (x : ℕ). Taken points a.t first (l.self.closed + 1) a.self.now.since (set l.self.since x 0)) (sym cell)
          (taken_more points a.t first l.invariant.taken (omega (arith, l.invariant.closed)) (omega (arith, small, l.invariant.closed)) step (omega (arith, cell, l.invariant.taken.cells.size)));
      queue = l.invariant.queue;
      head = l.invariant.head;
      count = omega (arith, l.invariant.count, members_clear l.self.since c.from-in-loop-point.result);
    }

pub returns-then-from-t : goal.returns-then-from-t
returns-then-from-t c =
    let a = c.args in
    let l = c.loop-point in
    let points = a.points.now in
    let first = a.self.now.closed in
    let p = c.requires in
    let (small, e) = slice_at points no_point first (length points) l.point-index c.loop-point-test.true in
    let f : get_or points (first + l.point-index) no_point ≡ get_or points l.self.closed no_point = ap (λ k. get_or points k no_point) (sym l.invariant.closed) in
    let out = rw (c.from.ensures, e, f) at c.if-from-t.true in
    let behind = later points a.t first p.1 p.0 l.self.closed (omega (arith, l.invariant.closed)) out in
    let few : l.self.closed ≤ length points = omega (arith, small, l.invariant.closed) in
    record {
      opens = l.invariant.opens;
      next = taken_next points a.t first l.invariant.taken p.1 few behind;
      queue = ap (λ (q : _). q.items) l.invariant.queue;
      head = l.invariant.head;
      cells = taken_all points a.t first l.invariant.taken p.1 few behind;
      count = l.invariant.count;
    }

pub returns-after-loop-point : goal.returns-after-loop-point
returns-after-loop-point c =
    let a = c.args in
    let l = c.loop-point in
    let points = a.points.now in
    let first = a.self.now.closed in
    let p = c.requires in
    let few : l.self.closed ≤ length points = omega (arith, l.invariant.closed) in
    let behind : (k : ℕ) → l.self.closed ≤ k → k < length points → a.t < (get_or points k no_point).step = λ k lo hi. absurd (omega arith) in
    record {
      opens = l.invariant.opens;
      next = taken_next points a.t first l.invariant.taken p.1 few behind;
      queue = ap (λ (q : _). q.items) l.invariant.queue;
      head = l.invariant.head;
      cells = taken_all points a.t first l.invariant.taken p.1 few behind;
      count = l.invariant.count;
    }
