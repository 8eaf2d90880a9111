-- A cart whose line ends at a step before the last can stand there: its cell is open at the next step, since a bay on it whose step has come was met by another cart at this very node, or
-- closed the cell before. So its line can be led on to its own cell, and the one that was to come there, if any, has the loose end then. Assumes nothing.
use Prim.Native.Nat.{ℕ, suc, ◌≤◌, ◌<◌}
use mathlib.Core.Path.{◌≡◌, refl, ap}
use mathlib.Core.Logic.{inl, inr}
use native.Mathlib.Omega.{arith}
use Rattle.model.specs.Lists.{In}
use Rattle.model.specs.Job.{Job, Call, bay, horizon}
use Rattle.model.specs.Walk.{Open, InTime}
use Rattle.model.specs.Choke.{Point, point}
use Rattle.model.specs.Ready.{Fit}
use Rattle.model.proofs.Basics.{nope}
use Rattle.model.proofs.Decide.{dec-lt}
use Rattle.flow.specs.Flow.{Link, off, end, to, Flow}
use Rattle.network.specs.Graph.{node_of, Edge, graph_from}
use Rattle.network.proofs.Points.{point_eq}
use Rattle.network.proofs.ChokeTargets.{edge_earlier, met_at}

module _ {j : Job} (fit : Fit j) {S : Point → Type 0} {back on : Point → Link Point} (ok : Flow (graph_from j S) back on)
    (full : (q : Call) → In q j.calls → on (node_of j q) ≡ end) {c t : ℕ} (loose : on (point c t) ≡ end) (early : suc t ≤ horizon j) where
  -- A bay is met at its step, and its line goes on from there.
  bay_met : (q : Call) → In q j.calls → q.kind ≡ bay → on (point q.cell q.deadline) ≡ to (node_of j q)
  bay_met q i k = go (back (node_of j q)) refl
    where
      in_bay : (d y : ℕ) → InTime q.kind d y → y ≡ d
      in_bay d y h = rw k at h

      go : (l : Link Point) → back (node_of j q) ≡ l → on (point q.cell q.deadline) ≡ to (node_of j q)
      go off e = nope (cc (ok.off_prev (node_of j q) e, full q i))
      go end e = absurd (omega (arith, (ok.goals (node_of j q) e).0))
      go (to y) e =
          let (h, m) = met_at fit q i (ok.edge (node_of j q) y e) in
          let same : y ≡ point q.cell q.deadline = point_eq h (in_bay q.deadline y.step m) in
          rw same at (ok.forth (node_of j q) y e)

  -- The cell is open at the step itself, as the cart came to it then or starts there.
  open_now : Open j t c
  open_now q i k h = go (back (point c t)) refl
    where
      go : (l : Link Point) → back (point c t) ≡ l → t ≤ q.deadline
      go off e = nope (cc (ok.off_prev (point c t) e))
      go end e = let z : t ≡ 0 = (ok.goals (point c t) e).0 in omega arith
      go (to y) e =
          let d = edge_earlier (ok.edge (point c t) y e) (omega arith) in
          let n : t ≡ suc y.step = d.falls in
          omega (arith, d.moves.1 q i k h)

  pub open_next : Open j (suc t) c
  open_next q i k h = go (dec-lt t q.deadline)
    where
      go : Dec (t < q.deadline) → suc t ≤ q.deadline
      go (yes l) = omega arith
      go (no l) =
          let d : q.deadline ≡ t = omega (arith, open_now q i k h) in
          let same : point q.cell q.deadline ≡ point c t = point_eq h d in
          nope (cc (ap on same, bay_met q i k))

  pub can_stand : c < j.cells → Edge j (point c (suc t)) (point c t)
  can_stand known = inr (record { falls = refl; moves = (inl refl, open_next); leaves = open_next; in_time = early; known = known; known_before = known })
