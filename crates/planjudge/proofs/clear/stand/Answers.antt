-- `stand` decides whether two carts share a cell at a step, and otherwise leaves in `on` who is on which. Assumes nothing.
use Rattle.std.proofs.Common.{arith, rules, ◌≡◌, Some, length, ap, sym, ◌∙◌}
use lib.ListN.{length-set}
use Rattle.std.proofs.lemmas.Bool.{false≢true}
use Rattle.model.specs.Walk.{At}
use Rattle.job.proofs.Tested.{told, denied}
use Rattle.planjudge.specs.PlanTests.{ride_at, walk_at}
use Rattle.planjudge.proofs.PlanSteps.{on_floor, standing_taken, standing_left, standing_more, standing_unshared}
use Rattle.planjudge.proofs.clear.stand.Goals as goal
use Rattle.planjudge.proofs.clear.stand.Goals.{then-t-from+else-is_some, else-t-from}

pub returns-then-is_some : goal.returns-then-is_some
returns-then-is_some c =
    let a = c.args in
    let l = c.loop-k in
    let here : At (walk_at a.rides.now l.k) a.t c.from-cell.result = rw c.from-cell.ensures (on_floor (ride_at a.rides.now l.k) (omega arith) a.t (omega arith)) in
    (denied (standing_taken a.rides.now a.t l.k l.on c.from-cell.result l.invariant c.loop-k-test.true here (sym c.if-is_some.ensures)), λ e. absurd (false≢true e))

pub loop-k-preserved : goal.loop-k-preserved
loop-k-preserved c =
    let a = c.args in
    let l = c.loop-k in
    elim c.if-t-from.branch [
      | then-t-from+else-is_some w ↦
          let free = sym w.if-is_some.ensures in
          let size = ap length w.on-is ∙ length-set l.on w.from-cell.result (Some l.k) in
          let here : At (walk_at a.rides.now l.k) a.t w.from-cell.result = rw w.from-cell.ensures (on_floor (ride_at a.rides.now l.k) (omega arith) a.t (omega arith)) in
          rw w.on-is (standing_more a.rides.now a.t l.k l.on w.from-cell.result (omega arith) here (search rules) l.invariant)
      | else-t-from w ↦ rw w.on-is (standing_left a.rides.now a.t l.k l.on (omega arith) l.invariant)
    ]

pub returns : goal.returns
returns c =
    let l = c.loop-k in
    let e : l.k ≡ length c.args.rides.now = omega arith in
    let s = rw e at l.invariant in
    (told (standing_unshared c.args.rides.now c.args.t l.on s), λ e. s)
