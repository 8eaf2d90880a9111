-- `add` puts a cell that is not in the layer, and open, into the table and at the end of the queue. Before that the table has a free place, so the queue has one too. Assumes nothing.
use Prim.Native.Nat.{◌+◌}
use mathlib.Core.Path.{◌≡◌, refl, ap}
use native.Mathlib.Omega.{arith}
use borrow.Author.Rules.{rules}
use lib.ListN.{get_or, set}
use Rattle.chokejudge.proofs.Numbers.{none}
use Rattle.chokejudge.proofs.MemberLaws.{members_room}
use Rattle.chokejudge.proofs.GrownLaws.{grown_out, grown_new}
use Rattle.chokejudge.proofs.layer.Reach.add.Goals as goal
use Rattle.chokejudge.proofs.layer.Reach.add.Goals.{Then-not-has, else-not-has-via-then-not-has+else-is_open, else-not-has-via-else-not-has}

free : (c : Then-not-has) → get_or c.args.self.now.since c.args.v 0 ≡ 0
free c = none (c.has.ensures.1 c.if-not-has.true)

pub push-requires : goal.push-requires
push-requires c = (search rules, omega (arith, c.requires, members_room c.args.self.now.since c.args.v (omega arith) (free (goal.at.push-requires c).Then-not-has)))

pub returns-then-is_open : goal.returns-then-is_open
returns-then-is_open c =
    let a = c.args in (
      grown_new a.t a.self.now _ a.v (ap (λ x. set a.self.now.since x (a.t + 1)) c.from.ensures) c.push.ensures.items refl refl (omega arith)
          (free (goal.at.returns-then-is_open c).Then-not-has) (c.is_open.ensures.0 c.if-is_open.true),
      refl,
    )

pub returns-else-not-has : goal.returns-else-not-has
returns-else-not-has c =
    let a = c.args in
    elim c.else-not-has.branch [
      | else-not-has-via-then-not-has+else-is_open w ↦ (grown_out a.t a.self.now a.v (λ z o. w.is_open.ensures.1 w.if-is_open.false o), refl)
      | else-not-has-via-else-not-has w ↦ (grown_out a.t a.self.now a.v (λ z o. omega (arith, c.has.ensures.0 w.if-not-has.false)), refl)
    ]
