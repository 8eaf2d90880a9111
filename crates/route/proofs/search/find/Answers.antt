-- `find` answers a position that the node leads to and that is not marked, or none, if all are marked: what the row does not answer dropping out answers. Assumes nothing.
use mathlib.Core.Logic.{inl, inr, ⊎_elim}
use native.Mathlib.Omega.{arith}
use Rattle.route.proofs.SearchFinds.{found_rest}
use Rattle.route.proofs.search.find.Goals as goal
use Rattle.route.proofs.search.find.Goals.{else-node-gt0, then-node-gt0+in_default}

pub returns : goal.returns
returns c =
    found_rest _ _ _ (λ y via b. inr b)
    (λ y via q. ⊎_elim (λ p. inr (elim c.if-node-gt0.branch [
      | then-node-gt0+in_default w ↦ (rw w.in_default.is at w.scan.ensures) y via p.1
      | else-node-gt0 w ↦ absurd (omega (arith, w.if-node-gt0.false, p.0))
    ])) inl q)
    c.drop_out.result c.drop_out.ensures
