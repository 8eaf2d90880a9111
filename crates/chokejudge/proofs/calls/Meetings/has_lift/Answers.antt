-- `has_lift` looks at each cell that was added last. Assumes nothing.
use Prim.Native.Nat.{ℕ, ◌<◌}
use lib.ListN.{get_or}
use Rattle.std.proofs.Common.{rules, tests}
use Rattle.std.proofs.lemmas.Iterator.{cases_from_any, YieldsList-from_slice}
use Rattle.chokejudge.specs.Grown.{last_cells}
use Rattle.chokejudge.proofs.AnyLaws.{any_in}
use Rattle.chokejudge.proofs.calls.Meetings.has_lift.Goals as goal

pub returns : goal.returns
returns c =
    let a = c.args in
    let cells = last_cells a.layer.now in
    let P : ℕ → Type 0 = λ v. (0 < get_or a.layer.now.since v 0) × (a.t < get_or a.self.now.due v 0) in
    any_in _ P cells (cases_from_any _ _ _ P (λ x. P x → ⊥) c.any.ensures.ran (YieldsList-from_slice cells cc) (λ x q k. search (rules, tests)) (λ x q k. search (rules, tests)))
