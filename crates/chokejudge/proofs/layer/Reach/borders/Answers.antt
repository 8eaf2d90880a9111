use Rattle.std.proofs.Common.{rules, tests}
use Rattle.std.proofs.lemmas.Iterator.{cases_from_any, YieldsList-from_slice}
use Rattle.chokejudge.specs.Grown.{Older}
use Rattle.chokejudge.proofs.AnyLaws.{any_in}
use Rattle.chokejudge.proofs.layer.Reach.borders.Goals as goal

pub returns : goal.returns
returns c =
    let P = Older c.args.self.now c.args.t in
    any_in _ P c.args.row.now (cases_from_any _ _ _ P (λ x. P x → ⊥) c.any.ensures.ran (YieldsList-from_slice c.args.row.now cc) (λ x q k. search (rules, tests)) (λ x q k. search (rules, tests)))
