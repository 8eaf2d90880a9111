-- `grow` adds what the cells of the last step lead to, then its choke points again. After the first the same cells are older. Assumes nothing.
use mathlib.Core.Logic.{⊎_elim, inl, inr}
use Rattle.chokejudge.specs.ChokeLayers.{Side}
use Rattle.chokejudge.proofs.GrownLaws.{grown_as, grown_roomy, grown_then, older_some}
use Rattle.chokejudge.proofs.layer.Reach.grow.Goals as goal

pub advance-requires : goal.advance-requires
advance-requires c =
    let p = c.requires.2 in
    (c.requires.0, (p.0, p.1, p.3))

pub rejoin-requires : goal.rejoin-requires
rejoin-requires c =
    let p = c.requires.2 in
    (grown_roomy c.advance.ensures c.requires.0, (p.0, p.1, p.2))

pub returns : goal.returns
returns c =
    let g = c.advance.ensures in
    let near = c.args.neighbours.now in
    let grown = grown_as (λ v. let same = older_some g (Side near v) in
    (⊎_elim (λ p. inl p) (λ p. inr (p.0, same.0 p.1)), ⊎_elim (λ p. inl p) (λ p. inr (p.0, same.1 p.1)))) (grown_then g c.rejoin.ensures) in (
      record {
        added = grown.added;
        queue = grown.queue;
        count = grown.count;
        opens = grown.opens;
        closed = grown.closed;
        kept = grown.kept;
        only = grown.only;
        all = grown.all;
      },
      c.len-tail.ensures.value,
    )
