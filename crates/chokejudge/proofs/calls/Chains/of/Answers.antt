-- `of` puts each bay behind the last one of its step, and passes over the lifts. Invariant: the chains are those of the first k calls. Assumes nothing.
use Prim.Native.Nat.{ℕ}
use mathlib.Core.Path.{◌≡◌, refl, sym, ap, ◌∙◌}
use borrow.Author.Rules.{rules}
use native.Mathlib.Omega.{arith}
use lib.ListN.{length, get_or, length-set, length-replicate}
use Rattle.std.specs.Prelude.{Option, None, Some}
use Rattle.model.specs.Limits.{max_calls, max_steps}
use Rattle.std.proofs.Math.ListN.{get_or-map}
use Rattle.model.specs.Job.{lift, bay}
use Rattle.job.specs.Lists.{as_kind, kinds_of, deadlines_of}
use Rattle.job.proofs.Lists.{no_call}
use Rattle.chokejudge.specs.declared.calls.Chains.{Chains}
use Rattle.job.specs.declared.state.Call.{Call}
use Rattle.chokejudge.proofs.ChainLaws.{chained_none, chained_past, chained_more}
use Rattle.chokejudge.proofs.calls.Chains.of.Goals as goal
use Rattle.chokejudge.proofs.calls.Chains.of.Goals.{then-eq, else-eq}

pub loop-k-init : goal.loop-k-init
loop-k-init c = record { steps = length-replicate {A = Option ℕ} max_steps None; places = length-replicate {A = Option ℕ} max_calls None; chained = chained_none c.args.calls.now _ refl }

pub loop-k-preserved : goal.loop-k-preserved
loop-k-preserved c =
    let calls = c.args.calls.now in
    let l = c.loop-k in
    let q = get_or calls l.k no_call in
    let kind : get_or (kinds_of calls) l.k lift ≡ as_kind q.kind = get_or-map (λ (q : Call). as_kind q.kind) calls l.k no_call in
    let deadline : get_or (deadlines_of calls) l.k 0 ≡ q.deadline = get_or-map (λ (q : Call). q.deadline) calls l.k no_call in
    elim c.if-eq.branch [
      | then-eq w ↦
          let b : as_kind q.kind ≡ bay = search rules in
          let f = ap (λ (x : Chains). x.latest) w.chains-is in
          let g = ap (λ (x : Chains). x.before) w.chains-is in
          record {
            steps = ap length f ∙ length-set l.chains.latest w.from-t.result (Some l.k) ∙ l.invariant.steps;
            places = ap length g ∙ length-set l.chains.before l.k (get_or l.chains.latest w.from-t.result None) ∙ l.invariant.places;
            chained = chained_more calls l.k l.invariant.chained c.if-eq.chains w.from-t.result (kind ∙ b) (deadline ∙ sym w.from-t.ensures)
                (omega (arith, l.invariant.steps)) (omega (arith, l.invariant.places)) f g (omega arith);
          }
      | else-eq w ↦
          let b : as_kind q.kind ≡ lift = search rules in
          rw w.chains-is (record { steps = l.invariant.steps; places = l.invariant.places; chained = chained_past calls l.k l.invariant.chained (kind ∙ b) })
    ]
