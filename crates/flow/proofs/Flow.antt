-- The flow that uses no node, where a planner begins, and flows with the same links. Assumes nothing.
use mathlib.Core.Path.{◌≡◌, fun_ext}
use Rattle.model.proofs.Basics.{nope}
use Rattle.flow.specs.Flow.{Link, off, Graph, Flow}

pub empty_flow : {N : Type 0} {G : Graph N} → Flow G (λ v. off) (λ v. off)
empty_flow = record {
  forth = λ u w e. nope (cc);
  back = λ u w e. nope (cc);
  edge = λ u w e. nope (cc);
  off_next = λ v e. e;
  off_prev = λ v e. e;
  starts = λ v e. nope (cc);
  goals = λ v e. nope (cc);
}

-- Links that are equal at each node to those of a flow are a flow.
pub flow_same : {N : Type 0} {G : Graph N} {next prev next' prev' : N → Link N}
    → ((v : N) → next' v ≡ next v) → ((v : N) → prev' v ≡ prev v) → Flow G next prev → Flow G next' prev'
flow_same e f ok = rw (fun_ext e, fun_ext f) ok
