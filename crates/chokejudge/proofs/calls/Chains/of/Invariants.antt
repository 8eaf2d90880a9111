-- `of` puts each bay behind the last one of its step, and passes over the lifts. Invariant: the chains are those of the first k calls. Assumes nothing.
use mathlib.Core.Path.{◌≡◌}
use lib.ListN.{length}
use Rattle.model.specs.Limits.{max_calls, max_steps}
use Rattle.chokejudge.specs.Chains.{Chained}
use Rattle.chokejudge.proofs.calls.Chains.of.Given as goal

abbrev pub invariant-loop-k : goal.invariant-loop-k
invariant-loop-k l = record {
  steps : length l.chains.latest ≡ max_steps;
  places : length l.chains.before ≡ max_calls;
  chained : Chained l.calls l.k l.chains;
}
