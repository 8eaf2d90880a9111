-- `chain` puts each call behind the last one with its key, and passes over those whose key is past all steps. Invariant: the chains are those of the first k calls. Assumes nothing.
use lib.ListN.{get_or}
use Rattle.chokejudge.specs.Chains.{Keyed}
use Rattle.chokejudge.proofs.calls.chain.Given as goal

abbrev pub invariant-loop-k : goal.invariant-loop-k
invariant-loop-k l = Keyed (λ q. get_or l.shut (get_or l.targets q 0) 0) l.k l.latest l.before
