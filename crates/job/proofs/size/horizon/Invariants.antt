-- `size::horizon` goes over the calls. Invariant: `last` is the largest deadline of those before the index. Assumes nothing.
use Rattle.std.proofs.Common.{◌≡◌, ◌<◌, map, take}
use Rattle.model.specs.Limits.{max_steps}
use Rattle.model.specs.Job.{latest}
use Rattle.job.specs.Lists.{as_call}
use Rattle.job.proofs.size.horizon.Given as goal

abbrev pub invariant-loop-call : goal.invariant-loop-call
invariant-loop-call l = (l.last < max_steps) × (l.last ≡ latest (map as_call (take l.call-index l.calls)))
