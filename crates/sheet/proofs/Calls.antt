-- A call of a job by its number, as a look-up in the list of calls answers. Assumes nothing.
use Prim.Native.Nat.{ℕ, ◌≤◌, ◌<◌}
use mathlib.Core.Path.{◌≡◌, ap, ◌∙◌}
use mathlib.Core.List.{List}
use native.Mathlib.Omega.{arith}
use lib.ListN.{length, get_or}
use Rattle.std.proofs.Math.ListN.{get_or-map}
use Rattle.model.specs.Job.{call_of}
use Rattle.job.specs.declared.state.Call.{Call}
use Rattle.job.specs.declared.state.Job.{Job}
use Rattle.job.specs.Lists.{as_call, job_of}
use Rattle.job.proofs.Lists.{no_call, calls_count}

module _ (s : Job) {qs : List Call} (e : qs ≡ s.calls.items) (k : ℕ) where
  pub call_missing : length qs ≤ k → length (job_of s).calls ≤ k
  call_missing h = omega (arith, calls_count s, ap length e)

  pub call_within : k < length qs → k < length (job_of s).calls
  call_within h = omega (arith, calls_count s, ap length e)

  pub call_found : {q : Call} → q ≡ get_or qs k no_call → call_of (job_of s) k ≡ as_call q
  call_found f = get_or-map as_call s.calls.items k no_call ∙ rw (f, e)
