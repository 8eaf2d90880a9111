-- `in_order` decides whether the calls of the paths are in order. Invariant: of what lies before the window, each call stands before the next. Assumes nothing.
use Rattle.std.proofs.Common.{◌≡◌, ℕ, ◌+◌, ◌-◌, ◌<◌, ◌≤◌, length, drop}
use Rattle.std.specs.Slice.Iter.{windows_size, windows_rest}
use Rattle.model.specs.Plan.{Sooner}
use Rattle.job.specs.Lists.{as_call}
use Rattle.planjudge.specs.PlanTests.{ride_at, call_at}
use Rattle.planjudge.proofs.order.in_order.Given as goal

abbrev pub invariant-loop-pair : goal.invariant-loop-pair
invariant-loop-pair l =
    let rest = windows_rest l.pair-iterator in
    let i = length l.paths - length rest in
    (windows_size l.pair-iterator ≡ windows_size l.initial.pair-iterator) × (length rest ≤ length l.paths) × (rest ≡ drop i l.paths)
    × ((k : ℕ) → k < i → Sooner (as_call (call_at l.calls (ride_at l.paths k))) (as_call (call_at l.calls (ride_at l.paths (k + 1)))))
