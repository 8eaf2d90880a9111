-- `raised` multiplies by ten as often as the power says. Invariant: so far it is ten to the power of the turns made, times the value. Assumes nothing.
use Prim.Native.Nat.{◌-◌, ◌*◌, ◌^◌, ◌≤◌}
use mathlib.Core.Path.{◌≡◌}
use Rattle.text.proofs.exponent.raised.Given as goal

abbrev pub invariant-loop : goal.invariant-loop
invariant-loop l = (l.counter ≤ l.power) × (l.v ≡ l.value * 10 ^ l.counter)

abbrev pub decreases-loop : goal.decreases-loop
decreases-loop l = l.power - l.counter
