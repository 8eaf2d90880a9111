-- `digits` reads the number that the digits at `at` are. Invariant: what `scan_from` makes from `next` on, with the value so far, is what the contract asks for; the value has at most
-- three digits, and there is none past the text's end. Assumes nothing.
use Prim.Native.Nat.{◌≤◌}
use mathlib.Core.Path.{◌≡◌}
use mathlib.Core.Logic.{◌⊎◌}
use lib.ListN.{length, drop}
use Rattle.std.specs.Prelude.{None, unwrap_or}
use Rattle.text.proofs.Steps.{scan_from}
use Rattle.text.specs.Scan.{digits_at}
use Rattle.text.proofs.scan.digits.Given as goal

abbrev pub invariant-loop-next : goal.invariant-loop-next
invariant-loop-next l = (unwrap_or l.value 0 ≤ 999) × ((l.next ≤ length l.s) ⊎ (l.value ≡ None)) × (scan_from l.next l.value (drop l.next l.s) ≡ digits_at l.s l.at)
