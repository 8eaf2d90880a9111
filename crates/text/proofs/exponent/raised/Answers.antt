-- `raised` multiplies by ten as often as the power says. Invariant: so far it is ten to the power of the turns made, times the value. Assumes nothing.
use Prim.Native.Nat.{◌+◌, ◌*◌, ◌^◌, ◌≤◌}
use mathlib.Core.Path.{◌∙◌, ◌≡◌, ap}
use native.Mathlib.Omega.{arith}
use borrow.Author.Rules.{rules}
use Rattle.text.proofs.Powers.{power_more}
use Rattle.text.proofs.exponent.raised.Goals as goal
use Rattle.text.proofs.exponent.raised.Goals.{In-loop}

pub loop-init : goal.loop-init
loop-init c = (search rules, omega arith)

more : (c : In-loop) → let l = c.loop in let a = c.args in
    (l.v * 10 ≡ a.value * 10 ^ (l.counter + 1)) × (l.v * 10 ≤ 999000000000)
more c =
    let l = c.loop in
    let a = c.args in
    power_more a.value a.power l.counter l.v c.requires.0 c.requires.1 c.loop-test.true l.invariant.1

pub overflow_mul-v : goal.overflow_mul-v
overflow_mul-v c = omega (arith, (more (goal.at.overflow_mul-v c).In-loop).1)

pub loop-preserved : goal.loop-preserved
loop-preserved c = (omega arith, (more (goal.at.loop-preserved c).In-loop).0)

pub returns : goal.returns
returns c =
    let l = c.loop in
    l.invariant.1 ∙ ap (λ k. c.args.value * 10 ^ k) (omega arith)
