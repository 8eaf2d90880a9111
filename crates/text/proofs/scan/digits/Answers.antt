-- `digits` reads the number that the digits at `at` are. Invariant: what `scan_from` makes from `next` on, with the value so far, is what the contract asks for; the value has at most
-- three digits, and there is none past the text's end. Assumes nothing.
use mathlib.Core.Path.{◌∙◌, ◌≡◌, refl, sym}
use mathlib.Core.Bool.{true}
use mathlib.Core.Logic.{inl, inr}
use native.Mathlib.Omega.{arith}
use lib.ListN.{drop, get_or}
use Rattle.model.specs.Text.{is_digit}
use Rattle.text.proofs.Numbers.{digit_low}
use Rattle.text.proofs.Steps.{may_small, scan_digits, scan_end, scan_long, scan_step, scan_stop}
use Rattle.text.specs.Scan.{digits_at, may_go_on}
use Rattle.text.proofs.scan.digits.Goals as goal

pub loop-next-init : goal.loop-next-init
unfolding digits_at
loop-next-init c = (omega arith, inr refl, scan_digits c.args.at (drop c.args.at c.args.s.now))

pub returns-then-not-digit : goal.returns-then-not-digit
returns-then-not-digit c =
    let l = c.loop-next in
    c.ended.ensures ∙ sym (scan_stop c.args.s.now l.next l.value c.loop-next-test.true (sym c.if-not-digit.ensures)) ∙ l.invariant.2

pub returns-then-not-may_go_on : goal.returns-then-not-may_go_on
returns-then-not-may_go_on c =
    let l = c.loop-next in
    sym (scan_long c.args.s.now l.next l.value c.loop-next-test.true (sym c.if-not-digit.ensures) (sym c.if-not-may_go_on.ensures)) ∙ l.invariant.2

pub loop-next-preserved : goal.loop-next-preserved
loop-next-preserved c =
    let l = c.loop-next in
    let s = c.args.s.now in
    let d : is_digit (get_or s l.next 0) ≡ true = sym c.if-not-digit.ensures in
    let m : may_go_on l.value ≡ true = sym c.if-not-may_go_on.ensures in
    let low = digit_low (get_or s l.next 0) d in
    let small = may_small l.value m in (
      omega (arith, c.from.ensures, c.unwrap_or.ensures),
      inl (omega arith),
      rw (c.unwrap_or.ensures, c.from.ensures) (sym (scan_step s l.next l.value c.loop-next-test.true d m) ∙ l.invariant.2),
    )

pub returns : goal.returns
returns c = let l = c.loop-next in c.ended-2.ensures ∙ sym (scan_end c.args.s.now l.next l.value c.loop-next-test.false l.invariant.1) ∙ l.invariant.2
