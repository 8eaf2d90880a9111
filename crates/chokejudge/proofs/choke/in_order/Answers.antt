-- `in_order` compares each choke point with the next. Invariant: of what lies before the window, each rises to the next. Assumes nothing.
use Prim.Native.Nat.{◌+◌, ◌-◌, ◌≤◌}
use mathlib.Core.Path.{◌≡◌, ◌∙◌, ap}
use mathlib.Core.Logic.{⊎_elim}
use native.Mathlib.Omega.{arith}
use native.Mathlib.Nat.{eq-or-lt_of_le}
use lib.ListN.{length, get_or, drop}
use Rattle.std.specs.Slice.Iter.{windows_rest}
use Rattle.std.proofs.lemmas.Iterator.{window_more}
use Rattle.model.specs.Choke.{Rises}
use Rattle.job.specs.Held.{as_choke}
use Rattle.job.proofs.Tested.{told, denied}
use Rattle.chokejudge.proofs.OrderLaws.{no_choke, order_at, order_of}
use Rattle.chokejudge.proofs.choke.in_order.Goals as goal
use Rattle.chokejudge.proofs.choke.in_order.Goals.{In-Some}

-- the window that was taken has the choke points at its place and behind
window : (c : In-Some)
    → let xs = c.args.chokes.now in
    let s = c.loop-pair.pair-iterator in
    let t = c.next.new.self in
    let i = length xs - length (windows_rest s) in
    (length (windows_rest t) + 1 ≡ length (windows_rest s)) × (windows_rest t ≡ drop (length xs - length (windows_rest t)) xs) × (2 ≤ length (windows_rest s))
    × (get_or c.in-Some.pair.now 0 no_choke ≡ get_or xs i no_choke) × (get_or c.in-Some.pair.now 1 no_choke ≡ get_or xs (i + 1) no_choke)
window c =
    let xs = c.args.chokes.now in
    let (size, few, rest, rose) = c.loop-pair.invariant in
    let (next, behind, room, at) = window_more xs c.loop-pair.pair-iterator c.next.new.self c.next.result c.in-Some.pair c.in-Some.is c.next.ensures.steps (omega arith) few rest in
    let i = length xs - length (windows_rest c.loop-pair.pair-iterator) in
    let e : i + 0 ≡ i = omega arith in
    (next, behind, omega arith, at 0 no_choke (omega arith) ∙ ap (λ k. get_or xs k no_choke) e, at 1 no_choke (omega arith))

pub loop-pair-preserved : goal.loop-pair-preserved
loop-pair-preserved c =
    let xs = c.args.chokes.now in
    let (size, few, rest, rose) = c.loop-pair.invariant in
    let (next, behind, room, first, second) = window (goal.at.loop-pair-preserved c).In-Some in
    let i = length xs - length (windows_rest c.loop-pair.pair-iterator) in
    let here : Rises (as_choke (get_or xs i no_choke)) (as_choke (get_or xs (i + 1) no_choke)) = rw (first, second) at (c.choke_rises.ensures.0 c.if-not-choke_rises.false) in
    (c.next.ensures.steps.0 ∙ size, omega arith, behind, λ k h. ⊎_elim (λ e. rw e here) (λ l. rose k l) (eq-or-lt_of_le {n = k} {m = i} (omega arith)))

pub returns-then-not-choke_rises : goal.returns-then-not-choke_rises
returns-then-not-choke_rises c =
    let xs = c.args.chokes.now in
    let (next, behind, room, first, second) = window (goal.at.returns-then-not-choke_rises c).In-Some in
    let i = length xs - length (windows_rest c.loop-pair.pair-iterator) in
    denied (λ o. c.choke_rises.ensures.1 c.if-not-choke_rises.true (rw (first, second) (order_at xs o i (omega (arith, c.loop-pair.invariant.1)))))

pub returns : goal.returns
returns c =
    let xs = c.args.chokes.now in
    let i = length xs - length (windows_rest c.loop-pair.pair-iterator) in
    told (order_of xs i (omega (arith, c.in-None.ensures.steps.1.0, c.loop-pair.invariant.0)) c.loop-pair.invariant.3)
