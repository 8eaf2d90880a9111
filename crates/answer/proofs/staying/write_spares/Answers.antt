-- `write_spares` meets its contract: each cart without a path is followed on from its cell. The invariant: the rides of the carts so far are traced, for every job that the lists and the
-- store are of; the contract says that there is one, which keeps the indices in range. Assumes nothing.
use Prim.Native.Nat.{ℕ, ◌<◌}
use mathlib.Core.List.{List}
use mathlib.Core.Path.{◌≡◌, refl}
use native.Mathlib.Omega.{arith}
use lib.ListN.{length}
use Rattle.model.specs.Job.{Job}
use Rattle.answer.specs.Full.{PathsWritten}
use Rattle.answer.specs.Spares.{cart_at}
use Rattle.answer.proofs.SpareKeep.{top_few}
use Rattle.answer.proofs.SparePlan.{carts_few, written_so, rides_skip, line_unmet, room_left, rides_more, right_plan, none_has, one_has}
use Rattle.answer.proofs.staying.write_spares.Goals as goal
use Rattle.answer.proofs.staying.write_spares.Goals.{Then-not-taken-cart, then-not-taken-cart, else-not-taken-cart}

pub overflow_cast-last : goal.overflow_cast-last
overflow_cast-last c = let (j, o, g) = c.requires in omega (arith, top_few g.kept.keeps)

-- The cart has no path.
free : (c : Then-not-taken-cart) (j : Job) (o : List ℕ) → PathsWritten j c.args.carts.now c.args.calls o c.args.store.now.grid c.args.store.now.bytes.now c.args.rides.now
    → (i : ℕ) → i < c.args.calls → cart_at c.args.rides.now i ≡ c.loop-cart.cart → ⊥
free c j o g = none_has g c.taken_by-taken.ensures c.loop-cart.cart c.if-not-taken-cart.true

-- So there is a ride left.
room : (c : Then-not-taken-cart) → (c.loop-cart.k < length c.args.rides.now) × (length c.args.rides.now < 65)
room c =
    let (j, o, g) = c.requires in
    (room_left g (c.loop-cart.invariant j o g) c.loop-cart-test.true refl (free c j o g), omega (arith, g.room, carts_few g))

pub offset_bounds-rides-k : goal.offset_bounds-rides-k
offset_bounds-rides-k c = omega (arith, room (goal.at.offset_bounds-rides-k c).Then-not-taken-cart)

pub bounds-rides-k : goal.bounds-rides-k
bounds-rides-k c = omega (arith, room (goal.at.bounds-rides-k c).Then-not-taken-cart, c.loop-cart.auto.rides)

pub go_on-requires : goal.go_on-requires
go_on-requires c =
    let (j, o, g) = c.requires in
    (j, g.kept.keeps, line_unmet g (c.loop-cart.invariant j o g) c.loop-cart-test.true c.from.ensures (free (goal.at.go_on-requires c).Then-not-taken-cart j o g))

pub overflow_add-k : goal.overflow_add-k
overflow_add-k c = omega (arith, room (goal.at.overflow_add-k c).Then-not-taken-cart)

pub loop-cart-preserved : goal.loop-cart-preserved
loop-cart-preserved c = λ j o g.
    let i = c.loop-cart.invariant j o g in
    let more = c.loop-cart-test.true in
    let marks = c.taken_by-taken.ensures in
    elim c.if-not-taken-cart.branch [
      | then-not-taken-cart w ↦
          let none = none_has g marks c.loop-cart.cart w.if-not-taken-cart.true in
          let on = w.go_on.ensures j g.kept.keeps (line_unmet g i more w.from.ensures none) in
          rw (w.rides-is, w.k-is) (rides_more g i more w.from.ensures none on w.go_on.array_long refl c.loop-cart.auto.rides _)
      | else-not-taken-cart w ↦ rw (w.rides-is, w.k-is) (rides_skip g i more refl (one_has g marks c.loop-cart.cart w.if-not-taken-cart.false))
    ]

pub returns : goal.returns
returns c = λ j o g.
    let w = c.loop-cart.invariant j o g in
    right_plan (written_so g c.loop-cart.auto.rides w) w (omega (arith, c.loop-cart-test.false))
