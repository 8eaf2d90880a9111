-- `drop_out` answers the successor of a used node, unless it is marked. Where a used node leads has its place (HoldsLaws). Assumes nothing.
use native.Mathlib.Omega.{arith}
use Rattle.route.proofs.SearchFinds.{after_place}
use Rattle.route.proofs.search.drop_out.Goals as goal

pub place-requires : goal.place-requires
place-requires c = after_place c.requires.1 c.place-v.ensures c.used.ensures c.if-not-used.false c.successor-to.ensures

pub mark-requires : goal.mark-requires
mark-requires c =
    let h = c.requires.1 in (
      h.0.room,
      omega (arith, after_place h c.place-v.ensures c.used.ensures c.if-not-used.false c.successor-to.ensures, c.place.ensures),
    )
