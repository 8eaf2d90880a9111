-- `write_floor` meets its contract, which says nothing: what it calls gets what it asks for. A refusal's line is that of a map, and so below 1,000. Assumes nothing.
use native.Mathlib.Omega.{arith}
use Rattle.model.proofs.RefusedLine.{mapped_line}
use Rattle.floormap.proofs.write_floor.Goals as goal

pub refused-requires : goal.refused-requires
refused-requires g c =
    let r = c.cartfloor_map-r in
    (omega arith, omega (arith, mapped_line c.args.map.now r.ensures c.if-r-gt0.true))
