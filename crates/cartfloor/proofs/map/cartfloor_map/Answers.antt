-- `cartfloor_map` hands on the rows of a map in the form, whose cells stand near its first letter. Assumes nothing.
use Rattle.gridmap.proofs.RowLines.{near}
use Rattle.cartfloor.proofs.map.cartfloor_map.Goals as goal

pub write_floor-requires : goal.write_floor-requires
write_floor-requires c = let h = rw c.in-Ok.is at c.read_map.ensures in (h.few_letters, near h)
