-- `put_ride` meets its contract: the opening, the fields of the cells and the line feed are a line. Assumes nothing.
use Prim.Native.Nat.{◌+◌}
use mathlib.Core.Path.{◌≡◌}
use native.Mathlib.Omega.{arith}
use native.Mathlib.Numerals.{add-one}
use lib.ListN.{take}
use Rattle.job.specs.Held.{as_ride}
use Rattle.model.proofs.Room.{fields_room}
use Rattle.text.proofs.Wrote.{writes_long, writes_more}
use Rattle.sheetwriter.proofs.Laws.{opening_short, opening_line}
use Rattle.sheetwriter.proofs.put_ride.Goals as goal
use Rattle.sheetwriter.proofs.put_ride.Goals.{After-from}

-- the part of the row that is written
cells : (c : After-from) → take (c.from.result + 1) c.args.ride.now.cells ≡ (as_ride c.args.ride.now).cells
cells c = rw (c.from.ensures, add-one)

pub fields-requires : goal.fields-requires
fields-requires c =
    let w = c.put_opening.ensures in
    rw (cells (goal.at.fields-requires c).After-from) (omega (arith, w.wrote.next, writes_long w, opening_short c.args.met c.args.ride.now))

pub byte-requires : goal.byte-requires
byte-requires c =
    let w = c.put_opening.ensures in
    let v = rw (cells (goal.at.byte-requires c).After-from) at c.fields.ensures in
    omega (arith, w.wrote.next, writes_long w, opening_short c.args.met c.args.ride.now, v.wrote.next, writes_long v, fields_room (as_ride c.args.ride.now).cells)

pub returns : goal.returns
returns c =
    let s = c.args in
    rw (← opening_line s.met s.ride.now) (writes_more c.put_opening.ensures (writes_more (rw (cells (goal.at.returns c).After-from) at c.fields.ensures) c.byte.ensures))
