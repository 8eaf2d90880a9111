-- `write_floor` meets its contract, for every map with these cells at these places: the places of the map's cells are the first ones, and the tracks that are found from them are the map's.
-- Assumes nothing.
use Prim.Native.Nat.{ℕ, ◌<◌}
use mathlib.Core.Path.{◌≡◌}
use mathlib.Core.List.{List}
use native.Mathlib.Omega.{arith}
use native.Mathlib.Numerals.{add-one}
use lib.ListN.{take, length-take}
use Rattle.std.proofs.lemmas.List.{get_or-take}
use Rattle.model.specs.GridMap.{map_cells, cell_number}
use Rattle.model.proofs.Numbering.{number_below}
use Rattle.gridmap.specs.CellPlaces.{CellsPlaced}
use Rattle.cartfloor.proofs.MapVerdicts.{too_long, written}
use Rattle.cartfloor.proofs.map.write_floor.Goals as goal

-- The first places, as many as there are cells, are those of the map's cells.
placed_first : (m : List (List ℕ)) (w n : ℕ) (places : List ℕ) → n ≡ map_cells m → CellsPlaced m w places → CellsPlaced m w (take n places)
placed_first m w n places e placed r c is few =
    let below = number_below m r c is in
    let inside : cell_number m r c < n = omega arith in
    rw (get_or-take n places (cell_number m r c) 0 inside) (placed r c is few)

pub returns-then-text-n : goal.returns-then-text-n
returns-then-text-n c m e placed =
    let a = c.args in
    let w = a.rows.width in
    let n = a.rows.cells in
    let t = c.find_tracks-tracks.ensures.tracks m w (add-one w) (omega (arith, length-take n a.places.now, c.told-places)) (placed_first m w n a.places.now e placed) in
    too_long m a.text.now n _ c.lines_length-n.result e t (rw c.as_slice.ensures.value at c.lines_length-n.ensures.0) (omega arith) (omega arith) (omega arith) _
    c.packed-then-text-n.ensures

pub returns : goal.returns
returns c m e placed =
    let a = c.args in
    let w = a.rows.width in
    let n = a.rows.cells in
    let t = c.find_tracks-tracks.ensures.tracks m w (add-one w) (omega (arith, length-take n a.places.now, c.told-places)) (placed_first m w n a.places.now e placed) in
    written m a.text.now n _ c.lines_length-n.result e t (rw c.as_slice.ensures.value at c.lines_length-n.ensures.0) (omega arith) (omega arith)
    (rw c.as_slice-2.ensures.value at c.put_lines.ensures) (omega arith)
