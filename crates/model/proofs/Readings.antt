-- What no filed example shows, each as a row: the least buffers, exponents, the form of a sheet and the line of a 11, spare carts, what is no conflict, early lifts, what a whole call stops, the
-- order of a plan and of a choke list, the form of a map.
use Prim.Native.Nat.{ℕ, ◌+◌, ◌*◌}
use Prim.Native.String.{String}
use mathlib.Core.List.{List, [], ◌∷◌}
use Rattle.model.specs.Lists.{In}
use Rattle.model.specs.ReadJob.{read_job}
use Rattle.model.specs.ReadSheet.{read_sheet}
use Rattle.model.specs.GridMap.{read_map}
use Rattle.model.specs.Filed.{Row, plans, checks, maps, allows, wrote, refuses, RowHolds, big, job_a, job_b, job_d, job_f, job_closed, job_unclosed, job_spare, job_spares, job_aside}
use Rattle.model.proofs.Decide.{decided, all_in}
use Rattle.model.proofs.Filed.{dec_row, row_holds}

-- the least buffers, one byte short and just enough
abbrev buffers : List Row
buffers =
    plans "FLOOR\t256\n" 12287 64 (refuses 9 0)
    ∷ plans "FLOOR\t256\n" 12288 64 (wrote 0 "PLAN\t0\n")
    ∷ plans "FLOOR\t256\n" 12288 63 (refuses 10 0)
    ∷ plans "FLOOR\t256\n" 12287 63 (refuses 9 0)
    ∷ plans "FLOOR\t256\nCALL\t0\t0\n" 0 0 (refuses 8 0)
    ∷ plans "FLOOR\t256\nCART\t0\n" 12288 84 (wrote 0 "PLAN\t0\nSPARE\t0\t0\n")
    ∷ plans "FLOOR\t256\nCART\t0\n" 12288 83 (refuses 10 0)
    ∷ []

-- 11 at a line
abbrev at : ℕ → ℕ
at line = 11 + 256 * line

-- `e` or `E`, an optional `+` and one digit, and nothing else behind a number; range and doubled lines go by the value; a sheet and a map have plain numbers
abbrev exponents : List Row
exponents =
    plans "FLOOR\t25e1\n" 12096 64 (wrote 0 "PLAN\t0\n")
    ∷ plans "FLOOR\t25e1\n" 12095 64 (refuses 9 0)
    ∷ plans "FLOOR\t256e0\n" 12288 64 (wrote 0 "PLAN\t0\n")
    ∷ plans "FLOOR\t256e0\n" 12287 64 (refuses 9 0)
    ∷ plans "FLOOR\t1E+0\nCART\t0e5\nCALL\t0\t0e9\n" big big (wrote 0 "PLAN\t1\nPATH\t0\t0\t0\n")
    ∷ plans "FLOOR\t2\nCART\t1e0\nBAY\t1E0\t0\n" big big (wrote 0 "PLAN\t1\nPATH\t0\t0\t1\n")
    ∷ plans "FLOOR\t1\nCART\t0\nCALL\t0\t255e0\n" 12287 big (refuses 9 0)
    ∷ plans "FLOOR\t1\nCART\t0\nCALL\t0\t256e0\n" big big (refuses 5 3)
    ∷ plans "FLOOR\t0e5\n" big big (refuses 5 1)
    ∷ plans "FLOOR\t33e8\n" big big (refuses 5 1)
    ∷ plans "FLOOR\t128e9\n" big big (refuses 5 1)
    ∷ plans "FLOOR\t2\nTRACK\t0e3\t1e0\nTRACK\t0\t1\n" big big (refuses 7 3)
    ∷ plans "FLOOR\t2\nTRACK\t1\t1e0\n" big big (refuses 7 2)
    ∷ plans "FLOOR\t2\nTRACK\t999e9\tx\n" big big (refuses 4 2)
    ∷ plans "FLOOR\t00e1\n" big big (refuses 4 1)
    ∷ plans "FLOOR\t1e\n" big big (refuses 4 1)
    ∷ plans "FLOOR\t1e+\n" big big (refuses 4 1)
    ∷ plans "FLOOR\t1e-1\n" big big (refuses 4 1)
    ∷ plans "FLOOR\t1e10\n" big big (refuses 4 1)
    ∷ plans "FLOOR\t1.0\n" big big (refuses 4 1)
    ∷ plans "FLOOR\t1 e1\n" big big (refuses 4 1)
    ∷ plans "FLOOR\te1\n" big big (refuses 4 1)
    ∷ checks job_d big "PLAN\t1e0\nPATH\t0\t0\t0\n" (at 1)
    ∷ maps "type octile\nheight 1e0\nwidth 1\nmap\n.\n" big (refuses 13 2)
    ∷ []

abbrev sheets : List Row
sheets =
    checks job_a big "PLAN\t2\nPATH\t0\t1\t0\t1\nPATH\t1\t0\t1\t2\n" 0
    ∷ checks job_b big "CANNOT\t1\nCHOKE\t1\t0\n" 1
    ∷ checks job_b big "CANNOT\t1\nCHOKE\t0\t0\n" 12
    ∷ checks job_b big "CANNOT\t1\nCHOKE\t0\t2\n" (at 2)
    ∷ checks job_b big "CANNOT\t2\nCHOKE\t1\t0\nCHOKE\t0\t1\n" (at 1)
    ∷ checks "FLOOR\t1\n" big "CANNOT\t0\n" (at 1)
    ∷ checks job_f big "" (at 1)
    ∷ checks job_f big "PLAN\t2\n" (at 2)
    ∷ checks job_f big "PLAN\t1\nPATH\t0\t0\t0\t0\n" (at 1)
    ∷ checks job_f big "PLAN\t2\nPATH\t0\t0\t0\t0\nPATH\t1\t1\t1\t1" (at 3)
    ∷ checks job_f big "PLAN\t2\nPATH\t0\t0\t0\t0\nPATH\t1\t1\t1\t1\nx" (at 4)
    ∷ checks job_f big "PLAN\t2\nPATH\t0\t0\nPATH\t1\t1\t1\t1\n" (at 2)
    ∷ checks job_f big "PLAN\t2\nPATH\t0\t0\t0\t0\t0\nPATH\t1\t1\t1\t1\n" (at 2)
    ∷ checks job_f big "PLAN\t2\nPATH\t0\t0\t0\t2\nPATH\t1\t1\t1\t1\n" (at 2)
    ∷ checks job_f big "PLAN\t2\nPATH\t1\t1\t1\t1\nPATH\t0\t0\t0\t0\n" 12
    ∷ checks job_f big "PLAN\t2\nPATH\t0\t0\t0\t0\nPATH\t0\t0\t0\t0\n" 12
    ∷ checks job_f big "CANNOT\t1\nCHOKE\t0\t0\n" 12
    ∷ checks job_d 4127 "PLAN\t1\nPATH\t0\t0\t0\n" 9
    ∷ []

-- a track is gone along backwards; a ring of three turns; a lift cell is free after its deadline and not at it
abbrev moves : List Row
moves =
    plans "FLOOR\t2\nTRACK\t1\t0\nCART\t0\nCALL\t1\t1\n" big big (wrote 0 "PLAN\t1\nPATH\t0\t0\t0\t1\n")
    ∷ checks "FLOOR\t3\nTRACK\t0\t1\nTRACK\t1\t2\nTRACK\t2\t0\nCART\t0\nCART\t1\nCART\t2\nCALL\t1\t1\nCALL\t2\t1\nCALL\t0\t1\n" big
    "PLAN\t3\nPATH\t2\t2\t2\t0\nPATH\t0\t0\t0\t1\nPATH\t1\t1\t1\t2\n" 0
    ∷ checks "FLOOR\t2\nTRACK\t0\t1\nCART\t0\nCART\t1\nCALL\t1\t0\nCALL\t0\t2\n" big "PLAN\t2\nPATH\t1\t0\t1\nPATH\t0\t1\t0\t1\t0\n" 0
    ∷ checks "FLOOR\t2\nTRACK\t0\t1\nCART\t0\nCART\t1\nCALL\t1\t1\nCALL\t0\t2\n" big "PLAN\t2\nPATH\t1\t0\t1\t1\nPATH\t0\t1\t0\t1\t0\n" 12
    ∷ []

abbrev job_cross : String
job_cross = "FLOOR\t3\nTRACK\t0\t1\nTRACK\t1\t2\nCART\t0\nCART\t1\nCALL\t1\t2\nCALL\t2\t2\n"

-- a cart is lifted before its deadline, and its lift cell is free from the next step on, not at that one; it is lifted on its call's cell only, and never parked early
abbrev lifts : List Row
lifts =
    checks job_f big "PLAN\t2\nPATH\t0\t0\t0\nPATH\t1\t1\t1\t1\n" 0
    ∷ checks job_cross big "PLAN\t2\nPATH\t1\t0\t1\nPATH\t0\t1\t0\t1\t2\n" 0
    ∷ checks job_cross big "PLAN\t2\nPATH\t1\t0\t1\t1\nPATH\t0\t1\t0\t1\t2\n" 12
    ∷ checks job_a big "PLAN\t2\nPATH\t0\t1\t0\t1\nPATH\t1\t0\t1\n" 12
    ∷ checks "FLOOR\t2\nTRACK\t0\t1\nCART\t0\nBAY\t1\t2\n" big "PLAN\t1\nPATH\t0\t0\t0\t1\n" (at 2)
    ∷ []

abbrev job_stands : String
job_stands = "FLOOR\t3\nCART\t0\nCART\t1\nCALL\t0\t1\nCALL\t2\t1\n"

abbrev job_apart : String
job_apart = "FLOOR\t6\nCART\t0\nCART\t1\nCART\t2\nCALL\t3\t0\nCALL\t4\t0\nCALL\t5\t0\n"

-- a whole call is one at a lift; walks that end early must be stopped too; a whole call stops the walks that end there, and none that crosses its cell; cells stand in front of
-- whole calls, and these rise
abbrev chokes : List Row
chokes =
    checks job_closed big "CANNOT\t1\nCHOKE\tCALL\t0\n" (at 2)
    ∷ checks job_closed big "CANNOT\t1\nCHOKE\tCALL\t2\n" (at 2)
    ∷ checks job_stands big "CANNOT\t1\nCHOKE\tCALL\n" (at 2)
    ∷ checks job_stands big "CANNOT\t1\nCHOKE\tCALL\t0\t1\n" (at 2)
    ∷ checks job_stands big "CANNOT\t1\nCHOKE\t0\t1\n" 12
    ∷ checks job_stands big "CANNOT\t1\nCHOKE\t0\t0\n" 1
    ∷ checks job_stands big "CANNOT\t1\nCHOKE\tCALL\t0\n" 1
    ∷ checks job_stands big "CANNOT\t1\nCHOKE\tCALL\t1\n" 12
    ∷ checks job_cross big "CANNOT\t1\nCHOKE\tCALL\t0\n" 12
    ∷ checks job_apart big "CANNOT\t2\nCHOKE\t5\t0\nCHOKE\tCALL\t0\n" 1
    ∷ checks job_apart big "CANNOT\t2\nCHOKE\tCALL\t0\nCHOKE\t5\t0\n" 12
    ∷ checks job_apart big "CANNOT\t2\nCHOKE\tCALL\t0\nCHOKE\tCALL\t1\n" 1
    ∷ checks job_apart big "CANNOT\t2\nCHOKE\tCALL\t1\nCHOKE\tCALL\t0\n" 12
    ∷ checks job_apart big "CANNOT\t2\nCHOKE\tCALL\t1\nCHOKE\tCALL\t1\n" 12
    ∷ []

-- a bay's cell is closed from the step behind the bay's on: no path may come there, and a choke point there stops nothing; a bay's path ends at its step, and BAY lines are
-- tested like CALL lines
abbrev bays : List Row
bays =
    checks job_closed big "PLAN\t2\nPATH\t1\t0\t1\nPATH\t0\t1\t0\t1\t2\n" 12
    ∷ checks job_unclosed big "PLAN\t2\nPATH\t1\t0\t1\nPATH\t0\t1\t0\t1\t2\n" 0
    ∷ checks job_closed big "CANNOT\t1\nCHOKE\t1\t1\n" 12
    ∷ checks job_closed big "CANNOT\t1\nCHOKE\t1\t3\n" (at 2)
    ∷ checks "FLOOR\t2\nTRACK\t0\t1\nCART\t0\nBAY\t1\t1\n" big "PLAN\t1\nPATH\t0\t0\t0\t1\t1\n" (at 2)
    ∷ plans "FLOOR\t1\nCART\t0\nCALL\t0\t1\nBAY\t0\t2\n" big big (refuses 7 4)
    ∷ plans "FLOOR\t1\nCART\t0\nBAY\t0\t1\nBAY\t0\t2\n" big big (refuses 7 4)
    ∷ plans "FLOOR\t2\nCART\t0\nBAY\t0\t1\nCALL\t1\t2\n" big big (refuses 8 0)
    ∷ plans "FLOOR\t1\nCART\t0\nBAY\t0\n" big big (refuses 3 3)
    ∷ plans "FLOOR\t1\nCART\t0\nBAY\t0\t256\n" big big (refuses 5 3)
    ∷ plans "FLOOR\t1\nCART\t0\nBAY\t0\t255\n" 12287 big (refuses 9 0)
    ∷ []

-- what is due at one step goes by cell, bays among calls, whatever their order in the job; an earlier step goes before a lower cell
abbrev orders : List Row
orders =
    plans "FLOOR\t2\nCART\t0\nCART\t1\nBAY\t1\t0\nCALL\t0\t0\n" big big (wrote 0 "PLAN\t2\nPATH\t0\t1\t0\nPATH\t1\t0\t1\n")
    ∷ plans "FLOOR\t2\nCART\t0\nCART\t1\nCALL\t1\t0\nBAY\t0\t0\n" big big (wrote 0 "PLAN\t2\nPATH\t0\t1\t0\nPATH\t1\t0\t1\n")
    ∷ allows "FLOOR\t2\nCART\t0\nCART\t1\nCALL\t0\t1\nCALL\t1\t0\n" big big (wrote 0 "PLAN\t2\nPATH\t1\t1\t1\nPATH\t0\t0\t0\t0\n")
    ∷ checks "FLOOR\t3\nCART\t0\nCART\t1\nCART\t2\nCALL\t2\t0\nCALL\t0\t0\nCALL\t1\t0\n" big "PLAN\t3\nPATH\t0\t1\t0\nPATH\t1\t2\t1\nPATH\t2\t0\t2\n" 0
    ∷ checks "FLOOR\t3\nCART\t0\nCART\t1\nCART\t2\nCALL\t2\t0\nCALL\t0\t0\nCALL\t1\t0\n" big "PLAN\t3\nPATH\t2\t0\t2\nPATH\t0\t1\t0\nPATH\t1\t2\t1\n" 12
    ∷ []

-- every line of a map in its form, and its refusals in their order; a row's end joins no cells, nor do corners
abbrev drawings : List Row
drawings =
    maps "" big (refuses 13 1)
    ∷ maps "type octile" big (refuses 13 1)
    ∷ maps "type octile\n" big (refuses 13 2)
    ∷ maps "type octile\nwidth 1\nheight 1\nmap\n.\n" big (refuses 13 2)
    ∷ maps "type octile\nheight  1\nwidth 1\nmap\n.\n" big (refuses 13 2)
    ∷ maps "type octile\nheight 01\nwidth 1\nmap\n.\n" big (refuses 13 2)
    ∷ maps "type octile\nheight 0\nwidth 1\nmap\n.\n" big (refuses 13 2)
    ∷ maps "type octile\nheight 1\nwidth 65\nmap\n.\n" big (refuses 13 3)
    ∷ maps "type octile\nheight 1\nwidth 1 \nmap\n.\n" big (refuses 13 3)
    ∷ maps "type octile\nheight 1\nwidth 1\nmap\r\n.\n" big (refuses 13 4)
    ∷ maps "type octile\nheight 1\nwidth 1\nmap\n." big (refuses 13 5)
    ∷ maps "type octile\nheight 1\nwidth 1\nmap\n..\n" big (refuses 13 5)
    ∷ maps "type octile\nheight 1\nwidth 2\nmap\n.\n" big (refuses 13 5)
    ∷ maps "type octile\nheight 1\nwidth 1\nmap\n.\n\n" big (refuses 13 6)
    ∷ maps "type octile\nheight 1\nwidth 1\nmap\n.\nx" big (refuses 13 6)
    ∷ maps "type octile\nheight 1\nwidth 64\nmap\n@@@@@@@@@@@@@@@@@@@@@@@@@@@@@@@@@@@@@@@@@@@@@@@@@@@@@@@@@@@@@@@.\n" big (wrote 0 "FLOOR\t1\n")
    ∷ maps "type octile\nheight 2\nwidth 3\nmap\n..@\n..@\n" big (wrote 0 "FLOOR\t4\nTRACK\t0\t1\nTRACK\t0\t2\nTRACK\t1\t3\nTRACK\t2\t3\n")
    ∷ maps "type octile\nheight 2\nwidth 3\nmap\n@O.\n.T@\n" big (wrote 0 "FLOOR\t2\n")
    ∷ maps "type octile\nheight 3\nwidth 1\nmap\n.\nG\n.\n" big (wrote 0 "FLOOR\t3\nTRACK\t0\t1\nTRACK\t1\t2\n")
    ∷ maps "type octile\nheight 1\nwidth 1\nmap\nT\n" 0 (refuses 14 0)
    ∷ maps "type octile\nheight 1\nwidth 1\nmap\nt\n" 0 (refuses 13 5)
    ∷ []

-- SPARE lines: as many as carts are left, with H + 1 cells each; by cart, each cart once; in nobody's way up to H
abbrev spares : List Row
spares =
    checks job_spare big "PLAN\t1\nPATH\t0\t0\t0\t0\nSPARE\t1\t1\t1\n" 0
    ∷ checks job_spare big "PLAN\t1\nPATH\t0\t0\t0\t0\nSPARE\t1\t1\t1\t1\n" (at 3)
    ∷ checks job_spare big "PLAN\t1\nPATH\t0\t0\t0\t0\nSPARE\t2\t1\t1\n" (at 3)
    ∷ checks job_spare big "PLAN\t1\nPATH\t0\t0\t0\t0\nSPARE\t1\t1\t2\n" (at 3)
    ∷ checks job_spare big "PLAN\t1\nPATH\t0\t0\t0\t0\nSPARE\n" (at 3)
    ∷ checks job_spare big "PLAN\t1\nPATH\t0\t0\t0\t0\nSPARE\t1\n" (at 3)
    ∷ checks job_spare big "PLAN\t1\nPATH\t0\t0\t0\t0\nSPARE\t1\t1\t1" (at 3)
    ∷ checks job_spare big "PLAN\t1\nPATH\t0\t0\t0\t0\nPATH\t1\t0\t1\t1\n" (at 3)
    ∷ checks job_spare big "PLAN\t1\nSPARE\t1\t1\t1\nPATH\t0\t0\t0\t0\n" (at 2)
    ∷ checks job_spare big "PLAN\t1\nPATH\t0\t0\t0\t0\nSPARE\t1\t1\t1\nSPARE\t1\t1\t1\n" (at 4)
    ∷ checks job_spare big "PLAN\t2\nPATH\t0\t0\t0\t0\nSPARE\t1\t1\t1\n" (at 1)
    ∷ checks job_spare big "PLAN\t1\nPATH\t0\t0\t0\t0\nSPARE\t0\t0\t0\n" 12
    ∷ checks job_spare big "PLAN\t1\nPATH\t0\t0\t0\t0\nSPARE\t1\t0\t1\n" 12
    ∷ checks job_spare big "PLAN\t1\nPATH\t1\t0\t1\t0\nSPARE\t0\t0\t1\n" 12
    ∷ checks job_spare big "PLAN\t1\nPATH\t1\t0\t1\t0\nSPARE\t0\t0\t0\n" 12
    ∷ checks job_spares big "PLAN\t0\nSPARE\t0\t1\nSPARE\t1\t0\n" 0
    ∷ checks job_spares big "PLAN\t0\nSPARE\t0\t1\nSPARE\t0\t1\n" 12
    ∷ checks job_spares big "PLAN\t0\nSPARE\t0\t1\n" (at 3)
    ∷ checks job_spares big "PLAN\t0\n" (at 2)
    ∷ checks job_aside big "PLAN\t1\nPATH\t1\t0\t1\t2\nSPARE\t0\t0\t1\t2\n" 0
    ∷ checks job_aside big "PLAN\t1\nPATH\t1\t0\t1\t2\nSPARE\t0\t0\t1\n" (at 3)
    ∷ checks job_aside big "CANNOT\t0\n" 12
    ∷ checks job_d big "PLAN\t1\nPATH\t0\t0\t0\nSPARE\t0\t0\n" (at 3)
    ∷ []

pub buffers_hold : (x : Row) → In x buffers → RowHolds x
unfolding read_job read_sheet
buffers_hold x m = row_holds x (decided (all_in dec_row buffers) tt x m)

pub exponents_hold : (x : Row) → In x exponents → RowHolds x
unfolding read_job read_sheet read_map
exponents_hold x m = row_holds x (decided (all_in dec_row exponents) tt x m)

pub sheets_hold : (x : Row) → In x sheets → RowHolds x
unfolding read_job read_sheet
sheets_hold x m = row_holds x (decided (all_in dec_row sheets) tt x m)

pub spares_hold : (x : Row) → In x spares → RowHolds x
unfolding read_job read_sheet
spares_hold x m = row_holds x (decided (all_in dec_row spares) tt x m)

pub lifts_hold : (x : Row) → In x lifts → RowHolds x
unfolding read_job read_sheet
lifts_hold x m = row_holds x (decided (all_in dec_row lifts) tt x m)

pub chokes_hold : (x : Row) → In x chokes → RowHolds x
unfolding read_job read_sheet
chokes_hold x m = row_holds x (decided (all_in dec_row chokes) tt x m)

pub bays_hold : (x : Row) → In x bays → RowHolds x
unfolding read_job read_sheet
bays_hold x m = row_holds x (decided (all_in dec_row bays) tt x m)

pub orders_hold : (x : Row) → In x orders → RowHolds x
unfolding read_job read_sheet
orders_hold x m = row_holds x (decided (all_in dec_row orders) tt x m)

pub moves_hold : (x : Row) → In x moves → RowHolds x
unfolding read_job read_sheet
moves_hold x m = row_holds x (decided (all_in dec_row moves) tt x m)

pub drawings_hold : (x : Row) → In x drawings → RowHolds x
unfolding read_map
drawings_hold x m = row_holds x (decided (all_in dec_row drawings) tt x m)
