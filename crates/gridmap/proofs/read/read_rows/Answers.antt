-- `read_rows` reads the rows. Invariant: what the rows from `p` on say after the r before it is what all say, `cells` are the cells of those r, and their places are noted.
-- Assumes nothing.
use Prim.Native.Nat.{ℕ, ◌+◌, ◌-◌}
use mathlib.Core.Path.{◌≡◌, sym, subst, ◌∙◌}
use mathlib.Core.Bool.{false, false≢true}
use native.Mathlib.Omega.{arith}
use lib.ListN.{length, take, drop, length-drop}
use lib.Seq.{length-take-le}
use Rattle.model.specs.GridMap.{all_letters}
use Rattle.gridmap.specs.Drawing.{GoodRow, RowRead}
use Rattle.std.specs.Prelude.{Some}
use Rattle.gridmap.proofs.LetterLaws.{count_most}
use Rattle.gridmap.proofs.RowLines.{left_all, row_said, row_unsaid, row_bad, row_good, rows_over, rows_read}
use Rattle.gridmap.proofs.read.read_rows.Goals as goal
use Rattle.gridmap.proofs.read.read_rows.Goals.{After-read_row, Else-map-end}

pub loop-r-init : goal.loop-r-init
loop-r-init c =
    let a = c.args in
    (omega arith, omega arith, omega arith, omega arith, left_all a.map.now a.start a.height a.width a.places.now)

pub returns-then-map-end : goal.returns-then-map-end
returns-then-map-end c =
    let a = c.args in
    let l = c.loop-r in
    let u = row_unsaid a.map.now l.p a.width (λ i e f. omega arith) in
    (row_bad a.map.now a.start a.height a.width l.invariant.4 (omega arith) u, omega arith)

-- the part that is read is the row
part : (c : Else-map-end) → c.loop-r.p + c.args.width - c.loop-r.p ≡ c.args.width
part c = omega arith

long : (c : Else-map-end) → length (take c.args.width (drop c.loop-r.p c.args.map.now)) ≡ c.args.width
long c =
    let t = drop c.loop-r.p c.args.map.now in
    length-take-le c.args.width t (omega (arith, length-drop c.loop-r.p c.args.map.now))

pub read_row-requires : goal.read_row-requires
read_row-requires c = (rw (part (goal.at.read_row-requires c).Else-map-end) (omega (arith, long (goal.at.read_row-requires c).Else-map-end)), omega arith, omega arith)

read : (c : After-read_row) → let a = c.args in let l = c.loop-r in
    RowRead (take a.width (drop l.p a.map.now)) (l.p - a.start) l.cells l.places c.read_row.new.places c.read_row.result
read c =
    let e : c.loop-r.p + c.args.width - c.loop-r.p ≡ c.args.width = omega arith in
    rw e at c.read_row.ensures

pub returns-in_default : goal.returns-in_default
returns-in_default c =
    let a = c.args in
    let l = c.loop-r in
    let x = take a.width (drop l.p a.map.now) in
    let none : all_letters x ≡ false = subst (RowRead x (l.p - a.start) l.cells l.places c.read_row.new.places) c.in_default.is
    (read (goal.at.returns-in_default c).After-read_row) in
    let u = row_unsaid a.map.now l.p a.width (λ i e f. false≢true (sym none ∙ e)) in
    (row_bad a.map.now a.start a.height a.width l.invariant.4 (omega arith) u, omega arith)

pub returns-then-map-end-ne10 : goal.returns-then-map-end-ne10
returns-then-map-end-ne10 c =
    let a = c.args in
    let l = c.loop-r in
    let u = row_unsaid a.map.now l.p a.width (λ i e f. c.if-map-end-ne10.true f) in
    (row_bad a.map.now a.start a.height a.width l.invariant.4 (omega arith) u, omega arith)

good : (c : After-read_row) (n : ℕ) → c.read_row.result ≡ Some n → let a = c.args in let l = c.loop-r in
    GoodRow (take a.width (drop l.p a.map.now)) (l.p - a.start) l.cells l.places c.read_row.new.places n
good c n e =
    let a = c.args in
    let l = c.loop-r in
    let x = take a.width (drop l.p a.map.now) in
    subst (RowRead x (l.p - a.start) l.cells l.places c.read_row.new.places) e (read c)

pub loop-r-preserved : goal.loop-r-preserved
loop-r-preserved c =
    let a = c.args in
    let l = c.loop-r in
    let s = a.map.now in
    let g = good (goal.at.loop-r-preserved c).After-read_row c.in-Some.n c.in-Some.is in
    let d = row_said s l.p a.width (omega arith) g.letters c.if-map-end-ne10.false in (
      omega arith,
      omega arith,
      omega arith,
      omega (arith, g.counts, count_most (take a.width (drop l.p s)), long (goal.at.loop-r-preserved c).Else-map-end),
      row_good s a.start a.height a.width l.invariant.4 (omega arith) (omega arith) g d,
    )

pub returns-then-p-map : goal.returns-then-p-map
returns-then-p-map c =
    let a = c.args in
    let e : c.loop-r.r ≡ a.height = omega arith in
    (rw e at (rows_over a.map.now a.start a.height a.width c.loop-r.invariant.4 (omega arith) c.if-p-map.true), omega arith)

pub returns : goal.returns
returns c =
    let a = c.args in
    rows_read a.map.now a.start a.height a.width c.loop-r.invariant.4 (omega arith) (omega arith) (omega arith) (omega arith) (omega arith)
