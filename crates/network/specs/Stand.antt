-- Two carts that would trade places both stand instead, and each takes over the other's way before that.
use Rattle.std.specs.Prelude.{Bool, false, cond, ◌&&◌, eqb}
use Rattle.model.specs.Choke.{Point, point}
use Rattle.flow.specs.Flow.{Link, off, end, to}
use Rattle.flow.specs.Exchange.{led}

abbrev pub is_to : Point → Link Point → Bool
is_to x off = false
is_to x end = false
is_to x (to y) = eqb y.cell x.cell && eqb y.step x.step

-- The node on the cell that the cart on v came from, if the cart there came from v's cell; else v.
abbrev pub other_by : (Point → Link Point) → Point → Link Point → Point
other_by back v off = v
other_by back v end = v
other_by back v (to u) = cond (is_to (point v.cell u.step) (back (point u.cell v.step))) (point u.cell v.step) v

abbrev pub other : (Point → Link Point) → Point → Point
other back v = other_by back v (back v)

-- The links, with those carts left standing.
abbrev pub stood_back : (Point → Link Point) → Point → Link Point
stood_back back v = back (other back v)

abbrev pub stood_on : (Point → Link Point) → (Point → Link Point) → Point → Link Point
stood_on back on v = led (other back) (on v)
