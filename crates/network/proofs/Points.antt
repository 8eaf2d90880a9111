-- Equations of points: `cc` does not look into a record, so these take one apart and put one together. Assumes nothing.
use mathlib.Core.Path.{◌≡◌, ap}
use native.Mathlib.Decide.{ℕ_discrete}
use Rattle.model.specs.Choke.{Point, point}
use Rattle.flow.specs.Flow.{to}

pub point_cell : {x y : Point} → x ≡ y → x.cell ≡ y.cell
point_cell e = ap (λ (x : Point). x.cell) e

pub point_step : {x y : Point} → x ≡ y → x.step ≡ y.step
point_step e = ap (λ (x : Point). x.step) e

pub point_eq : {x y : Point} → x.cell ≡ y.cell → x.step ≡ y.step → x ≡ y
point_eq e f = λ i. point (e i) (f i)

pub to_eq : {x y : Point} → to x ≡ to y → x ≡ y
to_eq e = cc

abbrev both : {x y : Point} → Dec (x.cell ≡ y.cell) → Dec (x.step ≡ y.step) → Dec (x ≡ y)
both (yes e) (yes f) = yes (point_eq e f)
both (yes e) (no h) = no (λ q. h (point_step q))
both (no h) d = no (λ q. h (point_cell q))

pub dec_point : Discrete Point
dec_point x y = both (ℕ_discrete x.cell y.cell) (ℕ_discrete x.step y.step)
