-- The second `grow` asks that the layer's cells are on the floor: those that the carts and a step add are, and points only take some out. Assumes nothing.
use Prim.Native.Nat.{ℕ, ◌<◌}
use mathlib.Core.Path.{◌∙◌, ap}
use mathlib.Core.List.{List, [], ◌∷◌}
use mathlib.Core.Logic.{⊎_elim}
use native.Mathlib.Omega.{arith}
use borrow.Author.Rules.{rules}
use lib.ListN.{get_or}
use Rattle.model.specs.Limits.{max_cells}
use Rattle.model.specs.Lists.{In}
use Rattle.floor.proofs.TableLaws.{zeros}
use Rattle.chokejudge.specs.declared.layer.Point.{Point}
use Rattle.chokejudge.specs.declared.layer.Reach.{Reach}
use Rattle.chokejudge.specs.Grown.{Grown, Cleared}
use Rattle.chokejudge.specs.Points.{cells_of}
use Rattle.chokejudge.proofs.Numbers.{zero_or}
use Rattle.chokejudge.proofs.PointLaws.{cell_part}
use Rattle.chokejudge.proofs.tests.a_layer_leaves_out_points_and_closed_cells.Goals as goal

abbrev AllBelow : List ℕ → Type 0
AllBelow l = (v : ℕ) → 0 < get_or l v 0 → v < max_cells

grown : {shut : List ℕ} {t : ℕ} {P : ℕ → Type 0} {a b : Reach} → Grown shut t P a b → ((v : ℕ) → P v → v < max_cells) → AllBelow a.since → AllBelow b.since
grown {a = a} g p h v l = ⊎_elim (λ z. p v (g.only v z l).2.0) (h v) (zero_or (get_or a.since v 0))

cleared : {Q : ℕ → Type 0} {old new : List ℕ} → Cleared Q old new → AllBelow old → AllBelow new
cleared k h v l = ⊎_elim (λ e. h v (rw e at l)) (λ q. absurd (omega (arith, k.gone v q, l))) (k.each v)

abbrev places : List Point
places = record { step = 0; cell = 5 } ∷ record { step = 1; cell = 1 } ∷ []

on_floor : (v : ℕ) → In v (cells_of places) → v < max_cells
on_floor v m = search rules

pub grow-requires-2 : goal.grow-requires-2
grow-requires-2 c =
    let rows = c.of-neighbours.ensures.rows in
    let none : AllBelow c.new-layer.result.since = λ v l. absurd (omega (arith, ap (λ l. get_or l v 0) c.new-layer.ensures.0 ∙ zeros max_cells v, l)) in
    let carts = cleared c.close.ensures.cells (grown c.spread.ensures.0 (λ v m. search rules) none) in
    let next = cleared c.close-2.ensures.cells (grown c.grow.ensures.0 (λ v. ⊎_elim (λ p. rows.known p.0 v (carts p.0 p.2.0.0) p.2.1) (λ p. on_floor v (cell_part places _ _ v p.0))) carts) in
    (c.close-2.ensures.next.few, (max_cells, rows, on_floor, λ v o. next v o.0))
