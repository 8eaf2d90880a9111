-- What the loop over the steps holds, and that a step keeps it: the table is the layer of its step, the queue has what was added at it, and the two cursors stand round its choke
-- points. No cell has to be taken out because it closes: its bay's step is this one, and the loop has ended. Of the lifts' cells only those that were added are looked at: one that was
-- in an earlier layer was met then. Assumes nothing.
use Prim.Native.Nat.{ℕ, ◌+◌, ◌≤◌, ◌<◌}
use mathlib.Core.Path.{◌≡◌, refl, sym, ◌∙◌, ap}
use mathlib.Core.List.{List, [], ◌++◌}
use mathlib.Core.Logic.{⊎_elim, ◌⊎◌, ◌↔◌, inl, inr}
use native.Mathlib.Omega.{arith}
use native.Mathlib.Nat.{eq-or-lt_of_le}
use lib.ListN.{length, get_or}
use Rattle.std.proofs.Math.Seq.{drop-append_seam}
use Rattle.std.proofs.lemmas.List.{length-append}
use Rattle.model.specs.Limits.{max_steps}
use Rattle.model.specs.Lists.{In}
use Rattle.job.specs.Held.{Some}
use Rattle.job.specs.Lists.{cells_of as call_cells}
use Rattle.job.specs.declared.state.Call.{Call}
use Rattle.floor.specs.declared.tables.Neighbours.{Neighbours}
use Rattle.floor.specs.Tables.{OpenAt}
use Rattle.floor.proofs.JobTables.{near_even}
use Rattle.chokejudge.specs.declared.layer.Point.{Point}
use Rattle.chokejudge.specs.declared.layer.Reach.{Reach}
use Rattle.chokejudge.specs.ChokeLayers.{Choked, Side, OneFloor, BayAt, Closing, MetBy, Reached, SomeMet}
use Rattle.chokejudge.specs.Grown.{last_cells, last_points, Older, Again, Onward, Grown, Gone}
use Rattle.chokejudge.specs.Members.{members}
use Rattle.chokejudge.specs.Points.{cells_of, Cursor}
use Rattle.chokejudge.proofs.GrownLaws.{grown_as}
use Rattle.chokejudge.proofs.PointLaws.{cursor_first, points_of}
use Rattle.chokejudge.proofs.LayerLaws.{Layered, layered_first, layered_next, layer_known}

module _ (rows : Neighbours) (shut carts : List ℕ) (points : List Point) where
  -- The layer of step t, and the points of step t from `opens` to before `closed`. The queue has no more cells than the table and the points that were taken out.
  pub record Holding (t : ℕ) (a : Reach) : Type 0 where
    pub stands : Layered (λ v. In v carts) (Side rows) shut (Choked points) t a
    pub from : Cursor points t a.opens
    pub to : Cursor points (t + 1) a.closed
    pub ends : length a.queue.items ≤ members a.since + a.closed

-- No cell of a layer before t meets a call.
abbrev pub Unmet : (ℕ → ℕ → Type 0) → (ℕ → ℕ → Type 0) → ℕ → Type 0
Unmet Met L t = (s v : ℕ) → s < t → L s v → Met s v → ⊥

-- The queue grows with the table, and a point takes out at most one cell.
ends_then : {shut : List ℕ} {t : ℕ} {P : ℕ → Type 0} {points : List Point} {a b c : Reach} → length a.queue.items ≤ members a.since + a.closed → Grown shut t P a b → Gone points t b c
    → length c.queue.items ≤ members c.since + c.closed
ends_then {a = a} h g k = omega (arith, h, ap length k.queue, ap length g.queue, length-append a.queue.items g.added, g.count, g.closed, k.count)

-- What was added behind the old cells of the queue are the cells of the last step.
added_last : (a : Reach) (old added : List ℕ) → a.queue.items ≡ old ++ added → a.head ≡ length old → (v : ℕ) → In v added → In v (last_cells a)
added_last a old added e f v m = rw (f, e, drop-append_seam old added) m

module _ {rows : Neighbours} {carts : List ℕ} {points : List Point} (f : OneFloor rows carts points) where
  stays : (c : ℕ) → c < f.job.cells → Side rows c c
  stays c h = f.near.all c c h (inl refl)

  known : (shut : List ℕ) (t v : ℕ) → Reached rows shut carts points t v → v < f.job.cells
  known shut = layer_known (λ v. In v carts) (Side rows) shut (Choked points) f.job.cells f.carts_known stays (near_even f.near)

  pub holding_first : {shut : List ℕ} {calls : List Call} → Closing calls shut → {a b c : Reach} → ((v : ℕ) → get_or a.since v 0 ≡ 0) → a.queue.items ≡ [] → a.head ≡ 0 → a.closed ≡ 0
      → Grown shut 0 (λ v. In v carts) a b → b.head ≡ a.head → Gone points 0 b c → Holding rows shut carts points 0 c
  holding_first {shut} r {a} {b} {c} none empty head closed g same k = record {
    stands = layered_first (λ v. In v carts) (Side rows) shut (Choked points) a b c (λ v m. r.first v (omega (arith, f.carts_known v m, f.few))) none g k.cells
        (added_last c [] g.added (k.queue ∙ g.queue ∙ ap (λ q. q ++ g.added) empty) (k.head ∙ same ∙ head));
    from = rw (k.opens ∙ g.closed ∙ closed) (cursor_first points);
    to = k.next;
    ends = ends_then (omega (arith, ap length empty)) g k;
  }

  module _ {shut : List ℕ} {t : ℕ} {a : Reach} (h : Holding rows shut carts points t a) where
    pub older_known : (v : ℕ) → Older a (t + 1) v → v < f.job.cells
    older_known v o = known shut t v ((h.stands.layer v).0 o.0)

    pub holding_next : ((v : ℕ) → 0 < get_or a.since v 0 → OpenAt shut (t + 1) v) → {b c : Reach}
        → Grown shut (t + 1) (λ v. Onward rows a (t + 1) v ⊎ Again rows (last_points points a) a (t + 1) v) a b → b.head ≡ length a.queue.items → Gone points (t + 1) b c
        → Holding rows shut carts points (t + 1) c
    holding_next lasts {b} {c} g head k = record {
      stands = layered_next (λ v. In v carts) (Side rows) shut (Choked points) f.job.cells f.carts_known stays (near_even f.near) t (f.points_known t) a b c h.stands lasts
          grown k.cells (added_last c a.queue.items grown.added (k.queue ∙ grown.queue) (k.head ∙ head));
      from = rw (k.opens ∙ g.closed) h.to;
      to = k.next;
      ends = ends_then h.ends g k;
    }
      where
        at : (v : ℕ) → In v (cells_of (last_points points a)) ↔ Choked points t v
        at = points_of points t a.opens h.from a.closed h.to

        grown : Grown shut (t + 1) (λ v. Onward rows a (t + 1) v ⊎ (Choked points t v × ((x : ℕ) × Side rows v x × Older a (t + 1) x))) a b
        grown = grown_as (λ v. (⊎_elim (λ p. inl p) (λ p. inr ((at v).0 p.0, p.1)), ⊎_elim (λ p. inl p) (λ p. inr ((at v).1 p.0, p.1)))) g

    -- The calls that are met at the step: a lift on a cell that was added, a bay.
    module _ (due : List ℕ) (calls : List Call) where
      abbrev pub Lifted : Type 0
      Lifted = (v : ℕ) × In v (last_cells a) × ((0 < get_or a.since v 0) × (t < get_or due v 0))

      abbrev pub Parked : Type 0
      Parked = Some (length calls) (λ k. BayAt calls t k × (0 < get_or a.since (get_or (call_cells calls) k 0) 0))

      abbrev LayerAt : ℕ → ℕ → Type 0
      LayerAt = Reached rows shut carts points

      pub lift_met : {last : ℕ} → t ≤ last → Lifted → SomeMet (MetBy due calls) last LayerAt
      lift_met soon (v, m, (p, l)) = (t, soon, (v, (h.stands.layer v).0 p, inl l))

      pub bay_met : {last : ℕ} → t ≤ last → Parked → SomeMet (MetBy due calls) last LayerAt
      bay_met soon (k, b, (e, p)) = (t, soon, (get_or (call_cells calls) k 0, (h.stands.layer (get_or (call_cells calls) k 0)).0 p, inr (k, b, (refl, e))))

      module _ (out : Parked → ⊥) where
        -- no cell of the layer closes behind the step
        pub still_open : Closing calls shut → t < max_steps → (v : ℕ) → 0 < get_or a.since v 0 → OpenAt shut (t + 1) v
        still_open r few v p = ⊎_elim
            (λ e. let (k, b, (d, q)) = r.bay t v (omega (arith, known shut t v ((h.stands.layer v).0 p), f.few)) few (sym e) in absurd (out (k, b, (q, rw d p))))
            (λ l. l)
            (eq-or-lt_of_le {n = t + 1} {m = get_or shut v 0} (omega (arith, h.stands.opened v p)))

        pub unmet_more : (Lifted → ⊥) → Unmet (MetBy due calls) LayerAt t → Unmet (MetBy due calls) LayerAt (t + 1)
        unmet_more none u s v b o m = ⊎_elim (λ e. here (rw e at o) (rw e at m)) (λ l. u s v l o m) (eq-or-lt_of_le {n = s} {m = t} (omega arith))
          where
            here : LayerAt t v → MetBy due calls t v → ⊥
            here o (inl l) =
                let p = (h.stands.layer v).1 o in
                ⊎_elim (λ m. none (v, m, (p, l))) (λ w. u w.0 v w.1 w.2 (inl (omega (arith, w.1)))) (h.stands.fresh v p)
            here o (inr (k, b, (e, q))) = out (k, b, (q, rw e ((h.stands.layer v).1 o)))
