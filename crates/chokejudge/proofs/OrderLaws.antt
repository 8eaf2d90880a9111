-- The choke points that are cells, in the order of a choke list: their steps do not fall. Assumes nothing.
use Prim.Native.Nat.{ℕ, zero, suc, ◌+◌, ◌≤◌, ◌<◌}
use mathlib.Core.Path.{◌≡◌, refl, ◌∙◌, ap}
use mathlib.Core.List.{List, [], ◌∷◌, ◌++◌}
use mathlib.Core.Logic.{⊎_elim, ◌↔◌, inl, inr}
use native.Mathlib.Omega.{arith}
use native.Mathlib.Numerals.{add-one}
use lib.ListN.{length, get_or, take}
use Rattle.std.proofs.Math.ListN.{get_or-map}
use Rattle.std.proofs.lemmas.List.{length-map, take_more}
use Rattle.std.proofs.lemmas.List.Elements.{filter_map-append}
use Rattle.model.specs.Lists.{In, Rising, Lex}
use Rattle.model.specs.Choke as choke
use Rattle.model.specs.Choke.{point, cell_step, whole_call, Rises, ChokesInOrder}
use Rattle.model.proofs.Lists.{in_get_or, rising_of, rising_at, rising_first}
use Rattle.model.proofs.OneOrder.{rises_on}
use Rattle.job.specs.Held.{as_choke, as_chokes}
use Rattle.job.specs.declared.held.Choke.{Choke}
use Rattle.job.specs.declared.held.Choke.TheVariants.{Cell, Call}
use Rattle.chokejudge.specs.declared.layer.Point.{Point}
use Rattle.chokejudge.specs.ChokeLayers.{Choked}
use Rattle.chokejudge.specs.Points.{point_of, points_in, no_point, Climbs}

pub points_more : (chokes : List Choke) (i : ℕ) (d : Choke) → i < length chokes → points_in (take (i + 1) chokes) ≡ points_in (take i chokes) ++ points_in (get_or chokes i d ∷ [])
points_more chokes i d h = ap points_in (take_more chokes i d h) ∙ filter_map-append point_of (take i chokes) (get_or chokes i d ∷ [])

-- A cell at a step is among the choke points just where it is among the points.
pub choked : (chokes : List Choke) (t v : ℕ) → In (cell_step (point v t)) (as_chokes chokes) ↔ Choked (points_in chokes) t v
choked [] t v = (λ m. absurd m, λ m. absurd m)
choked (Cell s u ∷ l) t v = (
  ⊎_elim (λ e. inl (there e)) (λ m. inr ((choked l t v).0 m)),
  ⊎_elim (λ e. inl (back e)) (λ m. inr ((choked l t v).1 m)),
)
  where
    there : cell_step (point v t) ≡ cell_step (point u s) → ◌≡◌ {A = Point} (record { step = t; cell = v }) (record { step = s; cell = u })
    there e = let p : point v t ≡ point u s = cc in let f = ap (λ x. x.cell) p in let g = ap (λ x. x.step) p in rw (f, g) refl

    back : ◌≡◌ {A = Point} (record { step = t; cell = v }) (record { step = s; cell = u }) → cell_step (point v t) ≡ cell_step (point u s)
    back e = let f : v ≡ u = ap (λ (p : Point). p.cell) e in let g : t ≡ s = ap (λ (p : Point). p.step) e in rw (f, g) refl
choked (Call k ∷ l) t v = (⊎_elim (λ e. absurd (apart e)) (λ m. (choked l t v).0 m), λ m. inr ((choked l t v).1 m))
  where
    apart : cell_step (point v t) ≡ whole_call k → ⊥
    apart e = cc

-- A whole call among the choke points.
pub passed : (chokes : List Choke) (k : ℕ) → In (whole_call k) (as_chokes chokes) ↔ In (Call k) chokes
passed [] k = (λ m. absurd m, λ m. absurd m)
passed (Cell s u ∷ l) k = (
  ⊎_elim (λ e. let f : whole_call k ≡ cell_step (point u s) = e in absurd (cc)) (λ m. inr ((passed l k).0 m)),
  ⊎_elim (λ e. let f : ◌≡◌ {A = Choke} (Call k) (Cell s u) = e in absurd (cc)) (λ m. inr ((passed l k).1 m)),
)
passed (Call q ∷ l) k = (
  ⊎_elim (λ e. let f : whole_call k ≡ whole_call q = e in let same : k ≡ q = cc in inl (ap Call same)) (λ m. inr ((passed l k).0 m)),
  ⊎_elim (λ e. let f : ◌≡◌ {A = Choke} (Call k) (Call q) = e in let same : k ≡ q = cc in inl (ap whole_call same)) (λ m. inr ((passed l k).1 m)),
)

pub few_points : (chokes : List Choke) → length (points_in chokes) ≤ length chokes
few_points [] = omega arith
few_points (Cell s u ∷ l) = omega (arith, few_points l)
few_points (Call k ∷ l) = omega (arith, few_points l)

-- what stands behind the end of a list of choke points
abbrev pub no_choke : Choke
no_choke = Cell 0 0

-- A choke list is in order if each choke point rises above the one before it.
module _ (chokes : List Choke) where
  abbrev pub EachRises : ℕ → Type 0
  EachRises n = (k : ℕ) → k < n → Rises (as_choke (get_or chokes k no_choke)) (as_choke (get_or chokes (k + 1) no_choke))

  size : length (as_chokes chokes) ≡ length chokes
  size = length-map chokes as_choke

  item : (k : ℕ) → get_or (as_chokes chokes) k (as_choke no_choke) ≡ as_choke (get_or chokes k no_choke)
  item k = get_or-map as_choke chokes k no_choke

  pub order_at : ChokesInOrder (as_chokes chokes) → (k : ℕ) → k + 1 < length chokes → Rises (as_choke (get_or chokes k no_choke)) (as_choke (get_or chokes (k + 1) no_choke))
  order_at o k h = rw (item k, ← add-one k, item (k + 1)) at (rising_at (as_choke no_choke) Rises (as_chokes chokes) o k (omega (arith, size)))

  pub order_of : (n : ℕ) → length chokes ≤ n + 1 → EachRises n → ChokesInOrder (as_chokes chokes)
  order_of n h f = rising_of (as_choke no_choke) Rises (as_chokes chokes) (λ k l. rw (item k, ← add-one k, item (k + 1)) (f k (omega (arith, size))))

rising_rest : (x : choke.Choke) (l : List choke.Choke) → Rising Rises (x ∷ l) → Rising Rises l
rising_rest x [] r = tt
rising_rest x (y ∷ l) r = r.1

-- So the steps of the cells do not fall.
pub climbs : (chokes : List Choke) → ChokesInOrder (as_chokes chokes) → Climbs (points_in chokes)
climbs [] o i k h b = absurd (omega arith)
climbs (Call q ∷ l) o i k h b = climbs l (rising_rest (whole_call q) (as_chokes l) o) i k h b
climbs (Cell t v ∷ l) o (suc i) zero h b = absurd (omega arith)
climbs (Cell t v ∷ l) o (suc i) (suc k) h b = climbs l (rising_rest (cell_step (point v t)) (as_chokes l) o) i k (omega arith) (omega arith)
climbs (Cell t v ∷ l) o zero zero h b = omega arith
climbs (Cell t v ∷ l) o zero (suc k) h b =
    let p = get_or (points_in l) k no_point in
    let m : In p (points_in l) = in_get_or (points_in l) k no_point (omega arith) in
    go (rising_first Rises rises_on (cell_step (point v t)) (as_chokes l) o (cell_step (point p.cell p.step)) ((choked l p.step p.cell).1 m))
  where
    go : Lex t v (get_or (points_in l) k no_point).step (get_or (points_in l) k no_point).cell → t ≤ (get_or (points_in l) k no_point).step
    go (inl h) = omega arith
    go (inr (e, h)) = omega arith
