-- The cells of the whole calls are taken out of a table, choke point by choke point. Assumes nothing.
use Prim.Native.Nat.{ℕ, ◌+◌, ◌<◌}
use mathlib.Core.Path.{◌≡◌, sym, ◌∙◌, ap}
use mathlib.Core.List.{List, [], ◌∷◌}
use mathlib.Core.Logic.{◌⊎◌, ◌↔◌, inl, inr}
use lib.ListN.{length, get_or, set, take}
use Rattle.std.proofs.lemmas.List.{take_more}
use Rattle.model.specs.Lists.{In}
use Rattle.model.proofs.Lists.{in_left, in_right, in_part}
use Rattle.job.specs.Lists.{cells_of}
use Rattle.job.specs.declared.state.Call.{Call}
use Rattle.job.specs.declared.held.Choke.{Choke}
use Rattle.job.specs.declared.held.Choke.TheVariants as variant
use Rattle.chokejudge.specs.Grown.{Cleared}
use Rattle.chokejudge.specs.Lifts.{WholeOn}
use Rattle.chokejudge.proofs.PointLaws.{cleared_as, cleared_more}

module _ (calls : List Call) (chokes : List Choke) where
  module _ (i : ℕ) (d : Choke) (h : i < length chokes) where
    abbrev choke : Choke
    choke = get_or chokes i d

    abbrev WholeBefore : ℕ → Type 0
    WholeBefore = WholeOn calls (take i chokes)

    abbrev Here : ℕ → Type 0
    Here v = (k : ℕ) × (variant.Call k ≡ choke) × (get_or (cells_of calls) k 0 ≡ v)

    -- with one choke point more
    whole_more : (v : ℕ) → WholeOn calls (take (i + 1) chokes) v ↔ (WholeBefore v ⊎ Here v)
    whole_more v = (there, back)
      where
        there : WholeOn calls (take (i + 1) chokes) v → WholeBefore v ⊎ Here v
        there (k, m, e) = go (in_part (variant.Call k) (take i chokes) (choke ∷ []) (rw (take_more chokes i d h) at m))
          where
            go : In (variant.Call k) (take i chokes) ⊎ In (variant.Call k) (choke ∷ []) → WholeBefore v ⊎ Here v
            go (inl n) = inl (k, n, e)
            go (inr (inl n)) = inr (k, n, e)
            go (inr (inr n)) = absurd n

        back : WholeBefore v ⊎ Here v → WholeOn calls (take (i + 1) chokes) v
        back (inl (k, m, e)) = (k, rw (take_more chokes i d h) (in_left (variant.Call k) (take i chokes) (choke ∷ []) m), e)
        back (inr (k, m, e)) = (k, rw (take_more chokes i d h) (in_right (variant.Call k) (take i chokes) (choke ∷ []) (inl m)), e)

    module _ {l₀ l : List ℕ} (r : Cleared WholeBefore l₀ l) where
      pub passed_cell : {t v : ℕ} → choke ≡ variant.Cell t v → Cleared (WholeOn calls (take (i + 1) chokes)) l₀ l
      passed_cell {t} {v} e = cleared_as (λ x. (λ p. (whole_more x).1 (inl p), λ p. there x ((whole_more x).0 p))) r
        where
          there : (x : ℕ) → WholeBefore x ⊎ Here x → WholeBefore x
          there x (inl p) = p
          there x (inr (k, f, g)) = let z : ◌≡◌ {A = Choke} (variant.Call k) (variant.Cell t v) = f ∙ e in cc

      pub passed_call : {k : ℕ} → choke ≡ variant.Call k → get_or (cells_of calls) k 0 < length l
          → Cleared (WholeOn calls (take (i + 1) chokes)) l₀ (set l (get_or (cells_of calls) k 0) 0)
      passed_call {k} e small = cleared_as (λ x. (λ p. (whole_more x).1 (back x p), λ p. there x ((whole_more x).0 p))) (cleared_more (get_or (cells_of calls) k 0) small r)
        where
          back : (x : ℕ) → WholeBefore x ⊎ (x ≡ get_or (cells_of calls) k 0) → WholeBefore x ⊎ Here x
          back x (inl p) = inl p
          back x (inr f) = inr (k, sym e, sym f)

          there : (x : ℕ) → WholeBefore x ⊎ Here x → WholeBefore x ⊎ (x ≡ get_or (cells_of calls) k 0)
          there x (inl p) = inl p
          there x (inr (q, f, g)) =
              let z : ◌≡◌ {A = Choke} (variant.Call q) (variant.Call k) = f ∙ e in
              let same : q ≡ k = cc in
              inr (sym g ∙ ap (λ y. get_or (cells_of calls) y 0) same)
