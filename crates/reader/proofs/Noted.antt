-- The table stays true to the job. A table of zeros is that of no job; a mark at a line's place adds the line and no other, since different
-- lines have different places: the pairs of cells that tracks join, then the row of the carts, then that of the calls and bays. Assumes nothing.
use Prim.Native.Nat.{ℕ, ◌+◌, ◌*◌, ◌<◌}
use mathlib.Core.Path.{◌≡◌, refl, sym, ap, ◌∙◌}
use mathlib.Core.List.{List, [], ◌∷◌, ◌++◌, map, map-append}
use mathlib.Core.Logic.{◌⊎◌, inl, inr}
use mathlib.Core.Bool.{Bool, true, false, ◌&&◌, ◌||◌, or-true, or-false, or_assoc}
use native.Mathlib.Omega.{arith}
use lib.Dec.{eqb}
use lib.ListN.{length, replicate, length-replicate}
use borrow.Author.Tests.{eqb-true, eq-eqb}
use Rattle.model.specs.Limits.{max_cells}
use Rattle.model.specs.Job as model
use Rattle.model.specs.Job.{track, call}
use Rattle.model.specs.ReadJob.{track_line, cart_line, call_line, no_job, add, leads, member}
use Rattle.model.proofs.Basics.{and_left, and_right, and_both, nope}
use Rattle.job.specs.Bits.{bit_at, with_bit, pair_at}
use Rattle.reader.specs.Table.{cart_row, call_row, table_size, Noted}
use Rattle.job.proofs.BitLaws.{bit_set, bit_other, bits_length, no_bits}
use Rattle.job.proofs.Triangle.{pair_small, pair_back, pair_same}

pub noted_zeros : (n : ℕ) → 8 * n ≡ table_size → Noted (replicate n 0) no_job
noted_zeros n h = record {
  size = ap (λ k. 8 * k) (length-replicate n 0) ∙ h;
  tracks = λ a b h k. no_bits n (pair_at a b);
  carts = λ a h. no_bits n (cart_row + a);
  calls = λ a h. no_bits n (call_row + a);
}

-- One track or one cell more.
leads_more : (a b u v : ℕ) (ts : List model.Track) → leads a b (ts ++ (track u v ∷ [])) ≡ (leads a b ts || (eqb a u && eqb b v))
leads_more a b u v [] = or-false (eqb a u && eqb b v)
leads_more a b u v (t ∷ ts) =
    let here = eqb a t.from && eqb b t.to in
    ap (λ x. here || x) (leads_more a b u v ts) ∙ sym (or_assoc here (leads a b ts) (eqb a u && eqb b v))

member_more : (a u : ℕ) (l : List ℕ) → member a (l ++ (u ∷ [])) ≡ (member a l || eqb a u)
member_more a u [] = or-false (eqb a u)
member_more a u (b ∷ l) = ap (λ x. eqb a b || x) (member_more a u l) ∙ sym (or_assoc (eqb a b) (member a l) (eqb a u))

-- a and b are joined_by by one of the tracks, either way round; and by the one track from u to v
abbrev joined_by : ℕ → ℕ → List model.Track → Bool
joined_by a b ts = leads a b ts || leads b a ts

abbrev joins : ℕ → ℕ → ℕ → ℕ → Bool
joins a b u v = (eqb a u && eqb b v) || (eqb b u && eqb a v)

or_pairs : (x s y t : Bool) → ((x || s) || (y || t)) ≡ ((x || y) || (s || t))
or_pairs true s y t = refl
or_pairs false true y t = sym (or-true y)
or_pairs false false y t = refl

joined_more : (a b u v : ℕ) (ts : List model.Track) → joined_by a b (ts ++ (track u v ∷ [])) ≡ (joined_by a b ts || joins a b u v)
joined_more a b u v ts =
    rw (leads_more a b u v ts, leads_more b a u v ts) (or_pairs (leads a b ts) (eqb a u && eqb b v) (leads b a ts) (eqb b u && eqb a v))

-- The track from u to v joins a and b just where the two pairs have one place.
both_same : (a b u v : ℕ) → (eqb a u && eqb b v) ≡ true → pair_at a b ≡ pair_at u v
both_same a b u v e = rw (eqb-true a u (and_left (eqb a u) (eqb b v) e), eqb-true b v (and_right (eqb a u) (eqb b v) e))

joins_place : (a b u v : ℕ) → joins a b u v ≡ true → pair_at a b ≡ pair_at u v
joins_place a b u v = go (eqb a u && eqb b v) refl
  where
    go : (t : Bool) → (eqb a u && eqb b v) ≡ t → (t || (eqb b u && eqb a v)) ≡ true → pair_at a b ≡ pair_at u v
    go true e h = both_same a b u v e
    go false e h = pair_back a b ∙ both_same b a u v h

same_both : (a b u v : ℕ) → (a ≡ u) × (b ≡ v) → (eqb a u && eqb b v) ≡ true
same_both a b u v (e, f) = and_both (eqb a u) (eqb b v) (eq-eqb a u e) (eq-eqb b v f)

place_joins : (a b u v : ℕ) → pair_at a b ≡ pair_at u v → joins a b u v ≡ true
place_joins a b u v q = go (pair_same a b u v q)
  where
    go : ((a ≡ u) × (b ≡ v)) ⊎ ((b ≡ u) × (a ≡ v)) → joins a b u v ≡ true
    go (inl e) = rw (same_both a b u v e)
    go (inr e) = rw (same_both b a u v e) (or-true (eqb a u && eqb b v))

module _ (seen : List ℕ) (j : model.Job) (m : Noted seen j) where
  same_size : (p : ℕ) → 8 * length (with_bit seen p) ≡ table_size
  same_size p = ap (λ k. 8 * k) (bits_length seen p) ∙ m.size

  -- After a mark at p, the bit at i tells x, which it told, or that i is p.
  told : (p i : ℕ) (x t : Bool) → p < table_size → (t ≡ true → i ≡ p) → (i ≡ p → t ≡ true) → bit_at seen i ≡ x → bit_at (with_bit seen p) i ≡ (x || t)
  told p i x true h f g e = rw (f refl) (bit_set seen p (omega (arith, m.size)) ∙ sym (or-true x))
  told p i x false h f g e = bit_other seen p (omega (arith, m.size)) i (λ q. let z = g q in nope (cc)) ∙ e ∙ sym (or-false x)

  kept : (p i : ℕ) {x : Bool} → p < table_size → (i ≡ p → ⊥) → bit_at seen i ≡ x → bit_at (with_bit seen p) i ≡ x
  kept p i l h e = bit_other seen p (omega (arith, m.size)) i h ∙ e

  -- a row of cells from r on
  told_cell : (r u a : ℕ) (l : List ℕ) → r + u < table_size → bit_at seen (r + a) ≡ member a l
      → bit_at (with_bit seen (r + u)) (r + a) ≡ member a (l ++ (u ∷ []))
  told_cell r u a l h e =
      rw (member_more a u l)
      (told (r + u) (r + a) (member a l) (eqb a u) h (λ t. ap (λ x. r + x) (eqb-true a u t)) (λ q. eq-eqb a u (omega arith)) e)

  told_track : (u v a b : ℕ) → u < max_cells → v < max_cells → a < max_cells → b < max_cells
      → bit_at (with_bit seen (pair_at u v)) (pair_at a b) ≡ joined_by a b (j.tracks ++ (track u v ∷ []))
  told_track u v a b s t h k =
      rw (joined_more a b u v j.tracks)
      (told
      (pair_at u v)
      (pair_at a b)
      (joined_by a b j.tracks)
      (joins a b u v)
      (omega (arith, pair_small u v s t))
      (joins_place a b u v)
      (place_joins a b u v)
      (m.tracks a b h k))

  pub noted_track : (u v : ℕ) → u < max_cells → v < max_cells → Noted (with_bit seen (pair_at u v)) (add j track_line u v)
  noted_track u v s t = record {
    size = same_size (pair_at u v);
    tracks = λ a b h k. told_track u v a b s t h k;
    carts = λ a h. kept (pair_at u v) (cart_row + a) (omega (arith, pair_small u v s t)) (λ e. omega (arith, pair_small u v s t)) (m.carts a h);
    calls = λ a h. kept (pair_at u v) (call_row + a) (omega (arith, pair_small u v s t)) (λ e. omega (arith, pair_small u v s t)) (m.calls a h);
  }

  pub noted_cart : (u : ℕ) → u < max_cells → Noted (with_bit seen (cart_row + u)) (add j cart_line u 0)
  noted_cart u s = record {
    size = same_size (cart_row + u);
    tracks = λ a b h k. kept (cart_row + u) (pair_at a b) (omega arith) (λ e. omega (arith, pair_small a b h k)) (m.tracks a b h k);
    carts = λ a h. told_cell cart_row u a j.carts (omega arith) (m.carts a h);
    calls = λ a h. kept (cart_row + u) (call_row + a) (omega arith) (λ e. omega arith) (m.calls a h);
  }

  pub noted_call : (q : model.CallKind) (u v : ℕ) → u < max_cells → Noted (with_bit seen (call_row + u)) (add j (call_line q) u v)
  noted_call q u v s = record {
    size = same_size (call_row + u);
    tracks = λ a b h k. kept (call_row + u) (pair_at a b) (omega arith) (λ e. omega (arith, pair_small a b h k)) (m.tracks a b h k);
    carts = λ a h. kept (call_row + u) (cart_row + a) (omega arith) (λ e. omega arith) (m.carts a h);
    calls = λ a h.
        rw (map-append (λ r. r.cell) j.calls (call q u v ∷ [])) (told_cell call_row u a (map (λ r. r.cell) j.calls) (omega arith) (m.calls a h));
  }
