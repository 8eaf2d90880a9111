-- The numbers of a line, by the scans at its fields. Each scan takes the first of the fields that are left (`Got`): where one finds no number there is another count of fields, or not all
-- are numbers; and where all found one, either fields are left or these are all. Assumes nothing.
use Prim.Native.Nat.{ℕ, ◌+◌, ◌<◌, ◌≤◌}
use mathlib.Core.Path.{◌≡◌, refl, sym, ap, ◌∙◌}
use mathlib.Core.List.{List, [], ◌∷◌}
use mathlib.Core.Logic.{◌⊎◌, inl, inr}
use mathlib.Core.Option.{Option, none, some}
use mathlib.Core.Bool.{Bool, true, false}
use native.Mathlib.Omega.{arith}
use lib.Dec.{ltb, eqb}
use lib.ListN.{length, drop, drop_of_length-le}
use borrow.Author.Tests.{ltb-true, ltb-false, eqb-true, eq-eqb, ne_eqb}
use Rattle.std.specs.Prelude.{None, Ok, Err}
use Rattle.model.specs.Text.{fields_of, and_number, numbers_by, scaled_of}
use Rattle.model.proofs.Basics.{nope}
use Rattle.text.specs.Scan.{found, field_of, scaled_at}
use Rattle.text.proofs.Numbers.{field_first, fields-from, fields_past, fields_some, fields_from, number_none, parts}
use Rattle.reader.specs.declared.line.Fault.TheVariants.{Form}
use Rattle.reader.specs.Lines.{two_of, numbers_given, first_fault}

-- What a loop over the fields has read: of k numbers b is the last and a the one in front of it, and the other fields are those from `at` on.
pub data Got (s : List ℕ) (k a b at : ℕ) : Type 0 where
  nothing : k ≡ 0 → fields_of s ≡ fields_from s at → Got s k a b at
  one : (f : List ℕ) → k ≡ 1 → fields_of s ≡ f ∷ fields_from s at → scaled_of f ≡ some b → Got s k a b at
  two : (f g : List ℕ) → k ≡ 2 → fields_of s ≡ f ∷ g ∷ fields_from s at → scaled_of f ≡ some a → scaled_of g ≡ some b → Got s k a b at

-- A number stands inside the text: past its end there is none.
pub number_inside : (s : List ℕ) (at v next : ℕ) → scaled_at s at ≡ found v next → at < length s
number_inside s at v next e = go (ltb at (length s)) refl (parts scaled_of s at v next e).0
  where
    go : (t : Bool) → ltb at (length s) ≡ t → scaled_of (field_of (drop at s)) ≡ some v → at < length s
    go true q h = ltb-true _ _ q
    go false q h = let n : drop at s ≡ [] = drop_of_length-le s (ltb-false _ _ q) in let f : scaled_of (field_of (drop at s)) ≡ none = ap (λ l. scaled_of (field_of l)) n in nope (cc)

-- Where a scan finds no number, the fields from there on are not all numbers, if there are any.
rest_none : (s : List ℕ) (at : ℕ) → scaled_at s at ≡ None → 0 < length (fields_from s at) → numbers_by scaled_of (fields_from s at) ≡ none
rest_none s at e left = go (ltb (length s) at) refl
  where
    go : (t : Bool) → ltb (length s) at ≡ t → numbers_by scaled_of (fields_from s at) ≡ none
    go true q = absurd (omega (arith, ap length (fields_past s at (ltb-true _ _ q))))
    go false q = ap (numbers_by scaled_of) (fields-from s at (ltb-false _ _ q)) ∙ number_none scaled_of s at e

module _ (s : List ℕ) (k a b at : ℕ) where
  pub got_more : Got s k a b at → k < 2 → (v next : ℕ) → scaled_at s at ≡ found v next → Got s (k + 1) b v (next + 1)
  got_more g l v next e =
      go (field_first scaled_of s at v next e (omega (arith, number_inside s at v next e))) (parts scaled_of s at v next e).0 g
    where
      go : fields_from s at ≡ field_of (drop at s) ∷ fields_from s (next + 1) → scaled_of (field_of (drop at s)) ≡ some v → Got s k a b at → Got s (k + 1) b v (next + 1)
      go h n (nothing z fs) = one (field_of (drop at s)) (omega arith) (fs ∙ h) n
      go h n (one f z fs x) = two f (field_of (drop at s)) (omega arith) (fs ∙ ap (λ r. f ∷ r) h) x n
      go h n (two f g z fs x y) = absurd (omega arith)

  count_left : Got s k a b at → length (fields_of s) ≡ k + length (fields_from s at)
  count_left (nothing z fs) = omega (arith, ap length fs)
  count_left (one f z fs x) = omega (arith, ap length fs)
  count_left (two f g z fs x y) = omega (arith, ap length fs)

  -- the numbers, by those of the fields that are left
  abbrev WithRead : Option (List ℕ) → Option (List ℕ) → Type 0
  WithRead all o = ((k ≡ 0) × (all ≡ o)) ⊎ (((k ≡ 1) × (all ≡ and_number (some b) o)) ⊎ ((k ≡ 2) × (all ≡ and_number (some a) (and_number (some b) o))))

  numbered : Got s k a b at → (o : Option (List ℕ)) → numbers_by scaled_of (fields_from s at) ≡ o → WithRead (numbers_by scaled_of (fields_of s)) o
  numbered (nothing z fs) o e = inl (z, ap (numbers_by scaled_of) fs ∙ e)
  numbered (one f z fs x) o e = inr (inl (z, ap (numbers_by scaled_of) fs ∙ rw (x, e)))
  numbered (two f g z fs x y) o e = inr (inr (z, ap (numbers_by scaled_of) fs ∙ rw (x, y, e)))

  module _ (n : ℕ) (g : Got s k a b at) where
    given : (o : Option (List ℕ)) → length (fields_of s) ≡ n → numbers_by scaled_of (fields_of s) ≡ o → numbers_given n (fields_of s) ≡ two_of o
    given o h e = simp (eq-eqb _ _ h) (ap two_of e)

    pub got_fault : k < n → scaled_at s at ≡ None → Err (first_fault n (fields_of s)) ≡ numbers_given n (fields_of s)
    got_fault l e = go (eqb (length (fields_of s)) n) refl
      where
        none_read : 0 < length (fields_from s at) → numbers_by scaled_of (fields_of s) ≡ none
        none_read left = by (numbered g none (rest_none s at e left))
          where
            by : WithRead (numbers_by scaled_of (fields_of s)) none → numbers_by scaled_of (fields_of s) ≡ none
            by (inl (z, h)) = h
            by (inr (inl (z, h))) = h
            by (inr (inr (z, h))) = h

        go : (t : Bool) → eqb (length (fields_of s)) n ≡ t → Err (first_fault n (fields_of s)) ≡ numbers_given n (fields_of s)
        go false q = simp q
        go true q = simp q (ap two_of (sym (none_read (omega (arith, count_left g, eqb-true (length (fields_of s)) n q)))))

    module _ (z : k ≡ n) where
      pub got_over : at ≤ length s → Err Form ≡ numbers_given n (fields_of s)
      got_over h = simp (ne_eqb (length (fields_of s)) n (λ e. omega (arith, count_left g, ap length (fields-from s at h), fields_some (drop at s))))

      module _ (h : length s < at) where
        all_read : length (fields_of s) ≡ n
        all_read = omega (arith, count_left g, ap length (fields_past s at h))

        all_numbers : WithRead (numbers_by scaled_of (fields_of s)) (some [])
        all_numbers = numbered g (some []) (ap (numbers_by scaled_of) (fields_past s at h))

        pub got_one : n ≡ 1 → Ok (b, 0) ≡ numbers_given n (fields_of s)
        got_one m = go all_numbers
          where
            go : WithRead (numbers_by scaled_of (fields_of s)) (some []) → Ok (b, 0) ≡ numbers_given n (fields_of s)
            go (inl (y, e)) = absurd (omega arith)
            go (inr (inl (y, e))) = sym (given (some (b ∷ [])) all_read e)
            go (inr (inr (y, e))) = absurd (omega arith)

        pub got_two : n ≡ 2 → Ok (a, b) ≡ numbers_given n (fields_of s)
        got_two m = go all_numbers
          where
            go : WithRead (numbers_by scaled_of (fields_of s)) (some []) → Ok (a, b) ≡ numbers_given n (fields_of s)
            go (inl (y, e)) = absurd (omega arith)
            go (inr (inl (y, e))) = absurd (omega arith)
            go (inr (inr (y, e))) = sym (given (some (a ∷ b ∷ [])) all_read e)
