-- What a PATH and a SPARE line say by their numbers: what each return of the functions that read them cites. Assumes nothing.
use Prim.Native.Nat.{ℕ, suc, ◌+◌, ◌≤◌, ◌<◌}
use mathlib.Core.Path.{◌≡◌, refl, ap, ◌∙◌}
use mathlib.Core.List.{List, [], ◌∷◌, ◌++◌}
use mathlib.Core.Option.{Option, none, some}
use mathlib.Core.Bool.{Bool, true, false, cond, ◌&&◌}
use native.Mathlib.Numerals.{add-one}
use lib.Dec.{ltb}
use lib.ListN.{length, take, set}
use lib.Seq.{take-suc-set}
use borrow.Author.Tests.{lt-ltb, le-ltb}
use Rattle.std.specs.Prelude as std
use Rattle.std.specs.Prelude.{None, Some, map}
use Rattle.std.proofs.lemmas.List.{map-append}
use Rattle.model.specs.Job.{Job, CallKind, bay, call_of, horizon}
use Rattle.model.specs.Text.{and_number, path_word, spare_word}
use Rattle.model.specs.ReadSheet.{all_below, size_fits, path_of, path_line, spare_of, spare_line}
use Rattle.text.specs.Scan.{found, number_at}
use Rattle.job.specs.declared.held.Ride as held
use Rattle.job.specs.Held.{as_path, as_ride}
use Rattle.sheet.specs.Parts.{if_read, number_past, behind, cells_fit}
use Rattle.sheet.proofs.Fields.{past_none, past_some, second_none, second_some}

-- what is made of the cells
abbrev pub made : {B : Type 0} → (List ℕ → B) → Option (List ℕ) → Option B
made f none = none
made f (some ws) = some (f ws)

-- A line is known by a test t of what stands before its cells, and by these.
tested : {B : Type 0} (f : List ℕ → B) (t x y : Bool) (ws : List ℕ) → cond (t && x && y) (some (f ws)) none ≡ cond t (made f (cond (x && y) (some ws) none)) none
tested f true true true ws = refl
tested f true true false ws = refl
tested f true false y ws = refl
tested f false x y ws = refl

never : {B : Type 0} (t : Bool) → ◌≡◌ {A = Option B} none (cond t none none)
never true = refl
never false = refl

-- one more ride behind the first k
pub ride_more : {B : Type 0} (f : held.Ride → B) (l : List held.Ride) (k : ℕ) (q : held.Ride) → k < length l → map f (take (k + 1) (set l k q)) ≡ map f (take k l) ++ (f q ∷ [])
ride_more f l k q h = rw add-one (ap (map f) (take-suc-set l k q h)) ∙ map-append f (take k l) (q ∷ [])

-- what was read as it is held
pub held_path : (r : std.Option Unit) (q : held.Ride) {a b : ℕ} → q.cart ≡ a → q.call ≡ b
    → if_read r (as_path q) ≡ made (λ ws. record { cart = a; call = b; cells = ws }) (if_read r (take (suc q.last) q.cells))
held_path None q e f = refl
held_path (Some u) q e f = rw (e, f)

pub held_ride : (r : std.Option Unit) (q : held.Ride) {a : ℕ} → q.cart ≡ a → if_read r (as_ride q) ≡ made (λ ws. record { cart = a; cells = ws }) (if_read r (take (suc q.last) q.cells))
held_ride None q e = refl
held_ride (Some u) q e = rw e

-- A path of a cart a and a call b.
module _ (j : Job) (l : List ℕ) where
  pub path_none : number_past (path_word ++ (9 ∷ [])) l ≡ None → path_line j l ≡ none
  path_none e = ap (path_of j) (past_none (path_word ++ (9 ∷ [])) l e)

  module _ {a next : ℕ} (e : number_past (path_word ++ (9 ∷ [])) l ≡ found a next) where
    one : path_line j l ≡ path_of j (and_number (some a) (behind l next))
    one = ap (path_of j) (past_some (path_word ++ (9 ∷ [])) l e)

    pub path_few : number_at l (next + 1) ≡ None → path_line j l ≡ none
    path_few f = one ∙ second_none l next (λ o. path_of j (and_number (some a) o)) refl refl f

    module _ {b end : ℕ} (f : number_at l (next + 1) ≡ found b end) where
      path_says : {x y : Bool} → ltb a (length j.carts) ≡ x → ltb b (length j.calls) ≡ y
          → path_line j l ≡ cond (x && y) (made (λ ws. record { cart = a; call = b; cells = ws }) (cells_fit j (call_of j b).kind (call_of j b).deadline (behind l end))) none
      path_says p q = one ∙ ap (λ o. path_of j (and_number (some a) o)) (second_some l next b end f) ∙ go (behind l end) ∙ rw (p, q)
        where
          known : Bool
          known = ltb a (length j.carts) && ltb b (length j.calls)

          go : (o : Option (List ℕ)) → path_of j (and_number (some a) (and_number (some b) o)) ≡ cond (ltb a (length j.carts) && ltb b (length j.calls))
              (made (λ ws. record { cart = a; call = b; cells = ws }) (cells_fit j (call_of j b).kind (call_of j b).deadline o)) none
          go none = never (ltb a (length j.carts) && ltb b (length j.calls))
          go (some ws) =
              tested (λ x. record { cart = a; call = b; cells = x }) (ltb a (length j.carts) && ltb b (length j.calls))
              (size_fits (call_of j b).kind (call_of j b).deadline (length ws)) (all_below j.cells ws) ws

      pub path_no_cart : length j.carts ≤ a → path_line j l ≡ none
      path_no_cart h = path_says (le-ltb _ _ h) refl

      module _ (known : a < length j.carts) where
        pub path_no_call : length j.calls ≤ b → path_line j l ≡ none
        path_no_call h = path_says (lt-ltb _ _ known) (le-ltb _ _ h)

        pub path_known : b < length j.calls → {k : CallKind} {d : ℕ} → (call_of j b).kind ≡ k → (call_of j b).deadline ≡ d
            → path_line j l ≡ made (λ ws. record { cart = a; call = b; cells = ws }) (cells_fit j k d (behind l end))
        path_known h p q = path_says (lt-ltb _ _ known) (lt-ltb _ _ h) ∙ rw (p, q)

-- A ride of a spare cart a: its cells are as many as those of a path to a bay at the last step.
module _ (j : Job) (l : List ℕ) where
  pub spare_none : number_past (spare_word ++ (9 ∷ [])) l ≡ None → spare_line j l ≡ none
  spare_none e = ap (spare_of j) (past_none (spare_word ++ (9 ∷ [])) l e)

  module _ {a next : ℕ} (e : number_past (spare_word ++ (9 ∷ [])) l ≡ found a next) where
    spare_says : {x : Bool} → ltb a (length j.carts) ≡ x → spare_line j l ≡ cond x (made (λ ws. record { cart = a; cells = ws }) (cells_fit j bay (horizon j) (behind l next))) none
    spare_says p = ap (spare_of j) (past_some (spare_word ++ (9 ∷ [])) l e) ∙ go (behind l next) ∙ rw p
      where
        go : (o : Option (List ℕ))
            → spare_of j (and_number (some a) o) ≡ cond (ltb a (length j.carts)) (made (λ ws. record { cart = a; cells = ws }) (cells_fit j bay (horizon j) o)) none
        go none = never (ltb a (length j.carts))
        go (some ws) = tested (λ x. record { cart = a; cells = x }) (ltb a (length j.carts)) (size_fits bay (horizon j) (length ws)) (all_below j.cells ws) ws

    pub spare_no_cart : length j.carts ≤ a → spare_line j l ≡ none
    spare_no_cart h = spare_says (le-ltb _ _ h)

    pub spare_known : a < length j.carts → spare_line j l ≡ made (λ ws. record { cart = a; cells = ws }) (cells_fit j bay (horizon j) (behind l next))
    spare_known h = spare_says (lt-ltb _ _ h)
