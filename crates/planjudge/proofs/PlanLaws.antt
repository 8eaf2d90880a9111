-- Lists that a function gives of a list, by their places, and what the known lines of a sheet keep to. Assumes nothing.
use Prim.Native.Nat.{ℕ, zero, suc, ◌≤◌, ◌<◌}
use mathlib.Core.Path.{◌≡◌, sym, ap}
use mathlib.Core.List.{List, [], ◌∷◌, map}
use mathlib.Core.Bool.{true, ◌&&◌}
use native.Mathlib.Omega.{arith}
use lib.Dec.{ltb, eqb}
use lib.ListN.{length, get_or}
use borrow.Author.Tests.{ltb-true, eqb-true}
use Rattle.std.proofs.Math.ListN.{get_or-map}
use Rattle.std.proofs.lemmas.List.{length-map}
use Rattle.std.proofs.lemmas.Simd.{map-map}
use Rattle.model.specs.Lists.{In, NoDup, Rising}
use Rattle.model.specs.Job.{Job, CallKind, lift, bay, call_of, horizon}
use Rattle.model.specs.Walk.{InTime}
use Rattle.model.specs.Plan.{Path, Ride, Before}
use Rattle.model.specs.ReadSheet.{all_below, size_fits, known_path, known_spare}
use Rattle.model.proofs.Basics.{and_left, and_right}
use Rattle.model.proofs.Floor.{fits_time}
use Rattle.model.proofs.Lex.{lex_on, lex_apart}
use Rattle.model.proofs.Lists.{in_unmap, place_of, rising_of, rising_at, rising_first}
use Rattle.job.proofs.Lists.{in_mapped}

-- A list has no member twice under f if f tells its places apart.
nodup_of : {A : Type 0} (d : A) (f : A → ℕ) (l : List A) → ((i k : ℕ) → i < length l → k < length l → f (get_or l i d) ≡ f (get_or l k d) → i ≡ k) → NoDup (map f l)
nodup_of d f [] h = tt
nodup_of d f (a ∷ l) h = (
  (λ m. let (k, b, e) = (in_mapped f l d (f a)).0 m in omega (arith, h 0 (suc k) (omega arith) (omega arith) e)),
  nodup_of d f l (λ i k a b e. omega (arith, h (suc i) (suc k) (omega arith) (omega arith) e)),
)

module _ {A B : Type 0} (g : A → B) (l : List A) (d : A) where
  pub own_of : (f : B → ℕ) → ((i k : ℕ) → i < length l → k < length l → f (g (get_or l i d)) ≡ f (g (get_or l k d)) → i ≡ k) → NoDup (map f (map g l))
  own_of f h = rw (map-map f g l) (nodup_of d (λ a. f (g a)) l h)

  pub own_at : (f : B → ℕ) → NoDup (map f (map g l)) → (i k : ℕ) → i < length l → k < length l → f (g (get_or l i d)) ≡ f (g (get_or l k d)) → i ≡ k
  own_at f nd i k = place_of (λ a. f (g a)) l (rw (map-map f g l) at nd) i k d

  pub rise_of : (R : B → B → Type 0) → ((k : ℕ) → suc k < length l → R (g (get_or l k d)) (g (get_or l (suc k) d))) → Rising R (map g l)
  rise_of R h = rising_of (g d) R (map g l) (λ k m. rw (get_or-map g l k d, get_or-map g l (suc k) d) (h k (rw (length-map l g) at m)))

  pub rise_at : (R : B → B → Type 0) → Rising R (map g l) → (k : ℕ) → suc k < length l → R (g (get_or l k d)) (g (get_or l (suc k) d))
  rise_at R r k m = rw (get_or-map g l k d, get_or-map g l (suc k) d) at (rising_at (g d) R (map g l) r k (rw (length-map l g) m))

-- paths in order have no call twice
pub own_calls : (j : Job) (ps : List Path) → Rising (Before j) ps → NoDup (map (λ p. p.call) ps)
own_calls j [] r = tt
own_calls j (p ∷ []) r = ((λ m. m), tt)
own_calls j (p ∷ q ∷ ps) r = (apart, own_calls j (q ∷ ps) r.1)
  where
    apart : In p.call (map (λ p. p.call) (q ∷ ps)) → ⊥
    apart m =
        let (x, i, e) = in_unmap (λ (p : Path). p.call) p.call (q ∷ ps) m in
        let b = rising_first (Before j) (λ x y z. lex_on) p (q ∷ ps) r x i in
        lex_apart b (ap (λ k. (call_of j k).deadline) (sym e)) (ap (λ k. (call_of j k).cell) (sym e))

pub below_at : (n : ℕ) (l : List ℕ) → all_below n l ≡ true → (t : ℕ) → t < length l → get_or l t 0 < n
below_at n [] e t h = absurd (omega arith)
below_at n (a ∷ l) e zero h = ltb-true a n (and_left (ltb a n) (all_below n l) e)
below_at n (a ∷ l) e (suc t) h = below_at n l (and_right (ltb a n) (all_below n l) e) t (omega arith)

-- No call is met behind its deadline.
pub no_later : (kind : CallKind) (d t : ℕ) → InTime kind d t → t ≤ d
no_later lift d t h = h
no_later bay d t h = omega arith

-- what a known path keeps to
pub record Ranged (j : Job) (p : Path) : Type 0 where
  pub cart : p.cart < length j.carts
  pub call : p.call < length j.calls
  pub last : ℕ
  pub size : length p.cells ≡ suc last
  pub in_time : InTime (call_of j p.call).kind (call_of j p.call).deadline last
  pub cells : (t : ℕ) → t < length p.cells → get_or p.cells t 0 < j.cells

pub known_ranged : (j : Job) (p : Path) → known_path j p ≡ true → Ranged j p
known_ranged j p e =
    let a = ltb p.cart (length j.carts) in
    let b = ltb p.call (length j.calls) in
    let q = call_of j p.call in
    let c = size_fits q.kind q.deadline (length p.cells) in
    let d = all_below j.cells p.cells in
    let abc = and_left (a && b && c) d e in
    let ab = and_left (a && b) c abc in
    let (t, size, met) = fits_time q.kind q.deadline (length p.cells) (and_right (a && b) c abc) in
    record {
      cart = ltb-true _ _ (and_left a b ab);
      call = ltb-true _ _ (and_right a b ab);
      last = t;
      size = size;
      in_time = met;
      cells = below_at j.cells p.cells (and_right (a && b && c) d e);
    }

-- what a known spare cart keeps to: it has a cell at each step up to the last
pub record RangedSpare (j : Job) (r : Ride) : Type 0 where
  pub cart : r.cart < length j.carts
  pub size : length r.cells ≡ suc (horizon j)
  pub cells : (t : ℕ) → t < length r.cells → get_or r.cells t 0 < j.cells

pub spare_ranged : (j : Job) (r : Ride) → known_spare j r ≡ true → RangedSpare j r
spare_ranged j r e =
    let a = ltb r.cart (length j.carts) in
    let b = eqb (length r.cells) (suc (horizon j)) in
    let c = all_below j.cells r.cells in
    let ab = and_left (a && b) c e in
    record {
      cart = ltb-true _ _ (and_left a b ab);
      size = eqb-true _ _ (and_right a b ab);
      cells = below_at j.cells r.cells (and_right (a && b) c e);
    }
