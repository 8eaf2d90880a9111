-- The rides of a plan: those of its paths and those of its spare carts. Rides that are apart stay so when some are left out, and no cart has two paths. Assumes nothing.
use Prim.Native.Nat.{ℕ, suc, ◌+◌, ◌<◌}
use mathlib.Core.Path.{◌≡◌, refl, sym, ap, subst, ◌∙◌}
use mathlib.Core.List.{List, [], ◌∷◌, ◌++◌, map}
use mathlib.Core.Logic.{◌⊎◌, inl, inr}
use lib.ListN.{length, length-append}
use Rattle.model.specs.Lists.{In, NoDup}
use Rattle.model.specs.Job.{Job}
use Rattle.model.specs.Plan.{Path, Ride, ride_of, Apart, Plan}
use Rattle.model.proofs.Lists.{in_map, in_unmap, in_left, in_part}

nodup_left : {A : Type 0} (f : A → ℕ) (l m : List A) → NoDup (map f (l ++ m)) → NoDup (map f l)
nodup_left f [] m nd = tt
nodup_left f (a ∷ l) m nd = (λ h. let (b, i, e) = in_unmap f (f a) l h in nd.0 (rw e at (in_map f b (l ++ m) (in_left b l m i))), nodup_left f l m nd.1)

pub apart_left : (rs ss : List Ride) → Apart (rs ++ ss) → Apart rs
apart_left rs ss h = record {
  own_cart = nodup_left (λ r. r.cart) rs ss h.own_cart;
  no_share = λ r s i k. h.no_share r s (in_left r rs ss i) (in_left s rs ss k);
  no_trade = λ r s i k. h.no_trade r s (in_left r rs ss i) (in_left s rs ss k);
}

carts_of : (ps : List Path) → map (λ r. r.cart) (map ride_of ps) ≡ map (λ p. p.cart) ps
carts_of [] = refl
carts_of (p ∷ ps) = ap (λ l. p.cart ∷ l) (carts_of ps)

pub own_carts : (ps : List Path) → Apart (map ride_of ps) → NoDup (map (λ p. p.cart) ps)
own_carts ps h = rw (carts_of ps) at h.own_cart

pub path_rides : (ps : List Path) → NoDup (map (λ p. p.cart) ps) → NoDup (map (λ r. r.cart) (map ride_of ps))
path_rides ps h = rw (carts_of ps) h

-- Rides of paths and of spare carts, no cart among both.
pub nodup_both : {A : Type 0} (f : A → ℕ) (l m : List A) → NoDup (map f l) → NoDup (map f m) → ((a b : A) → In a l → In b m → f a ≡ f b → ⊥) → NoDup (map f (l ++ m))
nodup_both f [] m h k apart = k
nodup_both {A} f (a ∷ l) m h k apart = (λ i. let (b, n, e) = in_unmap f (f a) (l ++ m) i in go b e (in_part b l m n), nodup_both f l m h.1 k (λ x y i. apart x y (inr i)))
  where
    go : (b : A) → f b ≡ f a → In b l ⊎ In b m → ⊥
    go b e (inl i) = h.0 (rw e at (in_map f b l i))
    go b e (inr i) = apart a b (inl refl) i (sym e)

length_rides : (ps : List Path) → length (map ride_of ps) ≡ length ps
length_rides [] = refl
length_rides (p ∷ ps) = ap suc (length_rides ps)

-- Every ride of a plan is that of a known cart, and they are as many as the carts.
module _ (j : Job) (ps : List Path) (ss : List Ride) (pl : Plan j ps ss) where
  pub ride_known : (r : Ride) → In r (map ride_of ps ++ ss) → r.cart < length j.carts
  ride_known r h = go (in_part r (map ride_of ps) ss h)
    where
      go : In r (map ride_of ps) ⊎ In r ss → r.cart < length j.carts
      go (inl k) = let (p, i, e) = in_unmap ride_of r ps k in subst (λ x. x.cart < length j.carts) e (pl.served.leads p i).known_cart
      go (inr k) = (pl.stay r k).known_cart

  pub rides_all : length (map ride_of ps ++ ss) ≡ length j.carts
  rides_all = length-append (map ride_of ps) ss ∙ ap (λ n. n + length ss) (length_rides ps) ∙ pl.size
