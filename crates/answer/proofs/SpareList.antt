-- The carts that no path has, listed by number behind those that one has. Whatever is listed, no cart is twice, so that there is room for each; and at the end every cart is listed, so that
-- there are as many rides as carts. Assumes nothing.
use Prim.Native.Nat.{ℕ, ◌+◌, ◌≤◌, ◌<◌}
use mathlib.Core.Path.{◌≡◌, refl, sym, ◌∙◌, ap}
use native.Mathlib.Omega.{arith}
use Rattle.model.proofs.Decide.{dec-lt, dec_eq}
use Rattle.model.proofs.Lists.{pigeon}
use Rattle.model.proofs.Listed.{below, length_below, in_below}
use Rattle.model.proofs.Tabled.{put, put_at, put_off}
use Rattle.job.specs.Held.{Some}

-- n different numbers below m are at most m; and if they are all of these, m is at most n.
distinct_few : (f : ℕ → ℕ) (n m : ℕ) → ((i : ℕ) → i < n → f i < m) → ((i k : ℕ) → i < n → k < n → f i ≡ f k → i ≡ k) → n ≤ m
distinct_few f n m small own =
    omega (arith, length_below m, pigeon (λ i y. f i ≡ y) n (below m) (λ i l. (f i, in_below m (f i) (small i l), refl)) (λ i k y l l' e e'. own i k l l' (e ∙ sym e')))

all_few : (f : ℕ → ℕ) (n m : ℕ) → ((c : ℕ) → c < m → Some n (λ i. f i ≡ c)) → m ≤ n
all_few f n m all =
    omega (arith, length_below n, pigeon (λ c i. f i ≡ c) m (below n) (λ c l. let (i, h, e) = all c l in (i, in_below n i h, e)) (λ c d i l l' e e'. sym e ∙ e'))

-- The first n of the numbers f are those of known carts, no cart twice.
pub record OwnCarts (f : ℕ → ℕ) (n carts : ℕ) : Type 0 where
  pub known : (k : ℕ) → k < n → f k < carts
  pub own : (i k : ℕ) → i < n → k < n → f i ≡ f k → i ≡ k

-- The first n as they were, and behind them, up to k, the carts below c that none of those is.
pub record Listing (f₀ f : ℕ → ℕ) (n k c : ℕ) : Type 0 where
  pub from : n ≤ k
  pub kept : (i : ℕ) → i < n → f i ≡ f₀ i
  pub low : (i : ℕ) → n ≤ i → i < k → f i < c
  pub spare : (i m : ℕ) → i < n → n ≤ m → m < k → f i ≡ f m → ⊥
  pub rises : (i m : ℕ) → n ≤ i → i < m → m < k → f i < f m
  pub all : (d : ℕ) → d < c → Some k (λ i. f i ≡ d)

module _ {f₀ f : ℕ → ℕ} {n k c carts : ℕ} (own : OwnCarts f₀ n carts) (w : Listing f₀ f n k c) (more : c < carts) where
  -- The cart c has a path.
  pub listing_skip : Some n (λ i. f₀ i ≡ c) → Listing f₀ f n k (c + 1)
  listing_skip (p, m, e) = record {
    from = w.from;
    kept = w.kept;
    low = λ i l m. let z = w.low i l m in omega arith;
    spare = w.spare;
    rises = w.rises;
    all = λ d l. all d l (dec_eq d c);
  }
    where
      all : (d : ℕ) → d < c + 1 → Dec (d ≡ c) → Some k (λ i. f i ≡ d)
      all d l (yes q) = let from = w.from in (p, omega arith, w.kept p m ∙ e ∙ sym q)
      all d l (no ne) = w.all d (omega arith)

  module _ (free : (i : ℕ) → i < n → f₀ i ≡ c → ⊥) where
    -- It has none: so it is different from all that are listed.
    new : (i : ℕ) → i < k → f i ≡ c → ⊥
    new i l e = go (dec-lt i n)
      where
        go : Dec (i < n) → ⊥
        go (yes m) = free i m (sym (w.kept i m) ∙ e)
        go (no m) = let z = w.low i (omega arith) l in omega arith

    different : (i m : ℕ) → i < k → m < k → f i ≡ f m → i ≡ m
    different i m l h e = go (dec-lt i n) (dec-lt m n)
      where
        less : (a b : ℕ) → n ≤ a → a < b → b < k → f a ≡ f b → ⊥
        less a b p s t q = let z = w.rises a b p s t in omega arith

        order : (i < n → ⊥) → (m < n → ⊥) → Dec (i < m) → Dec (m < i) → i ≡ m
        order p q (yes r) s = absurd (less i m (omega arith) r h e)
        order p q (no r) (yes s) = absurd (less m i (omega arith) s l (sym e))
        order p q (no r) (no s) = omega arith

        go : Dec (i < n) → Dec (m < n) → i ≡ m
        go (yes p) (yes q) = own.own i m p q (sym (w.kept i p) ∙ e ∙ w.kept m q)
        go (yes p) (no q) = absurd (w.spare i m p (omega arith) h e)
        go (no p) (yes q) = absurd (w.spare m i q (omega arith) l (sym e))
        go (no p) (no q) = order p q (dec-lt i m) (dec-lt m i)

    small : (i : ℕ) → i < k → f i < carts
    small i l = go (dec-lt i n)
      where
        go : Dec (i < n) → f i < carts
        go (yes m) = rw (w.kept i m) (own.known i m)
        go (no m) = let z = w.low i (omega arith) l in omega arith

    pub listing_room : k < carts
    listing_room =
        let few : k + 1 ≤ carts = distinct_few (put f k c) (k + 1) carts (λ i l. low i l (dec_eq i k)) (λ i m l h. apart i m l h (dec_eq i k) (dec_eq m k)) in
        omega arith
      where
        at : (i : ℕ) → i ≡ k → put f k c i ≡ c
        at i e = put_at f k c i e

        off : (i : ℕ) → (i ≡ k → ⊥) → put f k c i ≡ f i
        off i ne = put_off f k c i ne

        low : (i : ℕ) → i < k + 1 → Dec (i ≡ k) → put f k c i < carts
        low i l (yes e) = rw (at i e) more
        low i l (no ne) = rw (off i ne) (small i (omega arith))

        apart : (i m : ℕ) → i < k + 1 → m < k + 1 → Dec (i ≡ k) → Dec (m ≡ k) → put f k c i ≡ put f k c m → i ≡ m
        apart i m l h (yes e) (yes z) q = omega arith
        apart i m l h (yes e) (no z) q = absurd (new m (omega arith) (sym (off m z) ∙ sym q ∙ at i e))
        apart i m l h (no e) (yes z) q = absurd (new i (omega arith) (sym (off i e) ∙ q ∙ at m z))
        apart i m l h (no e) (no z) q = different i m (omega arith) (omega arith) (sym (off i e) ∙ q ∙ off m z)

    -- It is listed next.
    pub listing_take : {f' : ℕ → ℕ} → f' k ≡ c → ((i : ℕ) → (i ≡ k → ⊥) → f' i ≡ f i) → Listing f₀ f' n (k + 1) (c + 1)
    listing_take {f'} here else = record {
      from = let from = w.from in omega arith;
      kept = λ i l. let from = w.from in old i (omega arith) ∙ w.kept i l;
      low = λ i l h. low i l h (dec-lt i k);
      spare = λ i m l h h' e. spare i m l h h' (dec-lt m k) e;
      rises = λ i m l h h'. rises i m l h h' (dec-lt m k);
      all = λ d l. all d l (dec_eq d c);
    }
      where
        old : (i : ℕ) → i < k → f' i ≡ f i
        old i l = else i (λ e. omega arith)

        low : (i : ℕ) → n ≤ i → i < k + 1 → Dec (i < k) → f' i < c + 1
        low i l h (yes m) = rw (old i m) (let z = w.low i l m in omega arith)
        low i l h (no m) = let z : i ≡ k = omega arith in rw (z, here) (omega arith)

        spare : (i m : ℕ) → i < n → n ≤ m → m < k + 1 → Dec (m < k) → f' i ≡ f' m → ⊥
        spare i m l h h' (yes q) e = let from = w.from in w.spare i m l h q (sym (old i (omega arith)) ∙ e ∙ old m q)
        spare i m l h h' (no q) e =
            let z : m ≡ k = omega arith in
            let from = w.from in
            new i (omega arith) (sym (old i (omega arith)) ∙ e ∙ ap f' z ∙ here)

        rises : (i m : ℕ) → n ≤ i → i < m → m < k + 1 → Dec (m < k) → f' i < f' m
        rises i m l h h' (yes q) = rw (old i (omega arith), old m q) (w.rises i m l h q)
        rises i m l h h' (no q) = let z : m ≡ k = omega arith in rw (z, here, old i (omega arith)) (w.low i l (omega arith))

        all : (d : ℕ) → d < c + 1 → Dec (d ≡ c) → Some (k + 1) (λ i. f' i ≡ d)
        all d l (yes e) = (k, omega arith, here ∙ sym e)
        all d l (no ne) = let (i, h, e) = w.all d (omega arith) in (i, omega arith, old i h ∙ e)

-- All are listed: so there are as many as carts.
pub listing_full : {f₀ f : ℕ → ℕ} {n k c : ℕ} → Listing f₀ f n k c → c ≤ k
listing_full {f = f} {k = k} {c = c} w = all_few f k c w.all
