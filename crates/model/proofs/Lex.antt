-- The order by two numbers goes on from one pair to the next, none stands before itself, and of two that differ one stands before the other. Assumes nothing.
use Prim.Native.Nat.{ℕ, ◌<◌}
use mathlib.Core.Path.{◌≡◌}
use mathlib.Core.Logic.{◌⊎◌, inl, inr}
use native.Mathlib.Omega.{arith}
use Rattle.model.specs.Lists.{Lex}
use Rattle.model.proofs.Decide.{dec_and, dec_or, dec_eq, dec-lt}

abbrev pub dec_lex : (a b c d : ℕ) → Dec (Lex a b c d)
dec_lex a b c d = dec_or (dec-lt a c) (dec_and (dec_eq a c) (dec-lt b d))

pub lex_on : {a b c d x y : ℕ} → Lex a b c d → Lex c d x y → Lex a b x y
lex_on (inl h) (inl l) = inl (omega arith)
lex_on (inl h) (inr l) = inl (omega arith)
lex_on (inr h) (inl l) = inl (omega arith)
lex_on (inr h) (inr l) = inr (omega arith, omega arith)

pub lex_apart : {a b c d : ℕ} → Lex a b c d → a ≡ c → b ≡ d → ⊥
lex_apart (inl h) e f = omega arith
lex_apart (inr h) e f = omega arith

pub lex_else : (a b c d : ℕ) → (Lex a b c d → ⊥) → Lex c d a b ⊎ ((a ≡ c) × (b ≡ d))
lex_else a b c d not = go (dec-lt c a) (dec-lt d b)
  where
    go : Dec (c < a) → Dec (d < b) → Lex c d a b ⊎ ((a ≡ c) × (b ≡ d))
    go (yes h) _ = inl (inl h)
    go (no h) (yes l) = let k : a < c → ⊥ = λ m. not (inl m) in inl (inr (omega arith, l))
    go (no h) (no l) =
        let k : a < c → ⊥ = λ m. not (inl m) in
        let e : a ≡ c = omega arith in
        let n : b < d → ⊥ = λ m. not (inr (e, m)) in
        inr (e, omega arith)
