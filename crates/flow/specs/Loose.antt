-- A graph with other starts; and a line that begins at a node of its own, a loose end, which is led on to a node before it.
use Rattle.std.specs.Prelude.{◌≡◌, ◌⊎◌}
use Rattle.flow.specs.Flow.{Link, off, end, to, Graph}
use Rattle.flow.specs.Update.{upd}

abbrev pub starting_at : {N : Type 0} → Graph N → (N → Type 0) → Graph N
starting_at G S = record { Edge = G.Edge; Start = S; Goal = G.Goal }

-- The loose end u is led on to v. If no line uses v, that is the loose end then; else it is taken from its line, and w, where that went on, is.
pub record LedOn {N : Type 0} (G : Graph N) (next prev : N → Link N) (u v w : N) : Type 0 where
  pub loose : prev u ≡ end
  pub edge : G.Edge v u
  pub apart : v ≡ u → ⊥
  pub leaves : ((w ≡ v) × (next v ≡ off)) ⊎ (next v ≡ to w)

-- the links then
abbrev pub next_led : {N : Type 0} → Discrete N → N → N → (N → Link N) → N → Link N
next_led dec u v next = upd dec next v (to u)

abbrev pub prev_led : {N : Type 0} → Discrete N → N → N → N → (N → Link N) → N → Link N
prev_led dec u v w prev = upd dec (upd dec prev u (to v)) w end
