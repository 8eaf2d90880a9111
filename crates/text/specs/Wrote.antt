-- What writing into a buffer leaves in it.
use Rattle.text.specs.declared.put.Pen.{Pen}
use Rattle.std.specs.Prelude.{ℕ, ◌+◌, ◌≤◌, ◌≡◌, List, ◌++◌, length, take, drop}

-- t is the buffer s with the bytes written from `at` on and nothing else changed; r is the place after them.
pub record Wrote (s : List ℕ) (at : ℕ) (bytes t : List ℕ) (r : ℕ) : Type 0 where
  pub fits : at + length bytes ≤ length s
  pub next : r ≡ at + length bytes
  pub text : t ≡ take at s ++ bytes ++ drop (at + length bytes) s

-- The pen p wrote the bytes, and q is the pen after them, over the same buffer.
pub record Writes (p : Pen) (bytes : List ℕ) (q : Pen) : Type 0 where
  pub same : q.out.ghost_name ≡ p.out.ghost_name
  pub wrote : Wrote p.out.now p.at bytes q.out.now q.at
