-- What a contract sees of a list that lies in the value itself.
use Rattle.std.specs.Prelude.{List}

-- the elements, in order, and what stands in the places behind them, of which no clause says anything
pub record Items (T : Type 0) : Type 0 where
  pub items : List T
  pub spare : List T
