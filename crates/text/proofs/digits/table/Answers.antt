-- `digits::table` meets its contract: the test of the rule over all 1,000 entries, which the checker computes. Assumes nothing.
use mathlib.Core.Path.{refl}
use Rattle.text.proofs.digits.table.Goals as goal

pub returns : goal.returns
returns c = record { thousand = refl; right = refl }
