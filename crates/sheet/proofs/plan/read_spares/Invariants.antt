-- `read_spares` reads the SPARE lines behind the paths. Invariant: what the rest of the lines says after the k spare carts that are held is what all of them
-- say. Assumes nothing.
use mathlib.Core.List.{List, []}
use lib.ListN.{length, take}
use Rattle.std.specs.Prelude.{map}
use Rattle.model.specs.Plan.{Path}
use Rattle.model.specs.Text.{lines_of}
use Rattle.model.specs.FirstBad.{rest_says}
use Rattle.model.specs.ReadSheet.{bad, plan, spare_line}
use Rattle.job.specs.Lists.{job_of}
use Rattle.job.specs.Held.{as_ride}
use Rattle.text.specs.Rest.{rest_of}
use Rattle.sheet.proofs.Turns.{Left, ends}
use Rattle.sheet.proofs.plan.read_spares.Given as goal

abbrev pub invariant-loop-k : goal.invariant-loop-k
invariant-loop-k l = (ps : List Path)
    → Left (spare_line (job_of l.job)) (ends (plan ps)) (length l.spares) l.first (rest_says bad (spare_line (job_of l.job)) (plan ps) [] (length l.spares) l.first (lines_of (rest_of l.fn.lines)))
    (map as_ride (take l.k l.spares)) (rest_of l.lines) l.k
