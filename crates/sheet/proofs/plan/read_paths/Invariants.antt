-- `read_paths` reads the PATH lines after PLAN. Invariant: what the rest of the lines says after the k paths that are held is what all of them say, whatever
-- follows the paths. Assumes nothing.
use Prim.Native.Nat.{ℕ}
use mathlib.Core.List.{List, []}
use lib.ListN.{length, take}
use Rattle.std.specs.Prelude.{map}
use Rattle.model.specs.Plan.{Path}
use Rattle.model.specs.Text.{Lines, lines_of}
use Rattle.model.specs.FirstBad.{lines_due}
use Rattle.model.specs.ReadSheet.{Sheet, bad, path_line}
use Rattle.job.specs.Lists.{job_of}
use Rattle.job.specs.Held.{as_path}
use Rattle.text.specs.Rest.{rest_of}
use Rattle.sheet.proofs.Turns.{Left}
use Rattle.sheet.proofs.plan.read_paths.Given as goal

abbrev pub invariant-loop-k : goal.invariant-loop-k
invariant-loop-k l = (on : List Path → ℕ → Lines → Sheet)
    → Left (path_line (job_of l.job)) on (length l.paths) 2 (lines_due bad (path_line (job_of l.job)) on [] (length l.paths) 2 (lines_of (rest_of l.fn.lines)))
    (map as_path (take l.k l.paths)) (rest_of l.lines) l.k
