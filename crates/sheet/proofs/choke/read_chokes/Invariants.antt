-- `read_chokes` reads the lines after CANNOT. Invariant: what the rest of the lines says after the k choke points that are held is what all of them say.
-- Assumes nothing.
use mathlib.Core.Path.{◌≡◌}
use mathlib.Core.List.{[]}
use lib.ListN.{length}
use Rattle.model.specs.Text.{lines_of}
use Rattle.model.specs.FirstBad.{rest_says}
use Rattle.model.specs.ReadSheet.{bad, cannot, choke_line}
use Rattle.job.specs.Lists.{job_of}
use Rattle.job.specs.Held.{as_chokes}
use Rattle.text.specs.Rest.{rest_of}
use Rattle.sheet.proofs.Turns.{Left, ends}
use Rattle.sheet.proofs.choke.read_chokes.Given as goal

abbrev pub invariant-loop-k : goal.invariant-loop-k
invariant-loop-k l = (length l.chokes.items ≡ l.k)
    × Left (choke_line (job_of l.job)) (ends cannot) l.count 2 (rest_says bad (choke_line (job_of l.job)) cannot [] l.count 2 (lines_of (rest_of l.fn.lines)))
    (as_chokes l.chokes.items) (rest_of l.lines) l.k
