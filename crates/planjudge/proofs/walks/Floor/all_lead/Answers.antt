-- `Floor::all_lead` decides whether each path leads from its cart to its call. Assumes nothing.
use Rattle.std.proofs.Common.{below_more}
use Rattle.planjudge.proofs.walks.Floor.all_lead.Goals as goal

pub loop-path-preserved : goal.loop-path-preserved
loop-path-preserved c = below_more _ _ c.loop-path.invariant (rw (c.from.ensures, c.from-in-loop-path.ensures) at (c.leads.ensures.0 c.if-not-leads.false))
