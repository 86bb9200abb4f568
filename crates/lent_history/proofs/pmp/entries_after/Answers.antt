use Rattle.std.proofs.Common.{◌∙◌}
use Rattle.lent_history.proofs.Scanning.{pmp_step}
use Rattle.lent_history.proofs.pmp.entries_after.Goals as goal

pub events-preserved : goal.events-preserved
events-preserved c = record {
  entries = pmp_step _ _ _ c.args.events.now c.events.k c.event_at.result c.event_at.ensures c.events.invariant.entries c.follow.ensures.entries;
  count = c.follow.ensures.count ∙ c.events.invariant.count;
}
