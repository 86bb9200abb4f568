use Rattle.std.proofs.Common.{◌+◌, refl}
use Rattle.lent_history.proofs.Scanning.{space_step}
use Rattle.lent_history.proofs.scan.space_fence.Goals as goal

pub events-preserved : goal.events-preserved
events-preserved c =
    space_step c.args.asid c.events.last (c.events.k + 1) _ c.args.events.now c.events.k c.event_at.result c.event_at.ensures refl c.events.invariant
    c.space_fence_after-last.ensures
