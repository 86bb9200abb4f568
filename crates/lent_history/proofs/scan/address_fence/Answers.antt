use Rattle.std.proofs.Common.{◌+◌, refl}
use Rattle.lent_history.proofs.Scanning.{address_step, satp_step}
use Rattle.lent_history.proofs.scan.address_fence.Goals as goal

pub events-preserved : goal.events-preserved
events-preserved c =
    let i = c.events.invariant in
    let reach = c.args.reach.now in
    record {
      satp = satp_step _ _ _ c.args.events.now c.events.k c.event_at-in-events.result c.event_at-in-events.ensures i.satp c.satp_after-satp.ensures;
      last = address_step c.args.first c.events.satp reach.bits reach.va.0 reach.asid c.events.last (c.events.k + 1) _ c.args.events.now c.events.k c.event_at.result
          c.event_at.ensures refl i.satp i.last c.address_fence_after-last.ensures;
    }
