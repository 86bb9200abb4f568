use Rattle.lent_history.proofs.Scanning.{satp_step}
use Rattle.lent_history.proofs.scan.satp_at.Goals as goal

pub events-preserved : goal.events-preserved
events-preserved c = satp_step _ _ _ c.args.events.now c.events.k c.event_at.result c.event_at.ensures c.events.invariant c.satp_after-satp.ensures
