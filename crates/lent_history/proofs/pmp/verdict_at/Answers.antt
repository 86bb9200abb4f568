use Rattle.lent_history.specs.Lent.{pmp_of}
use Rattle.lent_history.specs.Protecting.{entries_of}
use Rattle.lent_history.proofs.Scanning.{judges_step, pmp_step}
use Rattle.lent_history.proofs.pmp.verdict_at.Goals as goal

pub events-preserved : goal.events-preserved
events-preserved c =
    let i = c.events.invariant in
    let entries = pmp_step (pmp_of c.args.hart.now) _ _ c.args.events.now c.events.k c.event_at.result c.event_at.ensures i.entries c.follow.ensures.entries in
    record {
      entries = entries;
      judges = judges_step (pmp_of c.args.hart.now) (entries_of c.follow.new.self) c.args.checked.now c.args.events.now c.events.k c.event_at-in-events.result
          c.permit-permits.result c.events.verdict _ c.event_at-in-events.ensures entries c.permit-permits.ensures i.judges c.follow-in-events.ensures;
    }
