use Rattle.std.proofs.Common.{◌≡◌}
use Rattle.access_history.specs.History.{satp_at}
use Rattle.access_judge.specs.Search.{address_fence}
use Rattle.lent_history.specs.Events.{history}
use Rattle.lent_history.proofs.scan.address_fence.Given as goal

abbrev pub invariant-events : goal.invariant-events
invariant-events l = record {
  satp : l.satp ≡ satp_at l.fn.first (history l.events l.k);
  last : l.last ≡ address_fence l.fn.first (history l.events l.k) l.reach.bits l.reach.va.0 l.reach.asid;
}
