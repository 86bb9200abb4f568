-- No page is in two regions that are in order.
use Rattle.process_laws.proofs.EveryChange.{always_holds}
use Rattle.process_laws.proofs.InOrder.{order_is_kept, order_is_apart}
use Rattle.process_laws.proofs.regions.regions_never_meet.Goals as goal
use Rattle.process_model.specs.Order.{IsInOrder}

pub returns : goal.returns
returns c config files steps = λ s p e. order_is_apart p ((always_holds (λ n p. IsInOrder p) config files steps (order_is_kept config.scheme)).each s p e)
