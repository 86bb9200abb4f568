-- Each step keeps the regions in order.
use Rattle.process_laws.proofs.EveryChange.{always_holds}
use Rattle.process_laws.proofs.InOrder.{order_is_kept}
use Rattle.process_laws.proofs.regions.regions_stay_in_order.Goals as goal
use Rattle.process_model.specs.Order.{IsInOrder}

pub returns : goal.returns
returns c config files steps = λ s p e. (always_holds (λ n p. IsInOrder p) config files steps (order_is_kept config.scheme)).each s p e
