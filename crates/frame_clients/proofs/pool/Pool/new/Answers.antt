use Rattle.std.proofs.Common.{◌-◌, arith}
use Rattle.std.proofs.lemmas.Grind.{common_steps}
use Rattle.frame_clients.proofs.PoolSteps.{one_pushed, pool_opening}
use Rattle.frame_clients.proofs.pool.Pool.new.Goals as goal

pub loop-preserved : goal.loop-preserved
loop-preserved c = one_pushed _ _ _ c.loop.counter _ c.loop.auto.counter c.loop.invariant c.in_ok-push-2.ensures.items

pub invariant_of-result : goal.invariant_of-result
invariant_of-result c = pool_opening _ _ _ _ (c.loop.counter - 1) (grind (arith, common_steps)) c.in_ok-store.ensures.seat c.in_ok-store.ensures.invariant
