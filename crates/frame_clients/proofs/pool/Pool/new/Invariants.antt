use Rattle.std.proofs.Common.{◌≡◌, ◌-◌, ◌++◌, None, replicate}
use Rattle.frame_clients.proofs.pool.Pool.new.Given as goal

abbrev pub invariant-loop : goal.invariant-loop
invariant-loop l = l.seats.items ≡ l.initial.seats.items ++ replicate (l.counter - 1) None
