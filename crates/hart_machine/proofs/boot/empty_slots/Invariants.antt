use Rattle.std.proofs.Common.{◌≡◌, None, replicate}
use Rattle.hart_machine.proofs.boot.empty_slots.Given as goal

abbrev pub invariant-loop : goal.invariant-loop
invariant-loop l = l.slots.items ≡ replicate l.counter None
