use Rattle.std.proofs.Common.{◌≡◌, map, replicate}
use Rattle.hart_machine.specs.Harts.{hart_of}
use Rattle.process_model.specs.Harts as model
use Rattle.hart_machine.proofs.boot.idle_harts.Given as goal

abbrev pub invariant-loop : goal.invariant-loop
invariant-loop l = map hart_of l.harts.items ≡ replicate l.counter model.idle_hart
