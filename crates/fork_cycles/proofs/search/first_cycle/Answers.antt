use Rattle.std.proofs.Common.{arith}
use Rattle.fork_cycles.proofs.Steps.{marked}
use Rattle.fork_cycles.proofs.search.first_cycle.Goals as goal

pub loop-start-init : goal.loop-start-init
loop-start-init c = record { marked = marked c.args.lists.now c.requires; ended = λ k d less. absurd (omega (arith, less)) }
