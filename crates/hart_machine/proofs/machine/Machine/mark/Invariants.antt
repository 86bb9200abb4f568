use Rattle.std.proofs.Common.{◌≡◌, map}
use Rattle.hart_machine.specs.Harts.{hart_of}
use Rattle.hart_machine.specs.declared.hart.Hart.{Hart}
use Rattle.hart_machine.proofs.MarkedHarts.{marked_first}
use Rattle.hart_machine.proofs.machine.Machine.mark.Given as goal

abbrev pub invariant-loop-hart : goal.invariant-loop-hart
invariant-loop-hart l =
    (map hart_of l.hart-items ≡ marked_first l.slot l.hart-index (map hart_of l.fn.self.harts.items)) × (map (λ (x : Hart). x.buffer) l.hart-items ≡ map (λ (x : Hart). x.buffer) l.fn.self.harts.items)
