use Rattle.std.proofs.Common.{◌∙◌, ap, sym}
use Rattle.hart_machine.proofs.Fences.{all_fenced}
use Rattle.hart_machine.proofs.hart.Hart.fence.Goals as goal

pub returns-then-is_before_fence : goal.returns-then-is_before_fence
returns-then-is_before_fence c = rw (sym c.is_before_fence.ensures ∙ c.if-is_before_fence.true) (ap (λ es. record c.args.self.now { buffer = es }) (c.fence.ensures ∙ all_fenced c.args.self.now.buffer))
