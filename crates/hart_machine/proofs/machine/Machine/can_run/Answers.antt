use Rattle.std.proofs.Common.{◌∙◌, ap}
use Rattle.std.specs.List.{list_any}
use Rattle.process_model.specs.World.{has_slot}
use Rattle.hart_machine.proofs.HartSteps.{can_run_is}
use Rattle.hart_machine.proofs.machine.Machine.can_run.Goals as goal

pub returns-then-has_process : goal.returns-then-has_process
returns-then-has_process c w is =
    can_run_is c.args.self.now w is c.args.slot c.in-Some.slot c.in-Some.is (c.if-has_process.ensures w is) c.is_on_hart.result
    (c.is_on_hart.ensures ∙ ap (list_any (λ x. has_slot c.in-Some.slot x.slot)) c.deref.ensures.value)
