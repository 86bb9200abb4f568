use Rattle.std.proofs.Common.{Bool, ap, not, sym, ◌∙◌}
use Rattle.std.specs.Prelude.{◌&&◌}
use Rattle.process_model.specs.Process.{grants_write}
use Rattle.hart_machine.proofs.slot_process.SlotProcess.is_unmarked.Goals as goal

pub returns-then-not-cow : goal.returns-then-not-cow
returns-then-not-cow c = λ t p slot_process.
    c.may_write.ensures t p slot_process ∙ sym (ap (λ (b : Bool). not b && grants_write p c.args.page) c.if-not-cow.true)
