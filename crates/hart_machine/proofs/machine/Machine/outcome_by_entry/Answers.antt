use Rattle.std.proofs.Common.{ap, sym, ◌∙◌}
use Rattle.std.specs.Prelude.{is_ok}
use Rattle.process_model.specs.Harts.{entry_serves}
use Rattle.hart_machine.specs.Harts.{hart_of}
use Rattle.hart_machine.proofs.machine.Machine.outcome_by_entry.Goals as goal

pub returns-in_default-clause-serves : goal.returns-in_default-clause-serves
returns-in_default-clause-serves c w x is at = sym (ap (entry_serves c.args.self.now.policy (hart_of x) c.args.va.0) c.in_default.is)

pub returns-in-Ok-clause-serves : goal.returns-in-Ok-clause-serves
returns-in-Ok-clause-serves c w x is at =
    sym (ap is_ok c.in-Ok.is) ∙ c.translate_by_entry.ensures.serves w x is at ∙ ap (entry_serves c.args.self.now.policy (hart_of x) c.args.va.0) (sym c.in-Some.is)

pub returns-in-Err-clause-serves : goal.returns-in-Err-clause-serves
returns-in-Err-clause-serves c w x is at =
    sym (ap is_ok c.in-Err.is) ∙ c.translate_by_entry.ensures.serves w x is at ∙ ap (entry_serves c.args.self.now.policy (hart_of x) c.args.va.0) (sym c.in-Some.is)

pub returns-in-Ok-clause-walk : goal.returns-in-Ok-clause-walk
returns-in-Ok-clause-walk c = c.in-Ok.ensures.walk
