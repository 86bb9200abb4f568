use Rattle.std.proofs.Common.{sym, ◌∙◌}
use Rattle.hart_machine.proofs.FillWorlds.{fills_nowhere}
use Rattle.hart_machine.proofs.machine.Machine.fill.Goals as goal

pub returns-in_default-clause-made : goal.returns-in_default-clause-made
returns-in_default-clause-made c w is =
    fills_nowhere c.args.self.now w is c.args.hart c.args.va.0 (sym c.in_default.is ∙ c.table_of.ensures)
