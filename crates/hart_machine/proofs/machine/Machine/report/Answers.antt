use Rattle.std.proofs.Common.{◌∙◌}
use Rattle.hart_machine.proofs.HeldFrames.{report_is}
use Rattle.hart_machine.proofs.machine.Machine.report.Goals as goal

pub returns : goal.returns
returns c w buffered = c.report.ensures ∙ report_is c.args.self.now w buffered.world
