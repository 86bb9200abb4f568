use Rattle.std.proofs.Common.{◌∙◌, ap}
use Rattle.frame_store.specs.Plain.{report_of}
use Rattle.hart_machine.proofs.HeldFrames.{report_is}
use Rattle.hart_machine.proofs.machine.Machine.counts.Goals as goal

pub returns-clause-report : goal.returns-clause-report
returns-clause-report c w buffered = ap report_of c.counts.ensures ∙ report_is c.args.self.now w buffered.world
