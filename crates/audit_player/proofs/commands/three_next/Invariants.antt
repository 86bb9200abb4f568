use Rattle.std.proofs.Common.{drop}
use Rattle.hart_machine.specs.BufferEntries.{IsInWorld}
use Rattle.process_model.specs.declared.reply.Reply.TheVariants.{Scalar}
use Rattle.script_language.specs.Text.{series_of, three_next}
use Rattle.process_model.specs.World.{World}
use Rattle.audit_player.proofs.Runs.{Leads}
use Rattle.audit_player.proofs.commands.three_next.Given as goal

abbrev pub invariant-instructions : goal.invariant-instructions
invariant-instructions l = (w : World) → IsInWorld l.fn.machine w → Leads l.machine (drop l.counter (three_next l.hart)) (Scalar l.reply) (series_of w (three_next l.hart) (Scalar l.reply))
