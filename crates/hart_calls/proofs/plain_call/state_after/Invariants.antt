use Rattle.hart_calls.specs.CallResults.{shortage_of}
use Rattle.hart_calls.specs.CallOutcomes.{call_outcome}
use Rattle.hart_calls.proofs.plain_call.state_after.Given as goal

-- the process that the model tells
abbrev pub ghost-begun : goal.ghost-begun
ghost-begun a = (call_outcome (a.from.now.before.value).files (shortage_of a.from.now.stopped a.from.now.call a.from.now.reply.value) 0 a.from.now.present.state a.from.now.call).process
