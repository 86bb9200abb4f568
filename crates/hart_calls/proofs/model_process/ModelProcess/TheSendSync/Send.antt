-- `ModelProcess` may go to any thread: it has no bytes.
use denote.Param.Send.{IsSend, owning_send, sendable}
use Rattle.hart_calls.specs.contracts.model_process.ModelProcess.{the_row, the_type}

pub send : IsSend the_row
send = owning_send the_type (search sendable, tt) (λ d. tt) (λ k x w. tt)
