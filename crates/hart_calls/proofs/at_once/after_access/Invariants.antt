use Rattle.address_space.specs.Accesses.{request_of}
use Rattle.process_model.specs.Service.{user_access}
use Rattle.hart_calls.proofs.at_once.after_access.Given as goal

-- the process that the model tells
abbrev pub ghost-begun : goal.ghost-begun
ghost-begun a = (user_access a.from.now.present.state (request_of a.from.now.request)).process
