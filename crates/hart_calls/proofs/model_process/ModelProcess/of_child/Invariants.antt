use Rattle.process_model.specs.Residence.{child_of}
use Rattle.hart_calls.proofs.model_process.ModelProcess.of_child.Given as goal

-- the process that contracts see
abbrev pub ghost-begun : goal.ghost-begun
ghost-begun a = child_of a.from.now.state
