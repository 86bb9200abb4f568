use Rattle.process_model.specs.Residence.{marked}
use Rattle.hart_calls.proofs.model_process.ModelProcess.after_fork.Given as goal

-- the process that contracts see
abbrev pub ghost-begun : goal.ghost-begun
ghost-begun a = marked a.from.now.state
