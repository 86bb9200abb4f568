use Rattle.hart_calls.proofs.model_process.ModelProcess.kept.Given as goal

-- the process that contracts see
abbrev pub ghost-begun : goal.ghost-begun
ghost-begun a = a.from.now.state
