use Rattle.hart_calls.proofs.tracked.Tracked.new.Given as goal

-- it is the process that it began with
abbrev pub ghost-begun : goal.ghost-begun
ghost-begun g a = a.from.now.state
