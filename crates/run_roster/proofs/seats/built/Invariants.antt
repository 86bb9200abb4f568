-- What `built` picks: the process that begins.
use Rattle.process_model.specs.ImageProcess.{process_of}
use Rattle.run_roster.proofs.seats.built.Given as goal

abbrev pub ghost-begun : goal.ghost-begun
ghost-begun g a = process_of a.from.now.scheme 0 a.from.now.loads
