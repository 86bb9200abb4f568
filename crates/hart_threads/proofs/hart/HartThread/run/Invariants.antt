-- What `run` picks: its loop keeps the store at the table of the run.
use Rattle.std.proofs.Common.{◌≡◌}
use Rattle.hart_threads.proofs.hart.HartThread.run.Given as goal

abbrev pub invariant-turns : goal.invariant-turns
invariant-turns g l = l.store ≡ g.B.RunBrand.table
