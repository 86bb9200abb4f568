-- What `turns` picks: its loops keep the store at the table of the run.
use Rattle.std.proofs.Common.{◌≡◌}
use Rattle.hart_threads.proofs.hart.HartThread.turns.Given as goal

abbrev pub invariant-turns : goal.invariant-turns
invariant-turns g l = l.store ≡ g.B.RunBrand.table

abbrev pub invariant-calls : goal.invariant-calls
invariant-calls g l = l.store ≡ g.B.RunBrand.table
