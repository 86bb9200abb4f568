-- What `run_harts_alone` picks: the `RunBrand` of the run, and its `Plan`.
use Rattle.std.proofs.Common.{length}
use Rattle.hart_threads.proofs.run.run_harts_alone.Given as goal

abbrev pub ghosts-run_in-B-RunBrand : goal.ghosts-run_in-B-RunBrand
ghosts-run_in-B-RunBrand g a = record { table = a.frames.now.table; token_table = a.token_table.now; starts = length a.starts.now }

abbrev pub ghosts-run_in-B-Plan : goal.ghosts-run_in-B-Plan
ghosts-run_in-B-Plan g a = record { lists = a.lists.now; plan = a.starts.now; files = g.W.RunFiles.files }
