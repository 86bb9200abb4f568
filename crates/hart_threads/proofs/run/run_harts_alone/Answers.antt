-- What the search left open of `run_harts_alone`.
use Rattle.std.proofs.Common.{refl}
use Rattle.hart_threads.proofs.run.run_harts_alone.Goals as goal

pub returns-clause-starts : goal.returns-clause-starts
returns-clause-starts g c = c.run_in.ensures.starts refl
