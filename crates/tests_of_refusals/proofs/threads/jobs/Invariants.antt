use Rattle.std.proofs.Common.{All}
use Rattle.tests_of_refusals.specs.Ready.{IsReady}
use Rattle.tests_of_refusals.proofs.threads.jobs.Given as goal

abbrev pub invariant-children : goal.invariant-children
invariant-children g l = record {
  ready : IsReady l.frames.table l.parent;
  jobs : All (λ job. IsReady l.frames.table job.space) l.jobs.items;
}
