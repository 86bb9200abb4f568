-- `jobs_of`: the jobs (unfinished processes) of a queue in order, each by what its voucher holds.
use Rattle.std.specs.Prelude.{List, [], ◌∷◌}
use Rattle.hart_calls.specs.declared.run_brand.RunBrand.{Ghosts as RunBrand}
use Rattle.run_roster.specs.declared.job_queue.JobQueue.{JobQueue}
use Rattle.run_roster.specs.declared.plan.Plan.{Ghosts as Plan}
use Rattle.run_roster.specs.declared.queued_job.QueuedJob.{QueuedJob}
use Rattle.vouchers.specs.Entries.{TokenEntry as Life}
use Rattle.vouchers.specs.IssuerSeats.{held_of}

abbrev pub waiting : {X : Type 0} {plan : Plan X} {room : RunBrand X} → List (QueuedJob X plan room) → List (List Life)
waiting [] = []
waiting (q ∷ qs) = held_of q.token ∷ waiting qs

abbrev pub jobs_of : {X : Type 0} {plan : Plan X} {room : RunBrand X} → JobQueue X plan room → List (List Life)
jobs_of queue = waiting queue.jobs.items
