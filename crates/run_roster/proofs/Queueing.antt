-- Lemma: one job (unfinished process) more at the end of a queue, by the vouchers (`waiting_push`).
use Rattle.std.proofs.Common.{◌≡◌, List, [], ◌∷◌, ◌++◌, refl, ap}
use Rattle.hart_calls.specs.declared.run_brand.RunBrand.{Ghosts as RunBrand}
use Rattle.run_roster.specs.Queues.{waiting}
use Rattle.run_roster.specs.declared.queued_job.QueuedJob.{QueuedJob}
use Rattle.run_roster.specs.declared.plan.Plan.{Ghosts as Plan}
use Rattle.vouchers.specs.Entries.{TokenEntry as Life}
use Rattle.vouchers.specs.IssuerSeats.{held_of}

pub waiting_push : {X : Type 0} {plan : Plan X} {room : RunBrand X} → (qs : List (QueuedJob X plan room)) (q : QueuedJob X plan room) → waiting (qs ++ q ∷ []) ≡ waiting qs ++ held_of q.token ∷ []
waiting_push [] q = refl
waiting_push (x ∷ qs) q = ap (λ (hs : List (List Life)). held_of x.token ∷ hs) (waiting_push qs q)
