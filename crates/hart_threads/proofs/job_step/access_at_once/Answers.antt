-- What the search left open of `access_at_once`.
use Rattle.hart_calls.specs.declared.fork_slot.ForkSlot.TheVariants as slot
use Rattle.hart_threads.proofs.Reaching.{kept_over, reached_first, unused}
use Rattle.hart_threads.proofs.TokenSteps.{out_at_once}
use Rattle.hart_threads.proofs.job_step.access_at_once.Goals as goal

pub invariant_of-job : goal.invariant_of-job
invariant_of-job g c =
    let e = c.access_at_once.ensures in
    let files = g.B.Plan.files in
    record {
      at = c.args.job.now.at;
      out = out_at_once _ _ _ _ _ c.args.job.now.out _ c.access_at_once.result e.made e.not_made (λ yes. let went = e.made yes slot.NoSlot in kept_over files _ _ (unused files) (unused files) went.entry (reached_first files) (e.files yes (unused files)) went.adds);
    }
