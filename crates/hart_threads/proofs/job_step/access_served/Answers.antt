use Rattle.hart_calls.specs.declared.fork_slot.ForkSlot.TheVariants as slot
use Rattle.hart_threads.proofs.Reaching.{free_over}
use Rattle.hart_threads.proofs.TokenSteps.{out_served}
use Rattle.hart_threads.proofs.job_step.access_served.Goals as goal

pub invariant_of-job : goal.invariant_of-job
invariant_of-job g c =
    let e = c.access_served.ensures in
    record {
      at = c.args.job.now.at;
      out = out_served _ _ _ _ _ c.args.job.now.out _ c.access_served.result e.made e.not_made (λ yes. free_over g.B.Plan.files _ (e.files yes) _ _ slot.NoSlot (e.made yes slot.NoSlot));
    }
