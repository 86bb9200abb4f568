-- Predicates on a hart's step of a job (an unfinished process): before the call, it has no slot for a child (`IsNone`);
-- after it, if the process has ended, the roster (list of processes) can take its end with its voucher (`IsDue`).
use Rattle.hart_calls.specs.declared.run_brand.RunBrand.{Ghosts as RunBrand}
use Rattle.run_roster.specs.declared.plan.Plan.{Ghosts as Plan}
use Rattle.hart_calls.specs.declared.fork_slot.ForkSlot.{ForkSlot}
use Rattle.hart_calls.specs.declared.fork_slot.ForkSlot.TheVariants as slot
use Rattle.run_roster.specs.RosterState.{IsEndedWithToken}
use Rattle.vouchers.specs.IssuerSeats.{held_of}
use Rattle.hart_threads.specs.declared.job_step.JobStep.{JobStep}
use Rattle.hart_threads.specs.declared.job_step.JobStep.TheVariants as step

-- no slot is free for the call, for whichever reason
abbrev pub IsNone : ForkSlot → Type 0
IsNone (slot.Free name place) = ⊥
IsNone s = Unit {0}

-- if the process has ended, the roster takes its end with the voucher that it had
abbrev pub IsDue : {X : Type 0} {plan : Plan X} {room : RunBrand X} → JobStep X plan room → Type 0
IsDue (step.Continues job) = Unit {0}
IsDue {plan} {room} (step.Over gone) = IsEndedWithToken room.table plan.files plan.lists plan.plan (held_of gone.token) gone.finished
