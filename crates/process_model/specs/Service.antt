-- User accesses (`user_access`): which are answered, which fault, with what cause. The service of a fault by the kernel: the
-- page is made resident, or the process ends by a rule (`served`). Also the end of a process (`ended`, exit too), and what
-- the service or a kernel copy gets from outside the process (`environment_of`).
use Rattle.std.specs.Prelude.{ℕ, Bool, true, false, ◌%◌, nat_lt, Option, None, Some, Result, Ok, Err}
use Rattle.process_model.specs.Environment.{Environment, Progress, resident_at_address}
use Rattle.process_model.specs.Bytes.{is_width}
use Rattle.process_model.specs.PageMap.{get}
use Rattle.process_model.specs.Regions.{first_rule, fault_cause}
use Rattle.process_model.specs.Process.{Process, Page, Pending, regions, without_pending}
use Rattle.process_model.specs.Residence.{can_complete, region_on, with_page, access_answer}
use Rattle.process_model.specs.Mappings.{all_written_back}
use Rattle.process_model.specs.Harts.{Hart, is_user, entry_serves}
use Rattle.process_model.specs.World.{World, StepOutcome, answers, refuses, free, with_process, without_process, with_hart, others_have}
use Rattle.process_model.specs.World.{on_hart, with_its_process}
use Rattle.sv39_entry.specs.Address.{page_of}
use Rattle.sv39_entry.specs.Causes.{page_fault_cause}
use Rattle.sv39_entry.specs.declared.access.Access.{Access}
use Rattle.sv39_entry.specs.declared.rule.Rule.{Rule}
use Rattle.process_model.specs.declared.phase.Phase.TheVariants.{Idle, Enter0}
use Rattle.process_model.specs.declared.reply.Refusal.TheVariants.{Impossible}
use Rattle.process_model.specs.declared.reply.Reply.{Reply}
use Rattle.process_model.specs.declared.reply.ScalarReply.TheVariants.{Fault, Ready, Ended}
use Rattle.process_model.specs.declared.reply.Reply.TheVariants.{Scalar}

-- user accesses (the standard, 4.1.8 and 4.3.2, gives the causes; the xv6 book, "Page-fault exceptions")

-- a user access: its kind, its address, its width in bytes and, for a store, the value
pub record AccessRequest : Type 0 where
  pub access : Access
  pub address : ℕ
  pub width : ℕ
  pub value : ℕ

-- the result of a user access: the reply, and the process after it
pub record Answer : Type 0 where
  pub reply : Reply
  pub process : Process

abbrev pub pending_of : AccessRequest → Pending
pending_of a = record { access = a.access; address = a.address; width = a.width; served = false }

-- the access is pending, and nothing else of the process changes
abbrev pub faulted : Process → AccessRequest → ℕ → Answer
faulted p a cause = record { reply = Scalar (Fault cause); process = record p { pending = Some (pending_of a) } }

abbrev pub answered : Process → AccessRequest → Reply × Page → Answer
answered p a x = record { reply = x.0; process = without_pending (with_page p (page_of a.address) x.1) }

-- the answer of an access whose page is resident for it, else a page fault
abbrev pub if_resident : Process → AccessRequest → Page → Bool → Answer
if_resident p a page true = answered p a (access_answer a.access page (a.address % 4096) a.width a.value)
if_resident p a page false = faulted p a (page_fault_cause a.access)

abbrev pub if_settled : Process → AccessRequest → Option Page → Answer
if_settled p a None = faulted p a (page_fault_cause a.access)
if_settled p a (Some page) = if_resident p a page (can_complete a.access (region_on p (page_of a.address)) page)

abbrev pub unless_denied : Process → AccessRequest → Option Rule → Answer
unless_denied p a (Some r) = faulted p a (fault_cause a.access r)
unless_denied p a None = if_settled p a (get p.settled (page_of a.address))

-- a user access: a fault if a rule denies it or its page is not resident for it, else its answer
abbrev pub user_access : Process → AccessRequest → Answer
user_access p a = unless_denied p a (first_rule p.scheme (regions p) a.access a.address a.width)

abbrev pub is_fault : Reply → Bool
is_fault (Scalar (Fault cause)) = true
is_fault _ = false

-- after a fault the hart is in Enter0, before kernel entry
abbrev pub access_outcome_if : World → ℕ → Hart → ℕ → Answer → Bool → StepOutcome
access_outcome_if w h hart s x true = answers (with_hart (with_process w s x.process) h (record hart { phase = Enter0 })) x.reply
access_outcome_if w h hart s x false = answers (with_process w s x.process) x.reply

abbrev pub access_outcome : World → ℕ → Hart → ℕ → Answer → StepOutcome
access_outcome w h hart s x = access_outcome_if w h hart s x (is_fault x.reply)

abbrev pub access_step : World → ℕ → Access → ℕ → ℕ → ℕ → Option ℕ → StepOutcome
access_step w h access address width value via =
    on_hart w h (is_width width) (λ hart. is_user hart.phase) (λ hart. entry_serves w.policy hart address via)
    (λ hart. with_its_process w hart (λ s p. access_outcome w h hart s (user_access p (record {
      access = access;
      address = address;
      width = width;
      value = value;
    }))))

-- making pages of a process resident, in the service of a fault and in a kernel copy

-- dry: more frames are needed than are free
abbrev pub is_dry : World → ℕ → Bool
is_dry w need = nat_lt (free w) need

-- the environment of the process in slot s
abbrev pub environment_of : World → ℕ → Environment
environment_of w s = record { files = w.files; others_have = others_have w s; is_dry = λ page total. is_dry w total }

abbrev pub initial_progress : World → Process → Progress
initial_progress w p = record { process = p; fresh = w.counter; taken = 0 }

abbrev pub with_progress : World → ℕ → Progress → World
with_progress w s g = record (with_process w s g.process) { counter = g.fresh }

-- the service of a fault (the xv6 book, "Page-fault exceptions")

-- the process ends: its mappings are written back, its slot is empty and its hart idle
abbrev pub ended : World → ℕ → Hart → ℕ → Process → Reply → StepOutcome
ended w h hart s p reply =
    answers (with_hart (record (without_process w s) { files = all_written_back w.files p }) h (record hart { phase = Idle; slot = None })) reply

abbrev pub with_served : Progress → Pending → Progress
with_served g a = record g { process = record g.process { pending = Some (record a { served = true }) } }

abbrev pub served_or_ended : World → ℕ → Hart → ℕ → Process → Pending → Result Progress Rule → StepOutcome
served_or_ended w h hart s p a (Err r) = ended w h hart s p (Scalar (Ended r))
served_or_ended w h hart s p a (Ok g) = answers (with_progress w s (with_served g a)) (Scalar Ready)

-- Serve: a denied access ends the process with the first rule that denies it; the page of a granted one is made resident, or
-- the process ends with NoFrame. Impossible if no access is pending
abbrev pub served : World → ℕ → Hart → ℕ → Process → Option Pending → StepOutcome
served w h hart s p None = refuses w (Impossible hart.phase)
served w h hart s p (Some a) =
    served_or_ended w h hart s p a
    (resident_at_address (environment_of w s) a.access a.address (initial_progress w p) (first_rule p.scheme (regions p) a.access a.address a.width))
