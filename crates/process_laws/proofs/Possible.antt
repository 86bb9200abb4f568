-- Lemmas: the hart that is in a phase (`Stands`); what a kernel call runs if the kernel may be called (`call_runs`); and that
-- the outcomes of user accesses, services and kernel copies are no refusals.
use Rattle.std.proofs.Common.{◌≡◌, ℕ, Bool, true, false, refl, sym, ◌∙◌, Option, None, Some, List}
use Rattle.std.specs.Prelude.{option_map, Result, Ok, Err, slice_get}
use Rattle.std.proofs.lemmas.Option.{same_Some}
use Rattle.process_laws.proofs.Running.{has_it, hart_runs, process_runs}
use Rattle.process_laws.specs.Words.{IsInPhase, IsMade, IsOnHart}
use Rattle.process_model.specs.Environment.{Progress}
use Rattle.process_model.specs.Copies.{in_reply, out_reply}
use Rattle.process_model.specs.Harts.{Hart}
use Rattle.process_model.specs.Process.{Page, Pending, Process}
use Rattle.process_model.specs.Residence.{access_answer}
use Rattle.process_model.specs.Service.{if_resident, if_settled, served_or_ended, unless_denied}
use Rattle.process_model.specs.Service as service
use Rattle.process_model.specs.World.{always, can_call, is_unserved_access, kernel_call, StepOutcome, with_its_process, World}
use Rattle.process_model.specs.declared.phase.Phase.{Phase}
use Rattle.process_model.specs.declared.phase.Phase.TheVariants.{Kernel}
use Rattle.process_model.specs.declared.reply.Reply.{Reply}
use Rattle.sv39_entry.specs.declared.access.Access.{Access}
use Rattle.sv39_entry.specs.declared.access.Access.TheVariants as access
use Rattle.sv39_entry.specs.declared.rule.Rule.{Rule}

-- the hart that is in a phase
pub record Stands (w : World) (h : ℕ) (phase : Phase) : Type 0 where
  pub hart : Hart
  pub there : slice_get w.harts h ≡ Some hart
  pub in_phase : hart.phase ≡ phase

pub stands : (w : World) (h : ℕ) (phase : Phase) → IsInPhase w h phase → Stands w h phase
stands w h phase e = by (slice_get w.harts h) refl e
  where
    by : (o : Option Hart) → slice_get w.harts h ≡ o → option_map (λ (hart : Hart). hart.phase) o ≡ Some phase → Stands w h phase
    by None there is = absurd cc
    by (Some hart) there is = record { hart = hart; there = there; in_phase = same_Some _ _ is }

pub same_made : (r t : Reply) → r ≡ t → IsMade t → IsMade r
same_made r t e made x f = made x (sym e ∙ f)

-- ---- accesses

answer_made : (kind : Access) (page : Page) (offset width value : ℕ) → IsMade (access_answer kind page offset width value).0
answer_made access.Fetch page offset width value e f = absurd cc
answer_made access.Load page offset width value e f = absurd cc
answer_made access.Store page offset width value e f = absurd cc

resident_made : (p : Process) (a : service.AccessRequest) (page : Page) (b : Bool) → IsMade (if_resident p a page b).reply
resident_made p a page true = answer_made a.access page _ a.width a.value
resident_made p a page false = λ e f. absurd cc

settled_made : (p : Process) (a : service.AccessRequest) (o : Option Page) → IsMade (if_settled p a o).reply
settled_made p a None = λ e f. absurd cc
settled_made p a (Some page) = resident_made p a page _

pub denied_made : (p : Process) (a : service.AccessRequest) (o : Option Rule) → IsMade (unless_denied p a o).reply
denied_made p a (Some r) = λ e f. absurd cc
denied_made p a None = settled_made p a _

-- ---- service

pub served_made : (w : World) (h : ℕ) (hart : Hart) (s : ℕ) (p : Process) (a : Pending) (r : Result Progress Rule) → IsMade (served_or_ended w h hart s p a r).reply
served_made w h hart s p a (Err r) = λ e f. absurd cc
served_made w h hart s p a (Ok g) = λ e f. absurd cc

-- ---- calls

-- what a call runs, where it is proper
pub call_runs : (w : World) (h s : ℕ) (p : Process) (proper : Bool) (run : Hart → ℕ → Process → StepOutcome) → proper ≡ true → IsOnHart w h s p → is_unserved_access p.pending ≡ false → IsInPhase w h Kernel
    → (hart : Hart) × (kernel_call w h proper run ≡ run hart s p)
call_runs w h s p proper run fits on quiet kernel =
    let k = stands w h Kernel kernel in
    let runs = has_it w h s k.hart on.there k.there in
    let can : can_call w k.hart ≡ true = rw (k.in_phase, runs, on.lives, quiet) refl in
    (k.hart, hart_runs w h proper (can_call w) always (λ hart. with_its_process w hart (run hart)) k.hart k.there fits can refl ∙ process_runs w k.hart (run k.hart) s p runs on.lives)

pub in_made : (bytes : List ℕ) (o : Option Rule) → IsMade (in_reply bytes o)
in_made bytes None = λ e f. absurd cc
in_made bytes (Some r) = λ e f. absurd cc

pub out_made : (bytes : List ℕ) (o : Option Rule) → IsMade (out_reply bytes o)
out_made bytes None = λ e f. absurd cc
out_made bytes (Some r) = λ e f. absurd cc
