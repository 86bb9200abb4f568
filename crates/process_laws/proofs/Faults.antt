-- Lemma: a user access that is made (not refused) but not granted, or whose page is not resident, faults with its own cause,
-- and leaves the process waiting for service and its hart at the first instruction of kernel entry.
use Rattle.std.proofs.Common.{◌≡◌, ℕ, Bool, true, false, cond, ◌%◌, refl, sym, ap, subst, ◌∙◌, Option, None, Some}
use Rattle.std.proofs.lemmas.Bool.{eq-eqb, eqb-true}
use Rattle.std.proofs.lemmas.Option.{same_Some}
use Rattle.process_laws.proofs.Earlier.{answered_is_first}
use Rattle.process_laws.proofs.Going.{At, put_at, step_at}
use Rattle.process_laws.proofs.Granting.{granted_by}
use Rattle.process_laws.proofs.OnHarts.{asks}
use Rattle.process_laws.proofs.Running.{has_it, set_lives, step_process, step_reply, was_made}
use Rattle.process_laws.proofs.Users.{user_ran}
use Rattle.process_laws.specs.Words.{UserAccess, IsAccessStep, cause, IsResident, IsGranted, IsInPhase, IsMade, IsOnHart, with_pending_access}
use Rattle.process_model.specs.Harts.{Hart}
use Rattle.process_model.specs.PageMap.{get}
use Rattle.process_model.specs.Process.{Page, Process, regions}
use Rattle.process_model.specs.Regions.{copy_rule, fault_cause, first_rule, is_aligned}
use Rattle.process_model.specs.Residence.{can_complete, is_resident, is_resident_page, region_on}
use Rattle.process_model.specs.Service.{access_step, faulted, if_resident, if_settled, access_outcome, unless_denied, user_access}
use Rattle.process_model.specs.Service as service
use Rattle.process_model.specs.Steps.{plain_step, step}
use Rattle.process_model.specs.World.{StepOutcome, process_in, with_process, World}
use Rattle.process_model.specs.declared.phase.Phase.TheVariants.{Enter0}
use Rattle.process_model.specs.declared.reply.ScalarReply.TheVariants.{Fault}
use Rattle.process_model.specs.declared.reply.Reply.TheVariants.{Scalar}
use Rattle.process_model.specs.declared.step.Step.{Step}
use Rattle.sv39_entry.specs.Address.{page_of}
use Rattle.sv39_entry.specs.Causes.{misaligned_cause, page_fault_cause}
use Rattle.sv39_entry.specs.declared.access.Access.{Access}
use Rattle.sv39_entry.specs.declared.access.Access.TheVariants as access
use Rattle.sv39_entry.specs.declared.rule.Rule.{Rule}
use Rattle.sv39_entry.specs.declared.rule.Rule.TheVariants as rule

-- the cause

other_cause : (kind : Access) (r : Rule) → (r ≡ rule.Misaligned → ⊥) → fault_cause kind r ≡ page_fault_cause kind
other_cause kind rule.Misaligned other = absurd (other refl)
other_cause kind rule.BeyondMax other = refl
other_cause kind rule.KernelPage other = refl
other_cause kind rule.GuardPage other = refl
other_cause kind rule.NoRegion other = refl
other_cause kind rule.NoRead other = refl
other_cause kind rule.NoWrite other = refl
other_cause kind rule.NoExec other = refl
other_cause kind rule.NoFrame other = refl

abbrev cause_if : Access → Bool → ℕ
cause_if kind b = cond b (page_fault_cause kind) (misaligned_cause kind)

module _ (p : Process) (kind : Access) (address width value : ℕ) where
  abbrev what : UserAccess
  what = record { access = kind; address = address; width = width }

  abbrev it : service.AccessRequest
  it = asks kind address width value

  denied_cause : (r : Rule) → first_rule p.scheme (regions p) kind address width ≡ Some r → fault_cause kind r ≡ cause what
  denied_cause r e = by (is_aligned address width) refl
    where
      by : (b : Bool) → is_aligned address width ≡ b → fault_cause kind r ≡ cause what
      by true is =
          let fits : address % width ≡ 0 = eqb-true (address % width) 0 is in
          other_cause kind r (λ same. (answered_is_first p.scheme (regions p) kind address width rule.Misaligned (e ∙ ap Some same)).denies fits) ∙ ap (cause_if kind) (sym is)
      by false is =
          let same : rule.Misaligned ≡ r = same_Some rule.Misaligned r (sym (ap (λ b. cond b (copy_rule p.scheme (regions p) kind address) (Some rule.Misaligned)) is) ∙ e) in
          ap (fault_cause kind) (sym same) ∙ ap (cause_if kind) (sym is)

  granted_cause : IsGranted p what → page_fault_cause kind ≡ cause what
  granted_cause g = ap (cause_if kind) (sym (eq-eqb (address % width) 0 g.aligned))

  faults_resident : (page : Page) (b : Bool) → b ≡ false → if_resident p it page b ≡ faulted p it (page_fault_cause kind)
  faults_resident page true e = absurd cc
  faults_resident page false e = refl

  faults_settled : (o : Option Page) → is_resident_page kind (region_on p (page_of address)) o ≡ false → if_settled p it o ≡ faulted p it (page_fault_cause kind)
  faults_settled None e = refl
  faults_settled (Some page) e = faults_resident page (can_complete kind (region_on p (page_of address)) page) e

  module _ (not : IsGranted p what → IsResident p what → ⊥) where
    absent : IsGranted p what → (b : Bool) → is_resident p kind (page_of address) ≡ b → b ≡ false
    absent g true is = absurd (not g is)
    absent g false is = refl

    faults_unless : (o : Option Rule) → first_rule p.scheme (regions p) kind address width ≡ o → unless_denied p it o ≡ faulted p it (cause what)
    faults_unless (Some r) e = ap (faulted p it) (denied_cause r e)
    faults_unless None e =
        let g = granted_by p what e in
        faults_settled (get p.settled (page_of address)) (absent g (is_resident p kind (page_of address)) refl) ∙ ap (faulted p it) (granted_cause g)

    faults_user : user_access p it ≡ faulted p it (cause what)
    faults_user = faults_unless (first_rule p.scheme (regions p) kind address width) refl

-- what the world is then

abbrev Faulted : World → ℕ → ℕ → Process → UserAccess → Step → Type 0
Faulted w h s p a x = ((step w x).reply ≡ Scalar (Fault (cause a))) × IsOnHart (step w x).world h s (with_pending_access p a) × IsInPhase (step w x).world h Enter0

module _ (w : World) (h s : ℕ) (p : Process) (on : IsOnHart w h s p) (x : Step) where
  faults_as : (kind : Access) (address width value : ℕ) (via : Option ℕ) → plain_step w x ≡ access_step w h kind address width value via → IsMade (plain_step w x).reply
      → let a : UserAccess = record { access = kind; address = address; width = width } in (IsGranted p a → IsResident p a → ⊥) → Faulted w h s p a x
  faults_as kind address width value via same made not =
      let a : UserAccess = record { access = kind; address = address; width = width } in
      let r = user_ran w h s p kind address width value via on (subst (λ (o : StepOutcome). IsMade o.reply) same made) in
      let hart : Hart = record r.hart { phase = Enter0 } in
      let v : World = with_process w s (with_pending_access p a) in
      let is : plain_step w x ≡ access_outcome w h r.hart s (faulted p (asks kind address width value) (cause a)) = same ∙ r.is ∙ ap (access_outcome w h r.hart s) (faults_user p kind address width value not) in
      let at : At (access_outcome w h r.hart s (faulted p (asks kind address width value) (cause a))).world h hart.slot Enter0 = put_at v h r.hart hart r.there in
      let there = step_at w x h hart.slot Enter0 (subst (λ (o : StepOutcome). At o.world h hart.slot Enter0) (sym is) at) in
      let lives : process_in (step w x).world s ≡ Some (with_pending_access p a) = step_process w x s ∙ ap (λ (o : StepOutcome). process_in o.world s) is ∙ set_lives w.slots s p (with_pending_access p a) on.lives in
      (step_reply w x ∙ ap (λ (o : StepOutcome). o.reply) is, record { there = there.on ∙ has_it w h s r.hart on.there r.there; lives = lives }, there.is_in)

faults_plain : (w : World) (h s : ℕ) (p : Process) (a : UserAccess) (via : Option ℕ) (x : Step) → IsOnHart w h s p → IsAccessStep h via a x → IsMade (plain_step w x).reply → (IsGranted p a → IsResident p a → ⊥) → Faulted w h s p a x
faults_plain w h s p a via x on (IsAccessStep.fetch {address}) made not = faults_as w h s p on x access.Fetch address 4 0 via refl made not
faults_plain w h s p a via x on (IsAccessStep.load {address} {width}) made not = faults_as w h s p on x access.Load address width 0 via refl made not
faults_plain w h s p a via x on (IsAccessStep.store {address} {width} {value}) made not = faults_as w h s p on x access.Store address width value via refl made not

pub faults : (w : World) (h s : ℕ) (p : Process) (a : UserAccess) (via : Option ℕ) (x : Step) → IsOnHart w h s p → IsAccessStep h via a x → IsMade (step w x).reply → (IsGranted p a → IsResident p a → ⊥)
    → ((step w x).reply ≡ Scalar (Fault (cause a))) × IsOnHart (step w x).world h s (with_pending_access p a) × IsInPhase (step w x).world h Enter0
faults w h s p a via x on asked made not = faults_plain w h s p a via x on asked (was_made w x made) not
