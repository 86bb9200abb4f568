-- Lemmas about a user access and its service, if they are made (not refused): granted, with its page resident, the access is
-- answered; granted, its service replies Ready and makes the page resident, or ends the process by NoFrame; not granted, its
-- service ends the process by the first rule that forbids it.
use Rattle.std.proofs.Common.{◌≡◌, ◌⊎◌, ℕ, Bool, true, false, ◌+◌, inl, inr, refl, sym, ap, subst, ◌∙◌, List, Option, None, Some}
use Rattle.std.specs.Prelude.{Result, Ok, slice_get}
use Rattle.std.proofs.lemmas.Option.{same_Some}
use Rattle.process_laws.proofs.Earlier.{answered_is_first}
use Rattle.process_laws.proofs.Granting.{granted_by, IsSound, sound_grants}
use Rattle.process_laws.proofs.OnHarts.{asks}
use Rattle.process_laws.proofs.Running.{has_it, process_runs, ran_on, set_lives, step_process, step_reply, was_made}
use Rattle.process_laws.proofs.Standing.{made_stands}
use Rattle.process_laws.specs.Words.{UserAccess, IsAccessStep, Forbids, IsAnswer, IsResident, IsGranted, IsMade, IsOnHart, with_pending_access}
use Rattle.process_model.proofs.ResidenceLaws.{made_settles}
use Rattle.process_model.specs.Environment.{is_shared_page, Progress, resident_at_address, resident_at, unless_dry, unless_resident}
use Rattle.process_model.specs.Bytes.{is_width}
use Rattle.process_model.specs.Files.{File}
use Rattle.process_model.specs.Harts.{Hart, entry_serves, is_user}
use Rattle.process_model.specs.Process.{Page, Pending, Process, regions}
use Rattle.process_model.specs.Regions.{first_rule}
use Rattle.process_model.specs.Residence.{access_answer, is_resident, is_resident_page, made_resident, made_resident_from, region_on, taken_over_unless}
use Rattle.process_model.specs.Service.{access_step, Answer, environment_of, initial_progress, if_resident, if_settled, is_fault, served, served_or_ended, access_outcome, access_outcome_if, unless_denied, user_access, with_served}
use Rattle.process_model.specs.Service as service
use Rattle.process_model.specs.Steps.{plain_step, step}
use Rattle.process_model.specs.World.{always, can_serve, StepOutcome, process_in, with_its_process, World}
use Rattle.process_model.specs.declared.reply.ScalarReply.TheVariants.{Ended, Ready}
use Rattle.process_model.specs.declared.reply.Reply.TheVariants.{Scalar}
use Rattle.process_model.specs.declared.step.Step.{Step}
use Rattle.process_model.specs.declared.step.Step.TheVariants.{Serve}
use Rattle.sv39_entry.specs.Address.{page_of}
use Rattle.sv39_entry.specs.declared.access.Access.{Access}
use Rattle.sv39_entry.specs.declared.access.Access.TheVariants as access
use Rattle.sv39_entry.specs.declared.rule.Rule.{Rule}
use Rattle.sv39_entry.specs.declared.rule.Rule.TheVariants.{NoFrame}

-- ---- accesses

answer_is : (access : Access) (page : Page) (offset width value : ℕ) → IsAnswer access (access_answer access page offset width value).0
answer_is access.Fetch page offset width value = IsAnswer.fetched
answer_is access.Load page offset width value = IsAnswer.loaded
answer_is access.Store page offset width value = IsAnswer.stored

-- the reply is that of the process, and so is the process
pub told_reply : (w : World) (h : ℕ) (hart : Hart) (s : ℕ) (x : Answer) (b : Bool) → (access_outcome_if w h hart s x b).reply ≡ x.reply
told_reply w h hart s x true = refl
told_reply w h hart s x false = refl

-- what an access ran
pub record UserRan (w : World) (h s : ℕ) (p : Process) (access : Access) (address width value : ℕ) (o : StepOutcome) : Type 0 where
  pub hart : Hart
  pub there : slice_get w.harts h ≡ Some hart
  pub is : o ≡ access_outcome w h hart s (user_access p (asks access address width value))

pub user_ran : (w : World) (h s : ℕ) (p : Process) (access : Access) (address width value : ℕ) (via : Option ℕ) → IsOnHart w h s p
    → IsMade (access_step w h access address width value via).reply → UserRan w h s p access address width value (access_step w h access address width value via)
user_ran w h s p access address width value via on n =
    let run = λ (hart : Hart) (s : ℕ) (p : Process). access_outcome w h hart s (user_access p (asks access address width value)) in
    let r = ran_on w h (is_width width) (λ hart. is_user hart.phase) (λ hart. entry_serves w.policy hart address via) (λ hart. with_its_process w hart (run hart)) n in
    record { hart = r.hart; there = r.there; is = r.is ∙ process_runs w r.hart (run r.hart) s p (has_it w h s r.hart on.there r.there) on.lives }

-- ---- service

abbrev pub fault_of : UserAccess → Pending
fault_of a = record { access = a.access; address = a.address; width = a.width; served = false }

pub record ServeRan (w : World) (h s : ℕ) (p : Process) (a : UserAccess) (o : StepOutcome) : Type 0 where
  pub hart : Hart
  pub is : o ≡ served w h hart s (with_pending_access p a) (Some (fault_of a))

pub serve_ran : (w : World) (h s : ℕ) (p : Process) (a : UserAccess) → IsOnHart w h s (with_pending_access p a) → IsMade (plain_step w (Serve h)).reply → ServeRan w h s p a (plain_step w (Serve h))
serve_ran w h s p a on n =
    let r = ran_on w h true (can_serve w) always (λ hart. with_its_process w hart (λ s p. served w h hart s p p.pending)) n in
    record { hart = r.hart; is = r.is ∙ process_runs w r.hart (λ s p. served w h r.hart s p p.pending) s (with_pending_access p a) (has_it w h s r.hart on.there r.there) on.lives }

-- to wait changes no region
pub same_grant : (p : Process) (a : UserAccess) → IsGranted p a → IsGranted (with_pending_access p a) a
same_grant p a g = record { region = g.region; has = g.has; right = g.right; aligned = g.aligned }

back_grant : (p : Process) (a : UserAccess) → IsGranted (with_pending_access p a) a → IsGranted p a
back_grant p a g = record { region = g.region; has = g.has; right = g.right; aligned = g.aligned }

-- a page that is made resident changes no region
same_unless : (fresh : ℕ) (shared : Bool) (p : Process) (page : ℕ) (x : Page) (b : Bool) → regions (taken_over_unless fresh shared p page x b) ≡ regions p
same_unless fresh shared p page x true = refl
same_unless fresh shared p page x false = refl

pub same_from : (files : List File) (fresh : ℕ) (shared : Bool) (p : Process) (access : Access) (page : ℕ) (o : Option Page) → regions (made_resident_from files fresh shared p access page o) ≡ regions p
same_from files fresh shared p access page None = refl
same_from files fresh shared p access page (Some x) = same_unless fresh shared p page x _

-- the access of this process was granted, and its page stands
pub record IsReady (p : Process) (a : UserAccess) : Type 0 where
  pub granted : first_rule p.scheme (regions p) a.access a.address a.width ≡ None
  pub resident : is_resident p a.access (page_of a.address) ≡ true

-- a service makes the access ready, or finds too few frames; and if it made it ready, the page stands
record Serves (w : World) (h s : ℕ) (hart : Hart) (p : Process) (a : UserAccess) (r : Result Progress Rule) : Type 0 where
  says : ((served_or_ended w h hart s p (fault_of a) r).reply ≡ Scalar Ready) ⊎ ((served_or_ended w h hart s p (fault_of a) r).reply ≡ Scalar (Ended NoFrame))
  ready : (q : Process) → (served_or_ended w h hart s p (fault_of a) r).reply ≡ Scalar Ready → process_in (served_or_ended w h hart s p (fault_of a) r).world s ≡ Some q → IsReady q a

module _ (w : World) (h s : ℕ) (p : Process) (hart : Hart) (a : UserAccess) (lives : process_in w s ≡ Some p) where
  abbrev page : ℕ
  page = page_of a.address

  module _ (none : first_rule p.scheme (regions p) a.access a.address a.width ≡ None) where
    ok_serves : (g : Progress) → regions g.process ≡ regions p → g.process.scheme ≡ p.scheme → is_resident g.process a.access page ≡ true → Serves w h s hart p a (Ok g)
    ok_serves g same alike resident = record {
      says = inl refl;
      ready = λ q e there.
          let is : (with_served g (fault_of a)).process ≡ q = same_Some _ q (sym (set_lives w.slots s p ((with_served g (fault_of a)).process) lives) ∙ there) in
          subst (λ (z : Process). IsReady z a) is (record { granted = ap (λ rs. first_rule g.process.scheme rs a.access a.address a.width) same ∙ ap (λ z. first_rule z (regions p) a.access a.address a.width) alike ∙ none; resident = resident });
    }

    dry_serves : (need : ℕ) (b : Bool) → Serves w h s hart p a (unless_dry (environment_of w s) a.access page (initial_progress w p) need b)
    dry_serves need true = record { says = inr refl; ready = λ q e there. absurd cc }
    dry_serves need false =
        let shared = is_shared_page (environment_of w s) p page in
        ok_serves (record { process = made_resident w.files w.counter shared p a.access page; fresh = w.counter + 1; taken = 0 + need })
        (same_from w.files w.counter shared p a.access page _) (made_settles w.files w.counter shared a.access page p).scheme (made_stands w.files w.counter shared p a.access page)

    resident_serves : (b : Bool) → is_resident p a.access page ≡ b → Serves w h s hart p a (unless_resident (environment_of w s) a.access page (initial_progress w p) b)
    resident_serves true e = ok_serves (initial_progress w p) refl refl e
    resident_serves false e = dry_serves _ _

    page_serves : Serves w h s hart p a (resident_at (environment_of w s) a.access page (initial_progress w p))
    unfolding resident_at
    page_serves = resident_serves _ refl

  rule_serves : (o : Option Rule) → o ≡ None → first_rule p.scheme (regions p) a.access a.address a.width ≡ o → Serves w h s hart p a (resident_at_address (environment_of w s) a.access a.address (initial_progress w p) o)
  rule_serves None e is = page_serves is
  rule_serves (Some r) e is = absurd cc

  rule_ends : (o : Option Rule) → first_rule p.scheme (regions p) a.access a.address a.width ≡ o → (IsGranted p a → ⊥)
      → (rule : Rule) × ((served_or_ended w h hart s p (fault_of a) (resident_at_address (environment_of w s) a.access a.address (initial_progress w p) o)).reply ≡ Scalar (Ended rule)) × Forbids p a rule
  rule_ends None e not = absurd (not (granted_by p a e))
  rule_ends (Some r) e not = (r, refl, answered_is_first p.scheme (regions p) a.access a.address a.width r e)

pub serves : (w : World) → ((s : ℕ) (p : Process) → process_in w s ≡ Some p → IsSound p) → (h s : ℕ) (p : Process) (a : UserAccess) → IsOnHart w h s (with_pending_access p a) → IsMade (step w (Serve h)).reply → IsGranted p a
    → (((step w (Serve h)).reply ≡ Scalar Ready) × ((q : Process) → process_in (step w (Serve h)).world s ≡ Some q → IsResident q a)) ⊎ ((step w (Serve h)).reply ≡ Scalar (Ended NoFrame))
serves w sound h s p a on n g =
    let r = serve_ran w h s p a on (was_made w (Serve h) n) in
    let k = rule_serves w h s (with_pending_access p a) r.hart a on.lives _ (sound_grants (with_pending_access p a) a (sound s (with_pending_access p a) on.lives) (same_grant p a g)) refl in
    let reply : (step w (Serve h)).reply ≡ (served w h r.hart s (with_pending_access p a) (Some (fault_of a))).reply = step_reply w (Serve h) ∙ ap (λ (o : StepOutcome). o.reply) r.is in
    elim k.says [
      | inl ready ↦ inl (reply ∙ ready, λ q there. (k.ready q ready (sym (ap (λ (o : StepOutcome). process_in o.world s) r.is) ∙ sym (step_process w (Serve h) s) ∙ there)).resident)
      | inr dry ↦ inr (reply ∙ dry)
    ]

pub ends : (w : World) (h s : ℕ) (p : Process) (a : UserAccess) → IsOnHart w h s (with_pending_access p a) → IsMade (step w (Serve h)).reply → (IsGranted p a → ⊥)
    → (rule : Rule) × ((step w (Serve h)).reply ≡ Scalar (Ended rule)) × Forbids p a rule
ends w h s p a on n not =
    let r = serve_ran w h s p a on (was_made w (Serve h) n) in
    let e = rule_ends w h s (with_pending_access p a) r.hart a on.lives _ refl (λ g. not (back_grant p a g)) in
    (e.0, step_reply w (Serve h) ∙ ap (λ (o : StepOutcome). o.reply) r.is ∙ e.1, e.2)

-- ---- the access again

answers_resident : (p : Process) (a : service.AccessRequest) (page : Page) (b : Bool) → b ≡ true → IsAnswer a.access (if_resident p a page b).reply
answers_resident p a page true e = answer_is a.access page _ a.width a.value
answers_resident p a page false e = absurd cc

answers_settled : (p : Process) (a : service.AccessRequest) (o : Option Page) → is_resident_page a.access (region_on p (page_of a.address)) o ≡ true → IsAnswer a.access (if_settled p a o).reply
answers_settled p a None e = absurd cc
answers_settled p a (Some page) e = answers_resident p a page _ e

answers_granted : (p : Process) (a : service.AccessRequest) (o : Option Rule) → o ≡ None → is_resident p a.access (page_of a.address) ≡ true → IsAnswer a.access (unless_denied p a o).reply
answers_granted p a (Some r) e t = absurd cc
answers_granted p a None e t = answers_settled p a _ t

answers_access : (v : World) (k s : ℕ) (q : Process) (access : Access) (address width value : ℕ) (via : Option ℕ) → IsOnHart v k s q → IsMade (access_step v k access address width value via).reply
    → IsReady q (record { access = access; address = address; width = width }) → IsAnswer access (access_step v k access address width value via).reply
answers_access v k s q access address width value via on n ready =
    let r = user_ran v k s q access address width value via on n in
    let x : Answer = user_access q (asks access address width value) in
    subst (IsAnswer access) (sym (ap (λ (o : StepOutcome). o.reply) r.is ∙ told_reply v k r.hart s x (is_fault x.reply))) (answers_granted q (asks access address width value) _ ready.granted ready.resident)

answers_plain : (v : World) (k s : ℕ) (q : Process) (a : UserAccess) (via : Option ℕ) (x : Step) → IsOnHart v k s q → IsAccessStep k via a x → IsMade (plain_step v x).reply → IsReady q a → IsAnswer a.access (plain_step v x).reply
answers_plain v k s q a via x on (IsAccessStep.fetch {address}) n = answers_access v k s q access.Fetch address 4 0 via on n
answers_plain v k s q a via x on (IsAccessStep.load {address} {width}) n = answers_access v k s q access.Load address width 0 via on n
answers_plain v k s q a via x on (IsAccessStep.store {address} {width} {value}) n = answers_access v k s q access.Store address width value via on n

pub answers : (w : World) → ((s : ℕ) (p : Process) → process_in w s ≡ Some p → IsSound p) → (h s : ℕ) (p : Process) (a : UserAccess) (via : Option ℕ) (x : Step) → IsOnHart w h s p → IsAccessStep h via a x → IsMade (step w x).reply
    → IsGranted p a → IsResident p a → IsAnswer a.access (step w x).reply
answers w sound h s p a via x on asked n g hand =
    subst (IsAnswer a.access) (sym (step_reply w x)) (answers_plain w h s p a via x on asked (was_made w x n) (record { granted = sound_grants p a (sound s p on.lives) g; resident = hand }))
