-- Lemmas for the step `Trap`: a hart in user mode has a process, and refusal, reply and world (the model's state) are the
-- model's (`traps`).
use Rattle.std.proofs.Common.{◌≡◌, ℕ, get_or, true, false, Option, None, Some, refl, ap, sym, subst, ◌∙◌}
use Rattle.std.specs.Prelude.{option_and_then, slice_get}
use Rattle.std.specs.Vec.{with_item}
use Rattle.process_model.specs.Harts as model
use Rattle.process_model.specs.Steps.{plain_step}
use Rattle.process_model.specs.World.{World, always, refuses}
use Rattle.process_model.specs.declared.phase.Phase.{Phase}
use Rattle.process_model.specs.declared.phase.Phase.TheVariants as phase
use Rattle.process_model.specs.declared.reply.Refusal.TheVariants.{Impossible}
use Rattle.process_model.specs.declared.reply.ScalarReply.TheVariants.{Done, Refused}
use Rattle.process_model.specs.declared.reply.Reply.TheVariants.{Scalar}
use Rattle.process_model.specs.declared.step.Step.TheVariants as step
use Rattle.hart_machine.specs.Harts.{hart_of}
use Rattle.hart_machine.specs.Worlds.{IsWorldButBuffers, IsModelOutcome}
use Rattle.hart_machine.specs.declared.hart.Hart.{Hart}
use Rattle.hart_machine.specs.declared.machine.Machine.{Machine}
use Rattle.hart_machine.specs.declared.slot_process.SlotProcess.{SlotProcess}
use Rattle.hart_machine.proofs.HartSteps.{hart_changes, hart_read, HasHart, impossible, its_process, makes, process_at, refused, runs, tenant_at}
use Rattle.hart_machine.proofs.ProcessSteps.{nothing_pending}

pub user_is : (p : Phase) → model.is_user p ≡ true → p ≡ phase.User
user_is phase.User e = refl
user_is phase.Idle e = absurd (cc)
user_is phase.Enter0 e = absurd (cc)
user_is phase.Enter1 e = absurd (cc)
user_is phase.Enter2 e = absurd (cc)
user_is phase.Kernel e = absurd (cc)
user_is phase.Leave1 e = absurd (cc)
user_is phase.Leave2 e = absurd (cc)

module _ (m : Machine) (w : World) (is : IsWorldButBuffers m w) (h : ℕ) (p : Phase) (has : HasHart m w h p) where
  pub slot_there : (o : Option ℕ) → o ≡ option_and_then (λ x. x.slot) (slice_get m.harts.items h) → has.hart.slot ≡ o
  slot_there o e = sym (e ∙ ap (option_and_then (λ (x : Hart). x.slot)) has.there)

  -- a hart that runs the user has a process
  pub user_has_slot : model.is_user p ≡ true → has.hart.slot ≡ None → ⊥
  user_has_slot user none = let idle = is.idle h has.hart has.there none in let both : phase.User ≡ phase.Idle = sym (user_is p user) ∙ sym has.phased ∙ idle in cc

  pub user_tenant : (s : ℕ) → has.hart.slot ≡ Some s → (x : SlotProcess) × (slice_get m.slots.items s ≡ Some (Some x))
  user_tenant s on = is.hosted h s has.hart has.there on

  pub trap_refused : model.is_user p ≡ false → IsModelOutcome m (Scalar (Refused (Impossible p))) (plain_step w (step.Trap h))
  trap_refused fails = refused m w is (Impossible p) _
      (impossible w h true (λ x. model.is_user x.phase) always _ (hart_of has.hart) has.in_model refl (ap model.is_user has.phased ∙ fails) ∙ ap (λ q. refuses w (Impossible q)) has.phased)

  module _ (s : ℕ) (on : has.hart.slot ≡ Some s) (user : model.is_user p ≡ true) where
    pub traps : (n : Machine) (x : Hart) → ((t : SlotProcess) → slice_get m.slots.items s ≡ Some (Some t) → n ≡ record m { slots = with_item m.slots s (Some (record t { pending = None })) })
        → x ≡ get_or n.harts.items h x → IsModelOutcome (record n { harts = with_item n.harts h (record x { phase = phase.Enter0 }) }) (Scalar Done) (plain_step w (step.Trap h))
    traps n x made read =
        let t = user_tenant s on in
        let q = process_at m w is s t.0 t.1 in
        let n_is = made t.0 t.1 in
        let x_is : x ≡ has.hart = hart_read m w is h p has x (read ∙ ap (λ (k : Machine). get_or k.harts.items h x) n_is) in
        let after = nothing_pending m w is s t.0 q.0 t.1 q.1 q.2 in
        subst (λ (k : Machine). IsModelOutcome (record k { harts = with_item k.harts h (record x { phase = phase.Enter0 }) }) (Scalar Done) (plain_step w (step.Trap h))) (sym n_is)
        (subst (λ (z : Hart). IsModelOutcome (record m { slots = with_item m.slots s (Some (record t.0 { pending = None })); harts = with_item m.harts h (record z { phase = phase.Enter0 }) }) (Scalar Done) (plain_step w (step.Trap h))) (sym x_is)
        (makes _ (Scalar Done) _ _ (hart_changes _ _ after h has.hart (record has.hart { phase = phase.Enter0 }) has.there (λ r at. after.hosted h r has.hart has.there at) (λ r on k z at also. after.alone r k h z has.hart at has.there also on) (λ none. absurd (user_has_slot user none)) (λ e. after.local h has.hart e has.there))
        (runs w h true (λ z. model.is_user z.phase) always _ (hart_of has.hart) has.in_model refl (ap model.is_user has.phased ∙ user) refl ∙ its_process w (hart_of has.hart) _ s q.0 on q.1)))

-- a process that is in a world is there in each machine that is in the world
pub still_there : (m n : Machine) (w : World) → IsWorldButBuffers m w → IsWorldButBuffers n w → (s : ℕ) (x : SlotProcess) → slice_get m.slots.items s ≡ Some (Some x)
    → (y : SlotProcess) × (slice_get n.slots.items s ≡ Some (Some y))
still_there m n w is after s x at = let p = process_at m w is s x at in tenant_at n w after s (rw p.1 refl)
