-- Lemmas for the steps `Fetch`, `Load` and `Store`: their refusals are the model's, and so are reply and world (the model's
-- state) of an access that is answered, or that faults and enters the kernel.
use Rattle.std.proofs.Common.{◌≡◌, ℕ, get_or, true, false, Option, None, Some, ap, sym, subst, ◌∙◌, inl, inr}
use Rattle.std.specs.Prelude.{slice_get}
use Rattle.std.specs.Vec.{with_item}
use Rattle.std.proofs.lemmas.Option.{get_or_from_slice_get}
use Rattle.process_model.specs.Bytes.{is_width}
use Rattle.process_model.specs.Harts as model
use Rattle.process_model.specs.Harts.{entry_serves}
use Rattle.process_model.specs.Process.{Process}
use Rattle.process_model.specs.Service.{access_step, Answer, AccessRequest, is_fault, access_outcome, access_outcome_if, user_access}
use Rattle.process_model.specs.World.{answers, StepOutcome, refuses, with_hart, with_process, World}
use Rattle.process_model.specs.declared.phase.Phase.{Phase}
use Rattle.process_model.specs.declared.phase.Phase.TheVariants as phase
use Rattle.process_model.specs.declared.reply.Refusal.TheVariants.{BadArgument, Impossible, NoEntry}
use Rattle.process_model.specs.declared.reply.Reply.{Reply}
use Rattle.process_model.specs.declared.reply.ScalarReply.TheVariants.{Fault, Refused}
use Rattle.process_model.specs.declared.reply.Reply.TheVariants.{Scalar}
use Rattle.sv39_entry.specs.declared.access.Access.{Access}
use Rattle.hart_machine.specs.Harts.{hart_of}
use Rattle.hart_machine.specs.Worlds.{IsWorldButBuffers, IsModelOutcome}
use Rattle.hart_machine.specs.declared.hart.Hart.{Hart}
use Rattle.hart_machine.specs.declared.machine.Machine.{Machine}
use Rattle.hart_machine.proofs.AccessingPages.{access_answers, IsAnswer}
use Rattle.hart_machine.proofs.HartSteps.{hart_changes, HasHart, impossible, improper, its_process, refused, runs, without_entry, without_hart}
use Rattle.hart_machine.proofs.Trapping.{user_has_slot}
use Rattle.hart_machine.proofs.Trapping.{user_is}

abbrev asks : Access → ℕ → ℕ → ℕ → AccessRequest
asks access a width value = record { access = access; address = a; width = width; value = value }

-- a fault enters the kernel, and any other answer does not
module _ (w : World) (h : ℕ) (hart : model.Hart) (s : ℕ) (x : Answer) where
  by_fault : (cause : ℕ) → x.reply ≡ Scalar (Fault cause) → access_outcome w h hart s x ≡ answers (with_hart (with_process w s x.process) h (record hart { phase = phase.Enter0 })) x.reply
  by_fault cause is = ap (access_outcome_if w h hart s x) (ap is_fault is)

  by_other : IsAnswer x.reply → ((cause : ℕ) → x.reply ≡ Scalar (Fault cause) → ⊥) → access_outcome w h hart s x ≡ answers (with_process w s x.process) x.reply
  by_other (inl fault) apart = absurd (apart fault.0 fault.1)
  by_other (inr (inl answer)) apart = ap (access_outcome_if w h hart s x) (ap is_fault answer.1)
  by_other (inr (inr stored)) apart = ap (access_outcome_if w h hart s x) (ap is_fault stored)

module _ (m : Machine) (w : World) (is : IsWorldButBuffers m w) (h : ℕ) (access : Access) (a width value : ℕ) (via : Option ℕ) where
  pub no_width : is_width width ≡ false → IsModelOutcome m (Scalar (Refused BadArgument)) (access_step w h access a width value via)
  no_width fails = refused m w is BadArgument _ (improper w h (is_width width) _ _ _ fails)

  pub nowhere : slice_get w.harts h ≡ None → IsModelOutcome m (Scalar (Refused BadArgument)) (access_step w h access a width value via)
  nowhere none = refused m w is BadArgument _ (without_hart w h _ _ _ _ none)

  module _ (p : Phase) (has : HasHart m w h p) (well : is_width width ≡ true) where
    pub no_user : model.is_user p ≡ false → IsModelOutcome m (Scalar (Refused (Impossible p))) (access_step w h access a width value via)
    no_user fails = refused m w is (Impossible p) _
        (impossible w h (is_width width) (λ x. model.is_user x.phase) _ _ (hart_of has.hart) has.in_model well (ap model.is_user has.phased ∙ fails) ∙ ap (λ q. refuses w (Impossible q)) has.phased)

    module _ (user : model.is_user p ≡ true) where
      can : model.is_user has.hart.phase ≡ true
      can = ap model.is_user has.phased ∙ user

      pub in_user : has.hart.phase ≡ phase.User
      in_user = has.phased ∙ user_is p user

      pub no_entry : (n : Machine) → IsWorldButBuffers n w → entry_serves m.policy (hart_of has.hart) a via ≡ false → IsModelOutcome n (Scalar (Refused NoEntry)) (access_step w h access a width value via)
      no_entry n after fails = refused n w after NoEntry _ (without_entry w h (is_width width) (λ x. model.is_user x.phase) (λ x. entry_serves w.policy x a via) _ (hart_of has.hart) has.in_model well can
          (ap (λ q. entry_serves q (hart_of has.hart) a via) (sym is.policy) ∙ fails))

      module _ (s : ℕ) (on : has.hart.slot ≡ Some s) (serves : entry_serves m.policy (hart_of has.hart) a via ≡ true) (q : Process) (at : slice_get w.slots s ≡ Some (Some q)) where
        abbrev comes : Answer
        comes = user_access q (asks access a width value)

        step_is : access_step w h access a width value via ≡ access_outcome w h (hart_of has.hart) s comes
        step_is = runs w h (is_width width) (λ x. model.is_user x.phase) (λ x. entry_serves w.policy x a via) _ (hart_of has.hart) has.in_model well can (ap (λ z. entry_serves z (hart_of has.hart) a via) (sym is.policy) ∙ serves)
            ∙ its_process w (hart_of has.hart) _ s q on at

        module _ (n : Machine) (same : n.harts ≡ m.harts) (r : Reply) (made : (r ≡ comes.reply) × IsWorldButBuffers n (with_process w s comes.process)) where
          pub answers_access : ((cause : ℕ) → r ≡ Scalar (Fault cause) → ⊥) → IsModelOutcome n r (access_step w h access a width value via)
          answers_access apart = subst (λ (o : StepOutcome). IsModelOutcome n r o)
              (sym (step_is ∙ by_other w h (hart_of has.hart) s comes (access_answers q (asks access a width value)) (λ cause fault. apart cause (made.0 ∙ fault)))) made

          pub faults_access : (cause : ℕ) → r ≡ Scalar (Fault cause) → (x : Hart) → x ≡ get_or n.harts.items h x
              → IsModelOutcome (record n { harts = with_item n.harts h (record x { phase = phase.Enter0 }) }) r (access_step w h access a width value via)
          faults_access cause fault x read =
              let after = made.1 in
              let there : slice_get n.harts.items h ≡ Some has.hart = ap (λ hs. slice_get hs.items h) same ∙ has.there in
              subst (λ (o : StepOutcome). IsModelOutcome (record n { harts = with_item n.harts h (record x { phase = phase.Enter0 }) }) r o) (sym (step_is ∙ by_fault w h (hart_of has.hart) s comes cause (sym made.0 ∙ fault))) (
                made.0,
                subst (λ (z : Hart). IsWorldButBuffers (record n { harts = with_item n.harts h (record z { phase = phase.Enter0 }) }) (with_hart (with_process w s comes.process) h (record (hart_of has.hart) { phase = phase.Enter0 })))
                    (sym (read ∙ get_or_from_slice_get n.harts.items h has.hart x there))
                    (hart_changes n _ after h has.hart (record has.hart { phase = phase.Enter0 }) there (λ k on. after.hosted h k has.hart there on) (λ r on k z at also. after.alone r k h z has.hart at there also on) (λ none. absurd (user_has_slot m w is h p has user none))
                    (λ e. after.local h has.hart e there)),
              )
