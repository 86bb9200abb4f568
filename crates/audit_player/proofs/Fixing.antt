-- Lemmas for the line `fix` (kernel entry, service of the fault, return to user mode): reply and world are the model's
-- `fixed` if an entry step is refused (`not_entered`), if the service does not reply Ready (`not_back`), and if it does
-- (`goes_back`).
use Rattle.std.proofs.Common.{◌≡◌, ℕ, Bool, true, false, refl, sym, ap, subst, ◌∙◌}
use Rattle.process_model.specs.ScalarReplies.{same_scalar}
use Rattle.process_model.specs.Steps.{step}
use Rattle.process_model.specs.Steps.{is_refused}
use Rattle.script_language.specs.Text.{after_service, back_if, fixed, fixed_after, is_ready, series_of, three_next}
use Rattle.process_model.specs.World.{World, StepOutcome}
use Rattle.process_model.specs.declared.reply.ScalarReply.{ScalarReply}
use Rattle.process_model.specs.declared.reply.ScalarReply.TheVariants as scalar
use Rattle.process_model.specs.declared.reply.Refusal.{Refusal}
use Rattle.process_model.specs.declared.reply.Reply.{Reply}
use Rattle.process_model.specs.declared.reply.Reply.TheVariants as reply
use Rattle.process_model.specs.declared.step.Step.TheVariants.{Serve}
use Rattle.hart_machine.specs.BufferEntries.{IsInWorld}
use Rattle.audit_player.specs.LineOutcomes.{GivesOutcome}
use Rattle.hart_machine.specs.declared.machine.Machine.{Machine}
use Rattle.audit_player.proofs.Runs.{not_refused}

not_ready : (r : Reply) → (r ≡ reply.Scalar scalar.Ready → ⊥) → is_ready r ≡ false
not_ready (reply.Scalar scalar.Done) h = refl
not_ready (reply.Scalar (scalar.Started s)) h = refl
not_ready (reply.Scalar (scalar.Forked s)) h = refl
not_ready (reply.Scalar (scalar.Value n)) h = refl
not_ready (reply.Scalar scalar.Stored) h = refl
not_ready (reply.Scalar (scalar.Fault n)) h = refl
not_ready (reply.Scalar (scalar.Filled n)) h = refl
not_ready (reply.Scalar scalar.NothingFilled) h = refl
not_ready (reply.Scalar (scalar.InFrame n)) h = refl
not_ready (reply.Scalar scalar.Ready) h = absurd (h refl)
not_ready (reply.Scalar (scalar.Ended r)) h = refl
not_ready (reply.Scalar (scalar.OldSize n)) h = refl
not_ready (reply.Scalar (scalar.MappedAt n)) h = refl
not_ready (reply.CopiedIn bytes) h = refl
not_ready (reply.Scalar (scalar.CopiedOut n)) h = refl
not_ready (reply.ShortIn r bytes) h = refl
not_ready (reply.Scalar (scalar.ShortOut r n)) h = refl
not_ready (reply.Scalar (scalar.Exited status)) h = refl
not_ready (reply.Scalar (scalar.Refused x)) h = refl

-- a reply without room for bytes that is not that an access will answer is not so with it
pub no_ready : (b : ScalarReply) → (b ≡ scalar.Ready → ⊥) → reply.Scalar b ≡ reply.Scalar scalar.Ready → ⊥
no_ready b apart e = apart (same_scalar b scalar.Ready e)

-- after a step the machine is in some world
pub in_world : (m : Machine) (r : Reply) (o : StepOutcome) → GivesOutcome m r o → (w : World) × IsInWorld m w
in_world m r o made = (o.world, made.1)

-- the steps into the kernel, and what the line comes to after them
module _ (w : World) (h : ℕ) where
  abbrev pub entry : StepOutcome
  entry = series_of w (three_next h) (reply.Scalar scalar.Done)

  abbrev pub service : StepOutcome
  service = step entry.world (Serve h)

  -- one of them is refused
  pub not_entered : (m : Machine) (r : Reply) (x : Refusal) → r ≡ reply.Scalar (scalar.Refused x) → GivesOutcome m r entry → GivesOutcome m r (fixed w h)
  not_entered m r x refused made = subst (λ (b : Bool). GivesOutcome m r (fixed_after h entry b)) (sym (ap is_refused (sym made.0 ∙ refused))) made

  entered : (m : Machine) (r : Reply) → ((x : Refusal) → r ≡ reply.Scalar (scalar.Refused x) → ⊥) → GivesOutcome m r entry → fixed w h ≡ after_service h service
  entered m r other made = ap (fixed_after h entry) (ap is_refused (sym made.0) ∙ not_refused r other)

  -- the access still does not answer
  pub not_back : (l m : Machine) (r s : Reply) → ((x : Refusal) → r ≡ reply.Scalar (scalar.Refused x) → ⊥) → (s ≡ reply.Scalar scalar.Ready → ⊥) → GivesOutcome l r entry → ((v : World) → IsInWorld l v → GivesOutcome m s (step v (Serve h))) → GivesOutcome m s (fixed w h)
  not_back l m r s other ends made serves =
      let served : GivesOutcome m s service = serves entry.world made.1 in
      let still : is_ready service.reply ≡ false = ap is_ready (sym served.0) ∙ not_ready s ends in
      subst (GivesOutcome m s) (sym (entered l r other made ∙ ap (back_if h service) still)) served

  -- it will answer, and the hart goes back
  pub goes_back : (l m n : Machine) (r s q : Reply) → ((x : Refusal) → r ≡ reply.Scalar (scalar.Refused x) → ⊥) → s ≡ reply.Scalar scalar.Ready → GivesOutcome l r entry → ((v : World) → IsInWorld l v → GivesOutcome m s (step v (Serve h)))
      → ((v : World) → IsInWorld m v → GivesOutcome n q (series_of v (three_next h) s)) → GivesOutcome n q (fixed w h)
  goes_back l m n r s q other ready made serves leaves =
      let served : GivesOutcome m s service = serves entry.world made.1 in
      let will : is_ready service.reply ≡ true = ap is_ready (sym served.0 ∙ ready) in
      let left : GivesOutcome n q (series_of service.world (three_next h) (reply.Scalar scalar.Ready)) = subst (λ (last : Reply). GivesOutcome n q (series_of service.world (three_next h) last)) ready (leaves service.world served.1) in
      subst (GivesOutcome n q) (sym (entered l r other made ∙ ap (back_if h service) will)) left
