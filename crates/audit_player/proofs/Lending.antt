-- Lemmas: start and exec depend only on what their image loads, and CopyOut on its bytes' values, so a line that names a
-- borrowed image or bytes has the model's answer; a line whose steps' reply was appended has the model's text.
use Rattle.std.proofs.Common.{◌≡◌, ℕ, ◌<◌, ◌++◌, true, Bor, List, length, get_or, Option, Result, sym, ap, subst, ◌∙◌}
use Rattle.std.proofs.lemmas.Option.{slice_get-get_or}
use Rattle.std.specs.Prelude.{nat_le}
use Rattle.process_model.specs.Calls.{replaced, started, copy_out_outcome}
use Rattle.process_model.specs.Copies.{copied_out}
use Rattle.process_model.specs.Images.{LoadSegment, image_loads}
use Rattle.process_model.specs.Process.{without_pending}
use Rattle.process_model.specs.Service.{environment_of, initial_progress}
use Rattle.process_model.specs.Stale.{with_stale_slots}
use Rattle.process_model.specs.Steps.{step}
use Rattle.script_language.specs.Text.{lent, or_no_image, image_at, line_result, line_result_of}
use Rattle.script_language.specs.Words.{reply_text}
use Rattle.process_model.specs.World.{StepOutcome, World, free_slot, kernel_call}
use Rattle.process_model.specs.declared.image.BadImage.{BadImage}
use Rattle.process_model.specs.declared.image.Image.{Image}
use Rattle.script_language.specs.declared.declarations.OwnedImage.{OwnedImage}
use Rattle.script_language.specs.declared.script.Command.{Command}
use Rattle.process_model.specs.declared.reply.Reply.{Reply}
use Rattle.process_model.specs.declared.step.Step.{Step}
use Rattle.process_model.specs.declared.step.Step.TheVariants.{CopyOut, Exec, Start}
use Rattle.hart_machine.specs.declared.machine.Machine.{Machine}
use Rattle.audit_player.specs.LineOutcomes.{GivesOutcome, AppendsLine}
use Rattle.sv39_entry.specs.declared.scheme.Scheme.{Scheme}
use Rattle.process_model.specs.declared.limits.TheConstants.{LONGEST_COPY}

-- start and exec read nothing of an image but what is to be loaded

pub starts : (w : World) (a b : Image) → ((scheme : Scheme) → image_loads scheme a ≡ image_loads scheme b) → step w (Start a) ≡ step w (Start b)
unfolding step
starts w a b e = ap (λ (loads : Result (List LoadSegment) BadImage). with_stale_slots w.policy w (started w loads (free_slot w))) (e w.scheme)

pub execs : (w : World) (h : ℕ) (a b : Image) → ((scheme : Scheme) → image_loads scheme a ≡ image_loads scheme b) → step w (Exec h a) ≡ step w (Exec h b)
unfolding step
execs w h a b e = ap (λ (loads : Result (List LoadSegment) BadImage). with_stale_slots w.policy w (kernel_call w h true (λ hart s p. replaced w s p loads))) (e w.scheme)

-- a copy reads nothing of its bytes but what they are
pub copies : (w : World) (h address : ℕ) (a b : Bor (List ℕ)) → a.now ≡ b.now → step w (CopyOut h address a) ≡ step w (CopyOut h address b)
unfolding step
copies w h address a b e =
    ap (λ (bytes : List ℕ). with_stale_slots w.policy w (kernel_call w h (nat_le (length bytes) LONGEST_COPY)
    (λ hart s p. copy_out_outcome w s (copied_out (environment_of w s) (initial_progress w (without_pending p)) address bytes)))) e

-- the image that a line names
pub named : (images : List OwnedImage) (n : ℕ) (i : OwnedImage) → n < length images → i ≡ get_or images n i → lent i ≡ image_at images n
named images n i lt is = ap lent is ∙ ap (λ (o : Option OwnedImage). lent (or_no_image o)) (sym (slice_get-get_or images n i lt))

-- so its line answers what the step with it does
pub line_told : (m : Machine) (r : Reply) (images : List OwnedImage) (w : World) (step_of : Image → Step) (n : ℕ) (i : OwnedImage) (before after : List ℕ) → n < length images → i ≡ get_or images n i
    → GivesOutcome m r (step w (step_of (lent i))) → after ≡ before ++ reply_text r → AppendsLine m before after (line_result_of (step w (step_of (image_at images n))))
line_told m r images w step_of n i before after lt is made put =
    let there : GivesOutcome m r (step w (step_of (image_at images n))) = subst (λ (x : Image). GivesOutcome m r (step w (step_of x))) (named images n i lt is) made in
    (put ∙ ap (λ (x : Reply). before ++ reply_text x) there.0, there.1)

-- and the line of bytes what the step with them does
pub bytes_told : (m : Machine) (r : Reply) (w : World) (h address : ℕ) (given bytes before after : List ℕ) → given ≡ bytes
    → GivesOutcome m r (step w (CopyOut h address (record { ref_ptr = (0, 0); now = given }))) → after ≡ before ++ reply_text r
    → AppendsLine m before after (line_result_of (step w (CopyOut h address (record { ref_ptr = (0, 0); now = bytes }))))
bytes_told m r w h address given bytes before after is made put =
    let there : GivesOutcome m r (step w (CopyOut h address (record { ref_ptr = (0, 0); now = bytes }))) =
    subst (λ (b : List ℕ). GivesOutcome m r (step w (CopyOut h address (record { ref_ptr = (0, 0); now = b })))) is made in
    (put ∙ ap (λ (x : Reply). before ++ reply_text x) there.0, there.1)

-- steps of which the reply was put are told
pub told_by : (m : Machine) (r : Reply) (o : StepOutcome) (before after : List ℕ) → GivesOutcome m r o → after ≡ before ++ reply_text r → AppendsLine m before after (line_result_of o)
told_by m r o before after follows put = (put ∙ ap (λ (x : Reply). before ++ reply_text x) follows.0, follows.1)

-- a line of steps answers what they reply
pub steps_told : (m : Machine) (r : Reply) (images : List OwnedImage) (w : World) (o : StepOutcome) (c d : Command) (before after : List ℕ) → c ≡ d → line_result images w d ≡ line_result_of o → GivesOutcome m r o
    → after ≡ before ++ reply_text r → AppendsLine m before after (line_result images w c)
steps_told m r images w o c d before after is plays follows put = subst (AppendsLine m before after) (sym (ap (line_result images w) is ∙ plays)) (told_by m r o before after follows put)
