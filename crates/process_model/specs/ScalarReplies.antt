-- Replies that carry no bytes, and which steps have only such replies: all but CopyIn.
use Rattle.std.proofs.Common.{◌≡◌, ℕ, Bool, true, false, Option, None, Some, refl, ap}
use Rattle.std.proofs.lemmas.Option.{same_Some}
use Rattle.process_model.specs.declared.reply.ScalarReply.{ScalarReply}
use Rattle.process_model.specs.declared.reply.Reply.{Reply}
use Rattle.process_model.specs.declared.reply.Reply.TheVariants as reply
use Rattle.process_model.specs.declared.step.Step.{Step}
use Rattle.process_model.specs.declared.step.Step.TheVariants as step

-- the `ScalarReply` that a reply is; None for the two that carry bytes
abbrev pub scalar_of_reply : Reply → Option ScalarReply
scalar_of_reply (reply.Scalar r) = Some r
scalar_of_reply (reply.CopiedIn bytes) = None
scalar_of_reply (reply.ShortIn rule bytes) = None

-- replies that carry no bytes are equal if they are one `Reply`
pub same_scalar : (a b : ScalarReply) → reply.Scalar a ≡ reply.Scalar b → a ≡ b
same_scalar a b e = same_Some a b (ap scalar_of_reply e)

-- whether no reply to the step carries bytes: all steps but CopyIn
abbrev pub is_scalar : Step → Bool
is_scalar (step.CopyIn h address n) = false
is_scalar s = true

pub is_scalar_step : (s : Step) → ((h address n : ℕ) → s ≡ step.CopyIn h address n → ⊥) → is_scalar s ≡ true
is_scalar_step (step.Start image) apart = refl
is_scalar_step (step.Switch h slot) apart = refl
is_scalar_step (step.Trap h) apart = refl
is_scalar_step (step.Next h) apart = refl
is_scalar_step (step.Fill h address) apart = refl
is_scalar_step (step.Evict h n) apart = refl
is_scalar_step (step.Fetch h address via) apart = refl
is_scalar_step (step.Load h address width via) apart = refl
is_scalar_step (step.Store h address width value via) apart = refl
is_scalar_step (step.TrampolineFetch h offset via) apart = refl
is_scalar_step (step.Serve h) apart = refl
is_scalar_step (step.Fork h) apart = refl
is_scalar_step (step.Exec h image) apart = refl
is_scalar_step (step.Sbrk h delta) apart = refl
is_scalar_step (step.Mmap h len protection flags n) apart = refl
is_scalar_step (step.Munmap h address len) apart = refl
is_scalar_step (step.CopyIn h address n) apart = absurd (apart h address n refl)
is_scalar_step (step.CopyOut h address bytes) apart = refl
is_scalar_step (step.Exit h status) apart = refl
