-- A lemma (`no_fault`) on replies that carry no bytes: one that is not `Fault` is none as a reply of the model either.
use Rattle.std.proofs.Common.{◌≡◌, ℕ}
use Rattle.process_model.specs.ScalarReplies.{same_scalar}
use Rattle.process_model.specs.declared.reply.ScalarReply.{ScalarReply}
use Rattle.process_model.specs.declared.reply.ScalarReply.TheVariants as scalar
use Rattle.process_model.specs.declared.reply.Reply.TheVariants as reply

-- one that is no fault is none as a reply
pub no_fault : (b : ScalarReply) → ((cause : ℕ) → b ≡ scalar.Fault cause → ⊥) → (cause : ℕ) → reply.Scalar b ≡ reply.Scalar (scalar.Fault cause) → ⊥
no_fault b apart cause e = apart cause (same_scalar b (scalar.Fault cause) e)
