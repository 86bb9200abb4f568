-- The `CallResult` (how a call in a space ended) of munmap and exec, of mmap and of sbrk, as functions of the Rust `Result`
-- that each of them returns.
use Rattle.std.specs.Prelude.{ℕ, Result, Ok, Err}
use Rattle.hart_calls.specs.declared.call_result.CallResult.{CallResult}
use Rattle.hart_calls.specs.declared.call_result.CallResult.TheVariants.{Answered}
use Rattle.lazy_growth.specs.SbrkResults.{refusal_of}
use Rattle.lazy_growth.specs.declared.size_error.SizeError.{SizeError}
use Rattle.process_model.specs.declared.reply.Refusal.{Refusal}
use Rattle.process_model.specs.declared.reply.ScalarReply.TheVariants as scalar
use Rattle.process_model.specs.declared.reply.Reply.TheVariants as reply

abbrev pub done_or_refused : Result (Unit {0}) Refusal → CallResult
done_or_refused (Ok u) = Answered (reply.Scalar scalar.Done)
done_or_refused (Err r) = Answered (reply.Scalar (scalar.Refused r))

abbrev pub mapped_or_refused : Result ℕ Refusal → CallResult
mapped_or_refused (Ok address) = Answered (reply.Scalar (scalar.MappedAt address))
mapped_or_refused (Err r) = Answered (reply.Scalar (scalar.Refused r))

abbrev pub size_or_refused : Result ℕ SizeError → CallResult
size_or_refused (Ok before) = Answered (reply.Scalar (scalar.OldSize before))
size_or_refused (Err e) = Answered (reply.Scalar (scalar.Refused (refusal_of e)))
