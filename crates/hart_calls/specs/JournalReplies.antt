-- The model's reply that a journal's form of a reply stands for: as it is kept (`kept_reply`) and as it is read
-- (`stored_reply`); the pages that an entry keeps (`kept_pages`).
use Rattle.std.specs.Prelude.{List, []}
use Rattle.hart_calls.specs.declared.journal_entry.KeptPages.{KeptPages}
use Rattle.hart_calls.specs.declared.journal_entry.KeptPages.TheVariants as pages
use Rattle.process_model.specs.PageMoves.{PageMove}
use Rattle.hart_calls.specs.declared.journal_reply.Kept.{Kept}
use Rattle.hart_calls.specs.declared.journal_reply.Kept.TheVariants as kept
use Rattle.hart_calls.specs.declared.journal_reply.StoredReply.{StoredReply}
use Rattle.hart_calls.specs.declared.journal_reply.StoredReply.TheVariants as stored
use Rattle.process_model.specs.declared.reply.Reply.{Reply}
use Rattle.process_model.specs.declared.reply.ScalarReply.TheVariants as scalar
use Rattle.process_model.specs.declared.reply.Reply.TheVariants as reply

abbrev pub kept_reply : Kept → Reply
kept_reply kept.Done = reply.Scalar scalar.Done
kept_reply (kept.Started slot) = reply.Scalar (scalar.Started slot)
kept_reply (kept.Forked slot) = reply.Scalar (scalar.Forked slot)
kept_reply (kept.Value value) = reply.Scalar (scalar.Value value)
kept_reply kept.Stored = reply.Scalar scalar.Stored
kept_reply (kept.Fault cause) = reply.Scalar (scalar.Fault cause)
kept_reply (kept.Filled entry) = reply.Scalar (scalar.Filled entry)
kept_reply kept.NothingFilled = reply.Scalar scalar.NothingFilled
kept_reply (kept.InFrame frame) = reply.Scalar (scalar.InFrame frame)
kept_reply kept.Ready = reply.Scalar scalar.Ready
kept_reply (kept.Ended rule) = reply.Scalar (scalar.Ended rule)
kept_reply (kept.OldSize size) = reply.Scalar (scalar.OldSize size)
kept_reply (kept.MappedAt address) = reply.Scalar (scalar.MappedAt address)
kept_reply (kept.CopiedOut count) = reply.Scalar (scalar.CopiedOut count)
kept_reply (kept.ShortOut rule count) = reply.Scalar (scalar.ShortOut rule count)
kept_reply (kept.Exited status) = reply.Scalar (scalar.Exited status)
kept_reply (kept.Refused refusal) = reply.Scalar (scalar.Refused refusal)
kept_reply (kept.Long b) = b.value

abbrev pub stored_reply : StoredReply → Reply
stored_reply (stored.Scalar b) = reply.Scalar b
stored_reply (stored.Long b) = b.now

abbrev pub kept_pages : KeptPages → List PageMove
kept_pages pages.None = []
kept_pages (pages.Some b) = b.value.items
