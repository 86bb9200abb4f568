-- Start and the kernel calls exec, fork, sbrk, mmap, munmap, copyin and copyout as changes of the world (the model's whole
-- state), each with its reply, or refused with the world unchanged. The exit is in Service.
use Rattle.std.specs.Prelude.{ℕ, Bool, true, false, ◌+◌, ◌*◌, Option, None, Some, Result, Ok, Err, List, length}
use Rattle.process_model.specs.Process.{Process, without_pending}
use Rattle.process_model.specs.Residence.{marked, child_of}
use Rattle.process_model.specs.Mappings.{Mapped, Unmapped, all_written_back}
use Rattle.process_model.specs.Images.{LoadSegment}
use Rattle.process_model.specs.ImageProcess.{image_pages, process_of}
use Rattle.process_model.specs.Frames.{start_need, exec_need, fork_need}
use Rattle.process_model.specs.Copies.{Copied, in_reply, out_reply}
use Rattle.process_model.specs.Service.{is_dry, with_progress}
use Rattle.process_model.specs.World.{World, StepOutcome, answers, refuses, with_process}
use Rattle.process_model.specs.declared.image.BadImage.{BadImage}
use Rattle.process_model.specs.declared.reply.Refusal.{Refusal}
use Rattle.process_model.specs.declared.reply.Refusal.TheVariants as refusal
use Rattle.process_model.specs.declared.reply.ScalarReply.TheVariants.{Done, Started, Forked, OldSize, MappedAt}
use Rattle.process_model.specs.declared.reply.Reply.TheVariants.{Scalar}

-- the world with the process of an image in slot s; its pages take their copy numbers from the counter
abbrev pub with_image : World → ℕ → List LoadSegment → World
with_image w s ls = record (with_process w s (process_of w.scheme w.counter ls)) { counter = w.counter + length (image_pages ls) }

-- start: refused with NoSlot, BadImage or NoFrame, the first that applies in this order

abbrev pub started_unless : World → ℕ → List LoadSegment → Bool → StepOutcome
started_unless w s ls true = refuses w refusal.NoFrame
started_unless w s ls false = answers (with_image w s ls) (Scalar (Started s))

abbrev pub started_as : World → ℕ → Result (List LoadSegment) BadImage → StepOutcome
started_as w s (Err e) = refuses w (refusal.BadImage e)
started_as w s (Ok ls) = started_unless w s ls (is_dry w (start_need w.scheme ls))

abbrev pub started : World → Result (List LoadSegment) BadImage → Option ℕ → StepOutcome
started w image None = refuses w refusal.NoSlot
started w image (Some s) = started_as w s image

-- exec (the xv6 book, "Code: exec"): refused with BadImage or NoFrame, the first that applies in this order. The frames of
-- the old process do not count as free; its mappings are written back

abbrev pub replaced_unless : World → ℕ → Process → List LoadSegment → Bool → StepOutcome
replaced_unless w s p ls true = refuses w refusal.NoFrame
replaced_unless w s p ls false = answers (record (with_image w s ls) { files = all_written_back w.files p }) (Scalar Done)

abbrev pub replaced : World → ℕ → Process → Result (List LoadSegment) BadImage → StepOutcome
replaced w s p (Err e) = refuses w (refusal.BadImage e)
replaced w s p (Ok ls) = replaced_unless w s p ls (is_dry w (exec_need w.scheme ls))

-- fork: refused with NoSlot or NoFrame, the first that applies in this order. No frame has more sharers than there are
-- slots, so the model never refuses with SharersFull

abbrev pub forked_unless : World → ℕ → Process → ℕ → Bool → StepOutcome
forked_unless w s p child true = refuses w refusal.NoFrame
forked_unless w s p child false = answers (with_process (with_process w s (marked p)) child (child_of p)) (Scalar (Forked child))

abbrev pub forked : World → ℕ → Process → Option ℕ → StepOutcome
forked w s p None = refuses w refusal.NoSlot
forked w s p (Some child) = forked_unless w s p child (is_dry w (fork_need p))

-- sbrk, mmap, munmap: the pending access is dropped if the call is not refused

abbrev pub resized_to : World → ℕ → Process → Result Process Refusal → StepOutcome
resized_to w s p (Err r) = refuses w r
resized_to w s p (Ok after) = answers (with_process w s (without_pending after)) (Scalar (OldSize p.size))

abbrev pub mapped_to : World → ℕ → Result Mapped Refusal → StepOutcome
mapped_to w s (Err r) = refuses w r
mapped_to w s (Ok m) = answers (with_process w s (without_pending m.process)) (Scalar (MappedAt (4096 * m.first)))

abbrev pub unmapped_to : World → ℕ → Result Unmapped Refusal → StepOutcome
unmapped_to w s (Err r) = refuses w r
unmapped_to w s (Ok u) = answers (record (with_process w s (without_pending u.process)) { files = u.files }) (Scalar Done)

-- kernel copies

abbrev pub copy_in_outcome : World → ℕ → Copied → StepOutcome
copy_in_outcome w s c = answers (with_progress w s c.progress) (in_reply c.bytes c.stop)

abbrev pub copy_out_outcome : World → ℕ → Copied → StepOutcome
copy_out_outcome w s c = answers (with_progress w s c.progress) (out_reply c.bytes c.stop)
