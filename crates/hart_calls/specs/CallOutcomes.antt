-- The model's outcome of one call of a process, for each kind of call (`call_outcome`: reply, process and files after it),
-- from the files before it and its shortage (what it needed and did not get); the pages that it reads from files
-- (`reads_of`) and writes to them (`writes_of`); whether an mmap's file may be written (`file_of`).
use Rattle.std.specs.Prelude.{ℕ, ◌*◌, ◌+◌, Bool, true, false, nat_le, nat_lt, Option, None, option_map, slice_get, Result, Ok, Err, List}
use Rattle.std.specs.Prelude.{[], length, map, flat_map, take, if◌then◌else◌}
use Rattle.fault_rules.specs.Serves.{served_moves}
use Rattle.hart_calls.specs.Shortages.{initial_progress, nothing, refused, call_environment, Shortage}
use Rattle.mmap_regions.specs.MunmapEffect.{unmap_moves}
use Rattle.process_model.specs.Environment.{Progress, resident_at_address}
use Rattle.process_model.specs.Bytes.{is_width}
use Rattle.process_model.specs.Copies.{Copied, copied_in, copied_out, in_reply, out_reply}
use Rattle.process_model.specs.Files.{File}
use Rattle.process_model.specs.Heap.{sbrk_result}
use Rattle.process_model.specs.Images.{image_loads, LoadSegment}
use Rattle.process_model.specs.ImageProcess.{process_of}
use Rattle.process_model.specs.Mappings.{all_written_back, Mapped, mapped, Unmapped, unmapped}
use Rattle.process_model.specs.PageMoves.{all_moves, PageMove}
use Rattle.process_model.specs.Process.{Process, regions}
use Rattle.process_model.specs.Regions.{copy_rule, first_rule}
use Rattle.process_model.specs.Residence.{marked}
use Rattle.process_model.specs.Service.{AccessRequest, user_access}
use Rattle.process_model.specs.declared.call.Call.{Call}
use Rattle.process_model.specs.declared.call.Call.TheVariants as call
use Rattle.process_model.specs.declared.image.BadImage.{BadImage}
use Rattle.process_model.specs.declared.reply.Refusal.{Refusal}
use Rattle.process_model.specs.declared.reply.Refusal.TheVariants as refusal
use Rattle.process_model.specs.declared.reply.Reply.{Reply}
use Rattle.process_model.specs.declared.reply.ScalarReply.TheVariants as scalar
use Rattle.process_model.specs.declared.reply.Reply.TheVariants as reply
use Rattle.sv39_entry.specs.Address.{page_of}
use Rattle.sv39_entry.specs.declared.access.Access.{Access}
use Rattle.sv39_entry.specs.declared.access.Access.TheVariants.{Fetch, Load, Store}
use Rattle.sv39_entry.specs.declared.rule.Rule.{Rule}
use Rattle.user_copy.specs.Runs.{runs, runs_of}
use Rattle.process_model.specs.declared.limits.TheConstants.{LONGEST_COPY}

-- the reply, and the process and the files after the call. If the call ends the process, `process` is that before the call
pub record CallOutcome : Type 0 where
  pub reply : Reply
  pub process : Process
  pub files : List File

abbrev pub refused_call : List File → Process → Refusal → CallOutcome
refused_call files p r = record { reply = reply.Scalar (scalar.Refused r); process = p; files = files }

-- user accesses: a page that is not resident is made resident within the call

abbrev pub request : Access → ℕ → ℕ → ℕ → AccessRequest
request access address width value = record { access = access; address = address; width = width; value = value }

-- the first rule that denies an access
abbrev pub rule_for : Process → AccessRequest → Option Rule
rule_for p a = first_rule p.scheme (regions p) a.access a.address a.width

-- service of an access: its page is made resident, or the rule that ends the process
abbrev pub service_result : List File → Shortage → Process → AccessRequest → Result Progress Rule
service_result files shortage p a = resident_at_address (call_environment files shortage) a.access a.address (initial_progress p) (rule_for p a)

abbrev pub served_access : List File → Process → AccessRequest → Result Progress Rule → CallOutcome
served_access files p a (Err rule) = record { reply = reply.Scalar (scalar.Ended rule); process = p; files = all_written_back files p }
served_access files p a (Ok g) = let x = user_access g.process a in record { reply = x.reply; process = x.process; files = files }

abbrev pub access_if : List File → Shortage → Process → AccessRequest → Bool → CallOutcome
access_if files shortage p a false = refused_call files p refusal.BadArgument
access_if files shortage p a true = served_access files p a (service_result files shortage p a)

abbrev pub accessed : List File → Shortage → Process → AccessRequest → CallOutcome
accessed files shortage p a = access_if files shortage p a (is_width a.width)

-- kernel copies

-- CopyIn: the bytes go from the process to the kernel
abbrev pub sent : List File → Copied → CallOutcome
sent files c = record { reply = in_reply c.bytes c.stop; process = c.progress.process; files = files }

-- CopyOut: from the kernel to the process
abbrev pub received : List File → Copied → CallOutcome
received files c = record { reply = out_reply c.bytes c.stop; process = c.progress.process; files = files }

abbrev pub sent_by : List File → Shortage → Process → ℕ → ℕ → CallOutcome
sent_by files (refused done r) p address n =
    refused_call files (copied_in (call_environment files nothing) (initial_progress p) address done).progress.process r
sent_by files shortage p address n = sent files (copied_in (call_environment files shortage) (initial_progress p) address n)

abbrev pub received_by : List File → Shortage → Process → ℕ → List ℕ → CallOutcome
received_by files (refused done r) p address bytes =
    refused_call files (copied_out (call_environment files nothing) (initial_progress p) address (take done bytes)).progress.process r
received_by files shortage p address bytes = received files (copied_out (call_environment files shortage) (initial_progress p) address bytes)

-- a copy of more than 256 bytes is refused with BadArgument
abbrev pub if_short : List File → Process → CallOutcome → Bool → CallOutcome
if_short files p t true = t
if_short files p t false = refused_call files p refusal.BadArgument

-- changes of regions

abbrev pub resized : List File → Process → Result Process Refusal → CallOutcome
resized files p (Err r) = refused_call files p r
resized files p (Ok q) = record { reply = reply.Scalar (scalar.OldSize p.size); process = q; files = files }

abbrev pub mapped_as : List File → Process → Result Mapped Refusal → CallOutcome
mapped_as files p (Err r) = refused_call files p r
mapped_as files p (Ok m) = record { reply = reply.Scalar (scalar.MappedAt (4096 * m.first)); process = m.process; files = files }

abbrev pub unmapped_as : List File → Shortage → Process → Result Unmapped Refusal → CallOutcome
unmapped_as files shortage p (Err r) = refused_call files p r
unmapped_as files (refused done r) p (Ok u) = refused_call files p r
unmapped_as files shortage p (Ok u) = record { reply = reply.Scalar scalar.Done; process = u.process; files = u.files }

-- exec and fork

abbrev pub replaced : List File → Shortage → Process → Result (List LoadSegment) BadImage → CallOutcome
replaced files shortage p (Err e) = refused_call files p (refusal.BadImage e)
replaced files (refused done r) p (Ok ls) = refused_call files p r
replaced files shortage p (Ok ls) = record { reply = reply.Scalar scalar.Done; process = process_of p.scheme 0 ls; files = all_written_back files p }

abbrev pub forked_as : List File → Shortage → ℕ → Process → CallOutcome
forked_as files (refused done r) n p = refused_call files p r
forked_as files shortage n p = record { reply = reply.Scalar (scalar.Forked n); process = marked p; files = files }

-- the outcome of a call of process p, of which n children were named before
abbrev pub call_outcome : List File → Shortage → ℕ → Process → Call → CallOutcome
call_outcome files shortage n p (call.Fetch address) = accessed files shortage p (request Fetch address 4 0)
call_outcome files shortage n p (call.Load address width) = accessed files shortage p (request Load address width 0)
call_outcome files shortage n p (call.Store address width value) = accessed files shortage p (request Store address width value)
call_outcome files shortage n p (call.Exec image) = replaced files shortage p (image_loads p.scheme image)
call_outcome files shortage n p (call.Sbrk delta) = resized files p (sbrk_result p delta)
call_outcome files shortage n p (call.Mmap len protection flags file) = mapped_as files p (mapped files p len protection flags file)
call_outcome files shortage n p (call.Munmap address len) = unmapped_as files shortage p (unmapped files p address len)
call_outcome files shortage n p (call.CopyIn address count) = if_short files p (sent_by files shortage p address count) (nat_le count LONGEST_COPY)
call_outcome files shortage n p (call.CopyOut address bytes) =
    if_short files p (received_by files shortage p address bytes.now) (nat_le (length bytes.now) LONGEST_COPY)
call_outcome files shortage n p (call.Exit status) = record { reply = reply.Scalar (scalar.Exited status); process = p; files = all_written_back files p }
call_outcome files shortage n p (call.Fork list) = forked_as files shortage n p

-- pages that a call reads from files: an access and a copy read the initial bytes of each unsettled page of a mapping that
-- they reach and that no rule denies, even if frames are then missing

abbrev pub access_reads : List File → Process → AccessRequest → Bool → List PageMove
access_reads files p a false = []
access_reads files p a true = served_moves files p (page_of a.address) (rule_for p a)

-- of a copy whose parts in each page begin at `starts`: what it reads for those that begin below the limit
abbrev pub reads_below : List File → Process → Access → ℕ → List ℕ → List PageMove
reads_below files p access limit starts =
    flat_map (λ at. if nat_lt at limit then served_moves files p (page_of at) (copy_rule p.scheme (regions p) access at) else []) starts

-- the limit for a copy: after a refused promise its first byte that was not copied, whose page was not read; else the byte
-- after that one, since the page at which frames were missing was read
abbrev pub limit_of : Shortage → ℕ → ℕ → ℕ
limit_of (refused done r) address copied = address + done
limit_of shortage address copied = address + copied + 1

abbrev pub in_reads : List File → Shortage → Process → ℕ → ℕ → List PageMove
in_reads files shortage p address n =
    reads_below files p Load
    (limit_of shortage address (length (copied_in (call_environment files shortage) (initial_progress p) address n).bytes)) (map (λ r. r.0) (runs address n))

abbrev pub out_reads : List File → Shortage → Process → ℕ → List ℕ → List PageMove
out_reads files shortage p address bytes =
    reads_below files p Store
    (limit_of shortage address (length (copied_out (call_environment files shortage) (initial_progress p) address bytes).bytes)) (map (λ r.
    r.0) (runs_of address bytes))

abbrev pub if_short_reads : List PageMove → Bool → List PageMove
if_short_reads moves true = moves
if_short_reads moves false = []

abbrev pub reads_of : List File → Shortage → Process → Call → List PageMove
reads_of files shortage p (call.Fetch address) = access_reads files p (request Fetch address 4 0) (is_width 4)
reads_of files shortage p (call.Load address width) = access_reads files p (request Load address width 0) (is_width width)
reads_of files shortage p (call.Store address width value) = access_reads files p (request Store address width value) (is_width width)
reads_of files shortage p (call.CopyIn address count) = if_short_reads (in_reads files shortage p address count) (nat_le count LONGEST_COPY)
reads_of files shortage p (call.CopyOut address bytes) = if_short_reads (out_reads files shortage p address bytes.now) (nat_le (length bytes.now) LONGEST_COPY)
reads_of files shortage p c = []

-- pages that a call writes to files: if it is not refused, munmap writes back its run, and exec every mapping. What a
-- process writes back at its end is not among them
abbrev pub is_done : Reply → Bool
is_done (reply.Scalar scalar.Done) = true
is_done _ = false

abbrev pub if_done : Reply → List PageMove → List PageMove
if_done r moves = if is_done r then moves else []

abbrev pub writes_of : List File → Shortage → Process → Call → List PageMove
writes_of files shortage p (call.Munmap address len) = if_done (unmapped_as files shortage p (unmapped files p address len)).reply (unmap_moves p address len)
writes_of files shortage p (call.Exec image) = if_done (replaced files shortage p (image_loads p.scheme image)).reply (all_moves p)
writes_of files shortage p c = []

-- what a journal entry says of mmap's file: `None` if there is no such file, else whether it may be written. `None` for
-- every other call
abbrev pub file_of : List File → Call → Option Bool
file_of files (call.Mmap len protection flags file) = option_map (λ f. f.writable) (slice_get files file)
file_of files c = None
