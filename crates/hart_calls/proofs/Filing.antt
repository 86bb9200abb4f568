-- Lemmas: the page moves of a call (pages read from files and written to them) lead to the model's files after it: pages
-- read change no file (`only_read`); for a call neither fork nor exit whose process continues (`files_told`); for one that
-- ends it by a rule, only the mappings' write-back (`ended_files`).
use Rattle.std.proofs.Common.{◌≡◌, ℕ, ◌+◌, ◌%◌, ◌==◌, Bool, true, false, ◌&&◌, List, [], ◌∷◌, ◌++◌, length, refl, ap, sym, ◌∙◌, Option, None, Some, Result, Ok, Err, map}
use Rattle.std.specs.Prelude.{if◌then◌else◌, nat_le, nat_lt}
use Rattle.std.proofs.lemmas.List.{append-nil}
use Rattle.fault_rules.specs.MadeResident.{moves_for, moves_from}
use Rattle.fault_rules.specs.Serves.{served_moves}
use Rattle.hart_calls.specs.CallKinds.{IsPlainCall}
use Rattle.hart_calls.specs.CallOutcomes.{access_if, access_reads, request, if_done, if_short, if_short_reads, in_reads, limit_of, out_reads, reads_below, reads_of, received_by, replaced, resized, mapped_as, rule_for, sent_by, served_access, service_result, CallOutcome, call_outcome, unmapped_as, writes_of}
use Rattle.hart_calls.specs.TurnCases.{LeavesRunning}
use Rattle.hart_calls.specs.Shortages.{initial_progress, frames_at, nothing, refused, call_environment, Shortage}
use Rattle.user_copy.specs.Runs.{runs, runs_of}
use Rattle.mmap_regions.specs.Runs.{run_if, run_in, run_unless}
use Rattle.mmap_regions.specs.MunmapEffect.{requested_moves, unmap_moves}
use Rattle.process_model.specs.Environment.{Progress}
use Rattle.process_model.specs.Bytes.{is_width, pages_for}
use Rattle.process_model.specs.Copies.{copied_in, copied_out, in_reply, out_reply}
use Rattle.process_model.specs.Files.{File}
use Rattle.process_model.specs.Heap.{sbrk_result}
use Rattle.process_model.specs.Images.{image_loads, LoadSegment}
use Rattle.process_model.specs.Mappings.{all_written_back, leaves_hole, Mapped, mapped, mapping_around, Unmapped, unmapped, unmapped_if, unmapped_in, unmapped_unless}
use Rattle.process_model.specs.PageMap.{get}
use Rattle.process_model.specs.PageMoves.{all_is_written, all_moves, files_after, files_after-append, PageMove, run_is_written}
use Rattle.process_model.specs.Process.{Page, Process, regions}
use Rattle.process_model.specs.Regions.{copy_rule, file, first_rule, image, Region, Source, zeros}
use Rattle.process_model.specs.Residence.{access_answer, can_complete, region_on}
use Rattle.process_model.specs.Service.{AccessRequest, if_resident, if_settled, unless_denied}
use Rattle.process_model.specs.declared.call.Call.{Call}
use Rattle.process_model.specs.declared.call.Call.TheVariants as call
use Rattle.process_model.specs.declared.image.BadImage.{BadImage}
use Rattle.process_model.specs.declared.reply.Refusal.{Refusal}
use Rattle.process_model.specs.declared.reply.ScalarReply.TheVariants as scalar
use Rattle.process_model.specs.declared.reply.Reply.TheVariants as reply
use Rattle.sv39_entry.specs.Address.{page_of}
use Rattle.sv39_entry.specs.declared.access.Access.{Access}
use Rattle.sv39_entry.specs.declared.access.Access.TheVariants as access
use Rattle.sv39_entry.specs.declared.rule.Rule.{Rule}
use Rattle.process_model.specs.declared.limits.TheConstants.{LONGEST_COPY}

-- what is read changes no file

reads_from : (fs : List File) (s : Source) (files : List File) (at : ℕ) → files_after fs (moves_from files s at) ≡ fs
reads_from fs zeros files at = refl
reads_from fs image files at = refl
reads_from fs (file n offset) files at = refl

reads_for : (fs files : List File) (r : Option Region) (o : Option Page) (page : ℕ) → files_after fs (moves_for files r o page) ≡ fs
reads_for fs files None o page = refl
reads_for fs files (Some r) None page = reads_from fs r.source files _
reads_for fs files (Some r) (Some s) page = refl

pub served_reads : (fs files : List File) (p : Process) (page : ℕ) (o : Option Rule) → files_after fs (served_moves files p page o) ≡ fs
served_reads fs files p page None = reads_for fs files (region_on p page) (get p.settled page) page
served_reads fs files p page (Some r) = refl

module _ (files : List File) (p : Process) where
  one_below : (fs : List File) (access : Access) (limit at : ℕ) (b : Bool) → files_after fs (if b then served_moves files p (page_of at) (copy_rule p.scheme (regions p) access at) else []) ≡ fs
  one_below fs access limit at true = served_reads fs files p (page_of at) (copy_rule p.scheme (regions p) access at)
  one_below fs access limit at false = refl

  all_below : (fs : List File) (access : Access) (limit : ℕ) (starts : List ℕ) → files_after fs (reads_below files p access limit starts) ≡ fs
  all_below fs access limit [] = refl
  all_below fs access limit (at ∷ starts) =
      files_after-append fs (if nat_lt at limit then served_moves files p (page_of at) (copy_rule p.scheme (regions p) access at) else []) (reads_below files p access limit starts)
      ∙ ap (λ (z : List File). files_after z (reads_below files p access limit starts)) (one_below fs access limit at (nat_lt at limit))
      ∙ all_below fs access limit starts

  if_reads : (fs : List File) (moves : List PageMove) (b : Bool) → files_after fs moves ≡ fs → files_after fs (if_short_reads moves b) ≡ fs
  if_reads fs moves true is = is
  if_reads fs moves false is = refl

  width_reads : (fs : List File) (a : AccessRequest) (b : Bool) → files_after fs (access_reads files p a b) ≡ fs
  width_reads fs a true = served_reads fs files p (page_of a.address) (rule_for p a)
  width_reads fs a false = refl

  pub only_read : (fs : List File) (shortage : Shortage) (c : Call) → files_after fs (reads_of files shortage p c) ≡ fs
  only_read fs shortage (call.Fetch address) = width_reads fs (request access.Fetch address 4 0) true
  only_read fs shortage (call.Load address width) = width_reads fs (request access.Load address width 0) (is_width width)
  only_read fs shortage (call.Store address width value) = width_reads fs (request access.Store address width value) (is_width width)
  only_read fs shortage (call.Exec im) = refl
  only_read fs shortage (call.Sbrk delta) = refl
  only_read fs shortage (call.Mmap len protection flags f) = refl
  only_read fs shortage (call.Munmap address len) = refl
  only_read fs shortage (call.CopyIn address count) = if_reads fs (in_reads files shortage p address count) (nat_le count LONGEST_COPY) (all_below fs access.Load (limit_of shortage address (length (copied_in (call_environment files shortage) (initial_progress p) address count).bytes)) (map (λ r. r.0) (runs address count)))
  only_read fs shortage (call.CopyOut address bytes) = if_reads fs (out_reads files shortage p address bytes.now) (nat_le (length bytes.now) LONGEST_COPY) (all_below fs access.Store (limit_of shortage address (length (copied_out (call_environment files shortage) (initial_progress p) address bytes.now).bytes)) (map (λ r. r.0) (runs_of address bytes.now)))
  only_read fs shortage (call.Exit status) = refl
  only_read fs shortage (call.Fork list) = refl

  -- ---- what munmap writes

  hole_written : (m : Region) (first end : ℕ) (b : Bool) (u : Unmapped) → unmapped_unless files p m first end b ≡ Ok u → files_after files (requested_moves p (run_unless m first end b)) ≡ u.files
  hole_written m first end true u is = absurd (cc)
  hole_written m first end false u is = run_is_written files p m first end ∙ ap (λ (z : Unmapped). z.files) (same_ok _ u is)
    where
      same_ok : (v w : Unmapped) → ◌≡◌ {A = Result Unmapped Refusal} (Ok v) (Ok w) → v ≡ w
      same_ok v w is = cc

  around_written : (first end : ℕ) (o : Option Region) (u : Unmapped) → unmapped_in files p first end o ≡ Ok u → files_after files (requested_moves p (run_in first end o)) ≡ u.files
  around_written first end None u is = absurd (cc)
  around_written first end (Some m) u is = hole_written m first end (leaves_hole m first end) u is

  asked_written : (first end : ℕ) (b : Bool) (u : Unmapped) → unmapped_if files p first end b ≡ Ok u → files_after files (requested_moves p (run_if p first end b)) ≡ u.files
  asked_written first end false u is = absurd (cc)
  asked_written first end true u is = around_written first end (mapping_around p.mappings first end) u is

  unmap_written : (address len : ℕ) (u : Unmapped) → unmapped files p address len ≡ Ok u → files_after files (unmap_moves p address len) ≡ u.files
  unfolding unmapped
  unmap_written address len u is = asked_written (page_of address) (page_of address + pages_for len) (address % 4096 == 0 && nat_lt 0 len) u is

  unmapped_done : (shortage : Shortage) (address len : ℕ) (z : Result Unmapped Refusal) → unmapped files p address len ≡ z
      → files_after files (if_done (unmapped_as files shortage p z).reply (unmap_moves p address len)) ≡ (unmapped_as files shortage p z).files
  unmapped_done shortage address len (Err e) is = refl
  unmapped_done nothing address len (Ok u) is = unmap_written address len u is
  unmapped_done (frames_at n) address len (Ok u) is = unmap_written address len u is
  unmapped_done (refused done r) address len (Ok u) is = refl

  replaced_done : (shortage : Shortage) (z : Result (List LoadSegment) BadImage) → files_after files (if_done (replaced files shortage p z).reply (all_moves p)) ≡ (replaced files shortage p z).files
  replaced_done shortage (Err e) = refl
  replaced_done nothing (Ok ls) = all_is_written p files
  replaced_done (frames_at n) (Ok ls) = all_is_written p files
  replaced_done (refused done r) (Ok ls) = refl

  -- ---- what stays as it is

  served_files : (a : AccessRequest) (r : Result Progress Rule) → LeavesRunning (served_access files p a r).reply → (served_access files p a r).files ≡ files
  served_files a (Err rule) on = absurd on
  served_files a (Ok g) on = refl

  access_files : (shortage : Shortage) (a : AccessRequest) (b : Bool) → LeavesRunning (access_if files shortage p a b).reply → (access_if files shortage p a b).files ≡ files
  access_files shortage a false on = refl
  access_files shortage a true on = served_files a (service_result files shortage p a) on

  short_files : (t : CallOutcome) (b : Bool) → t.files ≡ files → (if_short files p t b).files ≡ files
  short_files t true is = is
  short_files t false is = refl

  sent_files : (shortage : Shortage) (address n : ℕ) → (sent_by files shortage p address n).files ≡ files
  sent_files nothing address n = refl
  sent_files (frames_at k) address n = refl
  sent_files (refused done r) address n = refl

  received_files : (shortage : Shortage) (address : ℕ) (bytes : List ℕ) → (received_by files shortage p address bytes).files ≡ files
  received_files nothing address bytes = refl
  received_files (frames_at k) address bytes = refl
  received_files (refused done r) address bytes = refl

  sized_files : (z : Result Process Refusal) → (resized files p z).files ≡ files
  sized_files (Ok q) = refl
  sized_files (Err e) = refl

  mapped_files : (z : Result Mapped Refusal) → (mapped_as files p z).files ≡ files
  mapped_files (Ok m) = refl
  mapped_files (Err e) = refl

  none_after : (shortage : Shortage) (c : Call) (fs : List File) → fs ≡ files → writes_of files shortage p c ≡ [] → files_after files (reads_of files shortage p c ++ writes_of files shortage p c) ≡ fs
  none_after shortage c fs same none =
      ap (λ (ms : List PageMove). files_after files (reads_of files shortage p c ++ ms)) none ∙ ap (files_after files) (append-nil (reads_of files shortage p c)) ∙ only_read files shortage c ∙ sym same

  pub files_told : (shortage : Shortage) (c : Call) → IsPlainCall c → LeavesRunning (call_outcome files shortage 0 p c).reply → files_after files (reads_of files shortage p c ++ writes_of files shortage p c) ≡ (call_outcome files shortage 0 p c).files
  files_told shortage (call.Fetch address) stays on = none_after shortage (call.Fetch address) _ (access_files shortage (request access.Fetch address 4 0) true on) refl
  files_told shortage (call.Load address width) stays on = none_after shortage (call.Load address width) _ (access_files shortage (request access.Load address width 0) (is_width width) on) refl
  files_told shortage (call.Store address width value) stays on = none_after shortage (call.Store address width value) _ (access_files shortage (request access.Store address width value) (is_width width) on) refl
  files_told shortage (call.Exec im) stays on = replaced_done shortage (image_loads p.scheme im)
  files_told shortage (call.Sbrk delta) stays on = sym (sized_files (sbrk_result p delta))
  files_told shortage (call.Mmap len protection flags f) stays on = sym (mapped_files (mapped files p len protection flags f))
  files_told shortage (call.Munmap address len) stays on = unmapped_done shortage address len (unmapped files p address len) refl
  files_told shortage (call.CopyIn address count) stays on = none_after shortage (call.CopyIn address count) _ (short_files (sent_by files shortage p address count) (nat_le count LONGEST_COPY) (sent_files shortage address count)) refl
  files_told shortage (call.CopyOut address bytes) stays on = none_after shortage (call.CopyOut address bytes) _ (short_files (received_by files shortage p address bytes.now) (nat_le (length bytes.now) LONGEST_COPY) (received_files shortage address bytes.now)) refl
  files_told shortage (call.Exit status) stays on = absurd stays
  files_told shortage (call.Fork list) stays on = absurd stays

  -- ---- what a process that ends by a rule leaves: only an access ends it so

  never_ends : (kind : Access) (s : Page) (offset width value : ℕ) (r : Rule) → (access_answer kind s offset width value).0 ≡ reply.Scalar (scalar.Ended r) → ⊥
  never_ends access.Fetch s offset width value r is = cc
  never_ends access.Load s offset width value r is = cc
  never_ends access.Store s offset width value r is = cc

  resident_ends : (q : Process) (a : AccessRequest) (s : Page) (b : Bool) (r : Rule) → (if_resident q a s b).reply ≡ reply.Scalar (scalar.Ended r) → ⊥
  resident_ends q a s true r is = never_ends a.access s (a.address % 4096) a.width a.value r is
  resident_ends q a s false r is = cc

  settled_ends : (q : Process) (a : AccessRequest) (o : Option Page) (r : Rule) → (if_settled q a o).reply ≡ reply.Scalar (scalar.Ended r) → ⊥
  settled_ends q a None r is = cc
  settled_ends q a (Some s) r is = resident_ends q a s (can_complete a.access (region_on q (page_of a.address)) s) r is

  denied_ends : (q : Process) (a : AccessRequest) (o : Option Rule) (r : Rule) → (unless_denied q a o).reply ≡ reply.Scalar (scalar.Ended r) → ⊥
  denied_ends q a (Some x) r is = cc
  denied_ends q a None r is = settled_ends q a (get q.settled (page_of a.address)) r is

  abbrev pub IsEnd : CallOutcome → List PageMove → Type 0
  IsEnd t writes = (t.files ≡ all_written_back files p) × (writes ≡ []) × (t.process ≡ p)

  abbrev Leaves : CallOutcome → Type 0
  Leaves t = (t.files ≡ all_written_back files p) × (t.process ≡ p)

  served_ended : (a : AccessRequest) (z : Result Progress Rule) (r : Rule) → (served_access files p a z).reply ≡ reply.Scalar (scalar.Ended r) → Leaves (served_access files p a z)
  served_ended a (Err x) r is = (refl, refl)
  served_ended a (Ok g) r is = absurd (denied_ends g.process a (first_rule g.process.scheme (regions g.process) a.access a.address a.width) r is)

  access_ended : (shortage : Shortage) (a : AccessRequest) (b : Bool) (r : Rule) → (access_if files shortage p a b).reply ≡ reply.Scalar (scalar.Ended r) → Leaves (access_if files shortage p a b)
  access_ended shortage a false r is = absurd (cc)
  access_ended shortage a true r is = served_ended a (service_result files shortage p a) r is

  in_ended : (bytes : List ℕ) (o : Option Rule) (r : Rule) → in_reply bytes o ≡ reply.Scalar (scalar.Ended r) → ⊥
  in_ended bytes None r is = cc
  in_ended bytes (Some x) r is = cc

  out_ended : (bytes : List ℕ) (o : Option Rule) (r : Rule) → out_reply bytes o ≡ reply.Scalar (scalar.Ended r) → ⊥
  out_ended bytes None r is = cc
  out_ended bytes (Some x) r is = cc

  sent_ended : (shortage : Shortage) (address n : ℕ) (r : Rule) → (sent_by files shortage p address n).reply ≡ reply.Scalar (scalar.Ended r) → ⊥
  sent_ended nothing address n r is = in_ended _ _ r is
  sent_ended (frames_at k) address n r is = in_ended _ _ r is
  sent_ended (refused done x) address n r is = cc

  received_ended : (shortage : Shortage) (address : ℕ) (bytes : List ℕ) (r : Rule) → (received_by files shortage p address bytes).reply ≡ reply.Scalar (scalar.Ended r) → ⊥
  received_ended nothing address bytes r is = out_ended _ _ r is
  received_ended (frames_at k) address bytes r is = out_ended _ _ r is
  received_ended (refused done x) address bytes r is = cc

  short_ended : (t : CallOutcome) (b : Bool) (r : Rule) → (t.reply ≡ reply.Scalar (scalar.Ended r) → ⊥) → (if_short files p t b).reply ≡ reply.Scalar (scalar.Ended r) → ⊥
  short_ended t true r not is = not is
  short_ended t false r not is = cc

  sized_ended : (z : Result Process Refusal) (r : Rule) → (resized files p z).reply ≡ reply.Scalar (scalar.Ended r) → ⊥
  sized_ended (Ok q) r is = cc
  sized_ended (Err e) r is = cc

  mapped_ended : (z : Result Mapped Refusal) (r : Rule) → (mapped_as files p z).reply ≡ reply.Scalar (scalar.Ended r) → ⊥
  mapped_ended (Ok m) r is = cc
  mapped_ended (Err e) r is = cc

  unmapped_ended : (shortage : Shortage) (z : Result Unmapped Refusal) (r : Rule) → (unmapped_as files shortage p z).reply ≡ reply.Scalar (scalar.Ended r) → ⊥
  unmapped_ended shortage (Err e) r is = cc
  unmapped_ended nothing (Ok u) r is = cc
  unmapped_ended (frames_at k) (Ok u) r is = cc
  unmapped_ended (refused done x) (Ok u) r is = cc

  replaced_ended : (shortage : Shortage) (z : Result (List LoadSegment) BadImage) (r : Rule) → (replaced files shortage p z).reply ≡ reply.Scalar (scalar.Ended r) → ⊥
  replaced_ended shortage (Err e) r is = cc
  replaced_ended nothing (Ok ls) r is = cc
  replaced_ended (frames_at k) (Ok ls) r is = cc
  replaced_ended (refused done x) (Ok ls) r is = cc

  pub ended_files : (shortage : Shortage) (c : Call) (r : Rule) → IsPlainCall c → (call_outcome files shortage 0 p c).reply ≡ reply.Scalar (scalar.Ended r) → IsEnd (call_outcome files shortage 0 p c) (writes_of files shortage p c)
  ended_files shortage (call.Fetch address) r stays is = let l = access_ended shortage (request access.Fetch address 4 0) true r is in (l.0, refl, l.1)
  ended_files shortage (call.Load address width) r stays is = let l = access_ended shortage (request access.Load address width 0) (is_width width) r is in (l.0, refl, l.1)
  ended_files shortage (call.Store address width value) r stays is = let l = access_ended shortage (request access.Store address width value) (is_width width) r is in (l.0, refl, l.1)
  ended_files shortage (call.Exec im) r stays is = absurd (replaced_ended shortage (image_loads p.scheme im) r is)
  ended_files shortage (call.Sbrk delta) r stays is = absurd (sized_ended (sbrk_result p delta) r is)
  ended_files shortage (call.Mmap len protection flags f) r stays is = absurd (mapped_ended (mapped files p len protection flags f) r is)
  ended_files shortage (call.Munmap address len) r stays is = absurd (unmapped_ended shortage (unmapped files p address len) r is)
  ended_files shortage (call.CopyIn address count) r stays is = absurd (short_ended (sent_by files shortage p address count) (nat_le count LONGEST_COPY) r (sent_ended shortage address count r) is)
  ended_files shortage (call.CopyOut address bytes) r stays is = absurd (short_ended (received_by files shortage p address bytes.now) (nat_le (length bytes.now) LONGEST_COPY) r (received_ended shortage address bytes.now r) is)
  ended_files shortage (call.Exit status) r stays is = absurd stays
  ended_files shortage (call.Fork list) r stays is = absurd stays
