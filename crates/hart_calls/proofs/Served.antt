-- Lemmas for a user access that is made in place with its service: such a call is neither fork nor exit (`is_plain_access`),
-- needs no box (`roomless`), maps no file (`maps_none`), reads no page of a file and needs no files where the process has no
-- mapping (`reads_none`, `needs_none`), and no refused promise stops it (`never_stops`).
use Rattle.std.proofs.Common.{◌≡◌, ◌<◌, ℕ, Option, None, List, [], ◌∷◌, length, refl, sym, subst, inl, inr, ◌∙◌, arith}
use Rattle.hart_calls.specs.CallKinds.{HasRoomFor, IsAccessCall, IsPlainCall}
use Rattle.hart_calls.specs.CallOutcomes.{file_of, reads_of}
use Rattle.hart_calls.specs.Shortages.{CanBeShort, nothing, refused, Shortage}
use Rattle.hart_calls.specs.Track.{next_of, Track}
use Rattle.hart_calls.specs.TurnCases.{HasMapping, IsMmap, NeedsFiles}
use Rattle.hart_calls.proofs.Full.{read_maps}
use Rattle.process_model.specs.Files.{File}
use Rattle.process_model.specs.Order.{HasOrder}
use Rattle.process_model.specs.PageMoves.{PageMove}
use Rattle.process_model.specs.Process.{Process}
use Rattle.process_model.specs.declared.call.Call.{Call}
use Rattle.process_model.specs.declared.call.Call.TheVariants as call
use Rattle.process_model.specs.declared.reply.Refusal.{Refusal}

pub is_plain_access : (c : Call) → IsAccessCall c → IsPlainCall c
is_plain_access (call.Fetch address) is = tt
is_plain_access (call.Load address width) is = tt
is_plain_access (call.Store address width value) is = tt
is_plain_access (call.Exec image) is = tt
is_plain_access (call.Sbrk delta) is = tt
is_plain_access (call.Mmap len protection flags file) is = tt
is_plain_access (call.Munmap address len) is = tt
is_plain_access (call.CopyIn address count) is = tt
is_plain_access (call.CopyOut address bytes) is = tt
is_plain_access (call.Exit status) is = is
is_plain_access (call.Fork list) is = is

pub roomless : {A : Type 0} (c : Call) (o : Option A) → IsAccessCall c → HasRoomFor c o
roomless (call.Fetch address) o is = tt
roomless (call.Load address width) o is = tt
roomless (call.Store address width value) o is = tt
roomless (call.Exec image) o is = tt
roomless (call.Sbrk delta) o is = tt
roomless (call.Mmap len protection flags file) o is = tt
roomless (call.Munmap address len) o is = tt
roomless (call.CopyIn address count) o is = absurd is
roomless (call.CopyOut address bytes) o is = tt
roomless (call.Exit status) o is = tt
roomless (call.Fork list) o is = tt

pub maps_none : (c : Call) → IsAccessCall c → (files : List File) → None ≡ file_of files c
maps_none (call.Fetch address) is files = refl
maps_none (call.Load address width) is files = refl
maps_none (call.Store address width value) is files = refl
maps_none (call.Exec image) is files = refl
maps_none (call.Sbrk delta) is files = refl
maps_none (call.Mmap len protection flags file) is files = absurd is
maps_none (call.Munmap address len) is files = refl
maps_none (call.CopyIn address count) is files = refl
maps_none (call.CopyOut address bytes) is files = refl
maps_none (call.Exit status) is files = refl
maps_none (call.Fork list) is files = refl

pub never_stops : (files : List File) (p : Process) (c : Call) (done : ℕ) (r : Refusal) → IsAccessCall c → CanBeShort files p c (refused done r) → ⊥
never_stops files p (call.Fetch address) done r is short = short
never_stops files p (call.Load address width) done r is short = short
never_stops files p (call.Store address width value) done r is short = short
never_stops files p (call.Exec image) done r is short = is
never_stops files p (call.Sbrk delta) done r is short = is
never_stops files p (call.Mmap len protection flags file) done r is short = is
never_stops files p (call.Munmap address len) done r is short = is
never_stops files p (call.CopyIn address count) done r is short = is
never_stops files p (call.CopyOut address bytes) done r is short = is
never_stops files p (call.Exit status) done r is short = is
never_stops files p (call.Fork list) done r is short = is

-- what an access reads of files doesn't depend on what was short
same_reads : (files : List File) (shortage : Shortage) (p : Process) (c : Call) → IsAccessCall c → reads_of files shortage p c ≡ reads_of files nothing p c
same_reads files shortage p (call.Fetch address) is = refl
same_reads files shortage p (call.Load address width) is = refl
same_reads files shortage p (call.Store address width value) is = refl
same_reads files shortage p (call.Exec image) is = absurd is
same_reads files shortage p (call.Sbrk delta) is = absurd is
same_reads files shortage p (call.Mmap len protection flags file) is = absurd is
same_reads files shortage p (call.Munmap address len) is = absurd is
same_reads files shortage p (call.CopyIn address count) is = absurd is
same_reads files shortage p (call.CopyOut address bytes) is = absurd is
same_reads files shortage p (call.Exit status) is = absurd is
same_reads files shortage p (call.Fork list) is = absurd is

is_empty : (xs : List PageMove) → (0 < length xs → ⊥) → xs ≡ []
is_empty [] not = refl
is_empty (x ∷ xs) not = absurd (not (omega arith))

pub reads_none : (p : Process) → HasOrder 0 p → (files : List File) (shortage : Shortage) (c : Call) → IsAccessCall c → (HasMapping p.mappings → ⊥) → reads_of files shortage p c ≡ []
reads_none p order files shortage c is none = same_reads files shortage p c is ∙ is_empty (reads_of files nothing p c) (λ some. none (read_maps p order files c is some))

no_mmap : (c : Call) → IsAccessCall c → IsMmap c → ⊥
no_mmap (call.Mmap len protection flags file) is mmap = is
no_mmap c is mmap = mmap

pub needs_none : (t : Track) (c : Call) → c ≡ next_of t → IsAccessCall c → (HasMapping t.state.mappings → ⊥) → NeedsFiles t → ⊥
needs_none t c next is unmapped (inl mmap) = no_mmap c is (subst IsMmap (sym next) mmap)
needs_none t c next is unmapped (inr maps) = unmapped maps
