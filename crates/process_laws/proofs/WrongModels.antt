-- Lemmas, one for each wrong behavior of a kernel (a copy, a start or a service that lacks frames although they suffice, a
-- byte lost at a trap, a second fault, a mapping over another, a bad image started, ..): a part of the headline excludes it,
-- for moments of any model.
use Rattle.std.proofs.Common.{◌≡◌, ◌≢◌, ◌≤◌, ◌<◌, inl, inr, ◌+◌, ◌*◌, ◌-◌, ◌&&◌, ◌||◌, not, ℕ, zero, suc, ℤ, Bool, true, false, cond, refl, sym, ap, subst, ◌∙◌, List, [], ◌∷◌, Option, None, Some, length, arith}
use Rattle.std.specs.Prelude.{Err, Ok, is_some, nat_le, nat_lt, option_map, slice_get}
use Rattle.std.proofs.lemmas.Bool.{false≢true, eq-eqb}
use Rattle.std.proofs.lemmas.Bool.Decides.{nat_tests}
use Rattle.std.proofs.lemmas.Option.{same_Some}
use Rattle.process_laws.specs.Headline.{AnswersUser, Becomes, ChangesOwn, CopiesForKernel, CountsFrames, HoldsFrames, LeavesOthers, StopsAfter, ReadsLatest}
use Rattle.process_laws.specs.FrameNeeds.{copy_on, frames_for_image, frames_for_page, has_tables, is_settled, LacksFrames, MayLackFrames}
use Rattle.process_laws.specs.CallReplies.{is_below_base, is_range, MapReply, refusal_on, SizeReply, StartReply, UnmapReply}
use Rattle.process_laws.specs.FilePlaces.{file_bytes}
use Rattle.process_laws.specs.MadeSteps.{MakesOwn, MakesSteps}
use Rattle.process_laws.specs.Latest.{byte_at, byte_had, page_byte, is_released, latest, left_by}
use Rattle.process_laws.specs.Moments.{Moment, slot_on}
use Rattle.process_laws.specs.Pages.{are_joined, grant, grant_after, has_cow_mark, has_mark, has_dirty_mark, is_between, is_ready_on, is_remapped, is_store_at, is_stored_to, joins, mapping_grant}
use Rattle.process_laws.specs.Words.{UserAccess, byte, cause, copied, CopiesBytes, Forbids, in_memory, is_fault, is_reply, IsAnswer, IsGranted, IsOnHart, IsResident, MayCall, hart_of, hart_of_step, Serves, stopped_by, is_no_frame_reply, Tries, writes_back, WroteBack, changed_at, is_on_hart, IsMade, marks_slot, stale_after, stale_on}
use Rattle.process_model.specs.Bytes.{pages_for}
use Rattle.process_model.specs.Files.{File}
use Rattle.process_model.specs.Harts.{Hart, is_kernel, cleaned_at, cleaned_for, cleaned_if, fenced}
use Rattle.process_model.specs.Images.{image_loads, LoadSegment}
use Rattle.process_model.specs.declared.limits.TheConstants.{MOST_MAPPINGS}
use Rattle.process_model.specs.Mappings.{Fits}
use Rattle.process_model.specs.PageMap.{get}
use Rattle.process_model.specs.Process.{Page, Process, regions}
use Rattle.process_model.specs.Order.{Row}
use Rattle.process_model.specs.Regions.{end_of, Region, region_at}
use Rattle.process_model.specs.declared.config.Policy.{Policy}
use Rattle.process_model.specs.declared.config.Policy.TheVariants.{Asid, Full}
use Rattle.process_model.specs.declared.image.BadImage.{BadImage}
use Rattle.process_model.specs.declared.image.Image.{Image}
use Rattle.process_model.specs.World.{free, free_slot, has_slot, others_have, process_in, without_process, World}
use Rattle.process_model.specs.declared.phase.Phase.TheVariants.{Leave2}
use Rattle.process_model.specs.declared.reply.Refusal.TheVariants as refusal
use Rattle.process_model.specs.declared.reply.Reply.{Reply}
use Rattle.process_model.specs.declared.reply.ScalarReply.TheVariants.{Done, Ended, Fault, Forked, MappedAt, OldSize, Refused, Started}
use Rattle.process_model.specs.declared.reply.Reply.TheVariants.{CopiedIn, ShortIn, Scalar}
use Rattle.process_model.specs.declared.step.Step.{Step}
use Rattle.process_model.specs.declared.step.Step.TheVariants.{CopyIn, CopyOut, Exec, Fork, Mmap, Munmap, Sbrk, Serve, Start, Trap, Next}
use Rattle.sv39_entry.specs.Address.{page_of}
use Rattle.sv39_entry.specs.Schemes.{trapframe_page}
use Rattle.sv39_entry.specs.declared.access.Access.{Access}
use Rattle.sv39_entry.specs.declared.access.Access.TheVariants as access
use Rattle.sv39_entry.specs.declared.rule.Rule.{Rule}
use Rattle.sv39_entry.specs.declared.rule.Rule.TheVariants.{NoFrame}

-- a copy that stops by NoFrame before a byte for which there are frames
ends_dry : (p : Process) (kind : Access) (address n k : ℕ) (Lacks : Type 0) (o : Option Rule) → o ≡ Some NoFrame → StopsAfter p kind address n k Lacks o → Lacks
ends_dry p kind address n k Lacks o e (StopsAfter.whole is) = absurd cc
ends_dry p kind address n k Lacks o e (StopsAfter.forbidden {rule} less f) = absurd (let is : rule ≡ NoFrame = cc in subst (λ (r : Rule). Forbids p (byte kind (address + k)) r) is f).denies
ends_dry p kind address n k Lacks o e (StopsAfter.no_frame less g so) = so

pub copy_with_frames : (m : Moment) (h s address n : ℕ) (p q : Process) (bytes : _) → CopiesForKernel m h s address (copied m.reply) p → m.step ≡ CopyIn h address n → m.reply ≡ ShortIn NoFrame bytes → process_in m.after s ≡ Some q
    → frames_for_page m.after s q access.Load (page_of (address + length bytes.items)) ≤ free m.after → ⊥
copy_with_frames m h s address n p q bytes k step is there enough =
    let c = k.from n step in
    let l = ends_dry p access.Load address n (copied m.reply) (LacksFrames m.after s access.Load (address + copied m.reply)) (stopped_by m.reply) (ap stopped_by is) c.stops in
    let same : l.process ≡ q = same_Some l.process q (sym l.there ∙ there) in
    let need : frames_for_page m.after s l.process access.Load (page_of (address + copied m.reply)) ≡ frames_for_page m.after s q access.Load (page_of (address + length bytes.items)) =
    ap (λ (z : Process). frames_for_page m.after s z access.Load (page_of (address + copied m.reply))) same ∙ ap (λ (r : Reply). frames_for_page m.after s q access.Load (page_of (address + copied r))) is in
    let few = l.few in
    absurd (omega (arith, few, need, enough))

-- a copy to a page that leaves the copy-on-write mark
ready_unmarked : (r : Option Region) (o : Option Page) → is_ready_on access.Store r o ≡ true → has_mark (λ (x : Page). x.cow) o ≡ false
ready_unmarked r None e = absurd cc
ready_unmarked r (Some x) e = by x.cow _ e
  where
    by : (a b : Bool) → (not a && b) ≡ true → a ≡ false
    by true b f = absurd cc
    by false b f = refl

pub copied_to_is_unmarked : (m : Moment) (h s address i : ℕ) (bytes : _) (p q : Process) → CopiesForKernel m h s address (copied m.reply) p → m.step ≡ CopyOut h address bytes → i < copied m.reply → process_in m.after s ≡ Some q
    → has_cow_mark q (page_of (address + i)) ≡ false
copied_to_is_unmarked m h s address i bytes p q k step less there = ready_unmarked (region_at (regions q) (page_of (address + i))) (get q.settled (page_of (address + i))) (k.to_ready bytes q i step less there)

-- a trap that takes a byte away, or changes it
pub trap_keeps : (past : List Moment) (m : Moment) → ReadsLatest past m → (h s a b : ℕ) → m.step ≡ Trap h → latest past s a ≡ Some b → byte_had (process_in m.after s) a ≡ Some b
trap_keeps past m k h s a b is was = k.has s a ∙ ap (λ x. left_by m.before x m.reply (latest past) s a) is ∙ was

-- a page above the new size that still has bytes
pub released_has_none : (past : List Moment) (m : Moment) → ReadsLatest past m → (h s a n : ℕ) (delta : ℤ) → m.step ≡ Sbrk h delta → m.reply ≡ Scalar (OldSize n) → has_slot s (slot_on m.before h) ≡ true → is_released n delta a ≡ true
    → byte_had (process_in m.after s) a ≡ None
released_has_none past m k h s a n delta step reply mine gone = k.has s a ∙ ap (λ x. left_by m.before x m.reply (latest past) s a) step ∙ ap (λ r. left_by m.before (Sbrk h delta) r (latest past) s a) reply ∙ rw (mine, gone) refl

calm : (kind : Access) (r : Reply) → IsAnswer kind r → is_fault r ≡ false
calm kind r IsAnswer.fetched = refl
calm kind r IsAnswer.loaded = refl
calm kind r IsAnswer.stored = refl

-- an access that faults though it is granted and its page at hand
pub no_second_fault : (m : Moment) (h s cause : ℕ) (p : Process) (a : UserAccess) → AnswersUser m h s p a → Tries m h s p a → IsGranted p a → IsResident p a → m.reply ≢ Scalar (Fault cause)
no_second_fault m h s cause p a k t g resident is = false≢true (sym (calm a.access m.reply (k.answered t g resident)) ∙ ap is_fault is)

-- what is left of a mapping that reads from another place of its file
pub place_stays : (m : Moment) (h address len page : ℕ) (p q : Process) → Becomes m h p q → m.step ≡ Munmap h address len → m.reply ≡ Scalar Done → is_between (page_of address) (page_of address + pages_for len) page ≡ false
    → grant q page ≡ grant p page
place_stays m h address len page p q k step reply out = (k.stays page (ap (λ x. is_remapped x m.reply page) step ∙ ap (λ r. is_remapped (Munmap h address len) r page) reply ∙ out)).0

-- a mapping that grants what was not asked for
pub mapped_as_asked : (m : Moment) (h len protection flags n at page : ℕ) (p q : Process) → Becomes m h p q → m.step ≡ Mmap h len protection flags n → m.reply ≡ Scalar (MappedAt at)
    → is_between (page_of at) (page_of at + pages_for len) page ≡ true → grant q page ≡ Some (mapping_grant protection flags n (page - page_of at))
mapped_as_asked m h len protection flags n at page p q k step reply inside =
    k.remapped page (ap (λ x. is_remapped x m.reply page) step ∙ ap (λ r. is_remapped (Mmap h len protection flags n) r page) reply ∙ inside)
    ∙ ap (λ x. grant_after (m.before).scheme x m.reply page) step ∙ ap (λ r. grant_after (m.before).scheme (Mmap h len protection flags n) r page) reply

-- a service that holds back the stores to come, as a fork does
pub no_mark_by_service : (m : Moment) (h page : ℕ) (p q : Process) → Becomes m h p q → m.step ≡ Serve h → has_cow_mark p page ≡ false → has_cow_mark q page ≡ false
no_mark_by_service m h page p q k step none = by (has_cow_mark q page) refl
  where
    by : (b : Bool) → has_cow_mark q page ≡ b → b ≡ false
    by false e = refl
    by true e = absurd (false≢true (sym none ∙ k.forked (λ fork. absurd (let no = sym step ∙ fork in cc)) page e))

-- a fault with a cause that is not its own
pub fault_tells_its_cause : (m : Moment) (h s c : ℕ) (p : Process) (a : UserAccess) → AnswersUser m h s p a → Tries m h s p a → (IsGranted p a → IsResident p a → ⊥) → m.reply ≡ Scalar (Fault c) → c ≡ cause a
fault_tells_its_cause m h s c p a k t not is = let must = (k.faults t not).0 in cc

-- a service for a load that leaves the dirty mark, so that the page would be written back
pub loaded_page_stays_unmarked : (m : Moment) (h page : ℕ) (p q : Process) → Becomes m h p q → m.step ≡ Serve h → is_store_at p.pending page ≡ false → has_dirty_mark p page ≡ false → has_dirty_mark q page ≡ false
loaded_page_stays_unmarked m h page p q k step load none = by (has_dirty_mark q page) refl
  where
    by : (b : Bool) → has_dirty_mark q page ≡ b → b ≡ false
    by false e = refl
    by true e = elim (k.stored page e) [
      | inl was ↦ absurd (false≢true (sym none ∙ was))
      | inr here ↦ absurd (false≢true (sym load ∙ sym (ap (λ x. is_stored_to p x page) step) ∙ here))
    ]

-- a mapping over pages that are granted already
pub no_mapping_over_another : (m : Moment) (h len protection flags n at page : ℕ) (p q : Process) → Becomes m h p q → m.step ≡ Mmap h len protection flags n → m.reply ≡ Scalar (MappedAt at)
    → is_between (page_of at) (page_of at + pages_for len) page ≡ true → grant p page ≡ None
no_mapping_over_another m h len protection flags n at page p q k step reply inside =
    let remaps : is_remapped m.step m.reply page ≡ true = ap (λ x. is_remapped x m.reply page) step ∙ ap (λ r. is_remapped (Mmap h len protection flags n) r page) reply ∙ inside in
    elim (k.vacant page remaps (λ image e. let no = sym step ∙ e in absurd cc)) [
      | inl was ↦ was
      | inr now ↦ let there = mapped_as_asked m h len protection flags n at page p q k step reply inside in absurd (let no = sym now ∙ there in cc)
    ]

-- a child with other regions than its parent
pub child_has_the_regions : (m : Moment) (h s t : ℕ) (p c : Process) → ChangesOwn m h s p → m.step ≡ Fork h → m.reply ≡ Scalar (Forked t) → process_in m.after t ≡ Some c → regions c ≡ regions p
child_has_the_regions m h s t p c k step reply there =
    let child = k.child t step reply in
    ap regions (same_Some c child.0 (sym there ∙ child.1)) ∙ (child.2).same

-- a copy to the process that replies as one from it
pub copy_of_another_kind : (m : Moment) (h address : ℕ) (bytes : _) (copied : _) → MakesSteps m → m.step ≡ CopyOut h address bytes → m.reply ≢ CopiedIn copied
copy_of_another_kind m h address bytes copied k step is = false≢true (sym (ap (λ x. is_reply x m.reply) step ∙ ap (is_reply (CopyOut h address bytes)) is) ∙ k.replies)

-- a start of a bad image
starts_good : (w : World) (image : Image) (e : BadImage) (s : ℕ) (r : Reply) → r ≡ Scalar (Started s) → image_loads w.scheme image ≡ Err e → StartReply w image r → ⊥
starts_good w image e s r is bad (StartReply.no_slot none) = absurd cc
starts_good w image e s r is bad (StartReply.bad to loads) = absurd cc
starts_good w image e s r is bad (StartReply.no_frame to loads) = absurd cc
starts_good w image e s r is bad (StartReply.started to loads) = absurd (let no = sym bad ∙ loads in cc)

pub bad_image_never_starts : (m : Moment) (image : Image) (e : BadImage) (s : ℕ) → MakesSteps m → m.step ≡ Start image → image_loads (m.before).scheme image ≡ Err e → m.reply ≢ Scalar (Started s)
bad_image_never_starts m image e s k step bad is = starts_good m.before image e s m.reply is bad (k.start image step)

-- a call of the kernel on a hart that has no process
pub no_call_for_nobody : (m : Moment) (h address len : ℕ) → MakesSteps m → m.step ≡ Munmap h address len → slot_on m.before h ≡ None → m.reply ≢ Scalar Done
no_call_for_nobody m h address len k step none is =
    let host = k.hosted h (ap hart_of_step step) (λ r f. let no = sym is ∙ f in absurd cc) in
    let no = sym none ∙ (host.2).there in
    cc

-- a start that finds too few frames, though there are those that the image and a trapframe need
less : (a n : ℕ) → n ≤ a → nat_lt a n ≡ false
less a n e = grind (arith, nat_tests, e)

pub start_with_frames : (m : Moment) (image : Image) (s : ℕ) (ls : List LoadSegment) → CountsFrames m → free_slot m.before ≡ Some s → image_loads (m.before).scheme image ≡ Ok ls → m.step ≡ Start image
    → 1 + frames_for_image (m.before).scheme ls ≤ free m.before → m.reply ≢ Scalar (Refused refusal.NoFrame)
start_with_frames m image s ls k to loads step enough is =
    false≢true (sym ((k.start image s ls to loads step).0 ∙ less (free m.before) (1 + frames_for_image (m.before).scheme ls) enough) ∙ ap is_no_frame_reply is)

-- a service that finds too few frames, though there are those that the page needs
pub service_with_frames : (m : Moment) (h s : ℕ) (p : Process) (a : UserAccess) → CountsFrames m → Serves m h s p a → IsGranted p a → frames_for_page m.before s p a.access (page_of a.address) ≤ free m.before → m.reply ≢ Scalar (Ended NoFrame)
service_with_frames m h s p a k serves g enough is =
    false≢true (sym ((k.serve h s p a serves g).0 ∙ less (free m.before) (frames_for_page m.before s p a.access (page_of a.address)) enough) ∙ ap is_no_frame_reply is)

-- an exec of a bad image, or one that is not permitted, that says NoFrame
lacks_by : (w : World) (h : ℕ) (image : Image) (x : Step) → x ≡ Exec h image → MayLackFrames w x → (s : ℕ) × (p : Process) × (ls : List LoadSegment) × IsOnHart w h s p × MayCall w h p × (image_loads w.scheme image ≡ Ok ls)
lacks_by w h image x e (MayLackFrames.start free loads) = absurd cc
lacks_by w h image x e (MayLackFrames.exec {h = k} {s} {p} {image = other} {ls} on may loads) =
    let same : k ≡ h = cc in
    let alike : other ≡ image = cc in
    (s, p, ls, subst (λ n. IsOnHart w n s p) same on, subst (λ n. MayCall w n p) same may, ap (image_loads w.scheme) (sym alike) ∙ loads)
lacks_by w h image x e (MayLackFrames.fork on may free) = absurd cc
lacks_by w h image x e MayLackFrames.serve = absurd cc
lacks_by w h image x e (MayLackFrames.copy CopiesBytes.copy_in) = absurd cc
lacks_by w h image x e (MayLackFrames.copy CopiesBytes.copy_out) = absurd cc

pub exec_lacks_no_frame : (m : Moment) (h : ℕ) (image : Image) (b : BadImage) → CountsFrames m → m.step ≡ Exec h image → image_loads (m.before).scheme image ≡ Err b → m.reply ≢ Scalar (Refused refusal.NoFrame)
exec_lacks_no_frame m h image b k step bad is =
    let t = lacks_by m.before h image m.step step (k.only (ap is_no_frame_reply is)) in
    let no = sym bad ∙ t.5 in
    absurd cc

-- an exec that keeps old page tables or pages
pub exec_frees_the_old : (m : Moment) (h s : ℕ) (p : Process) (image : Image) (ls : List LoadSegment) → CountsFrames m → IsOnHart m.before h s p → MayCall m.before h p → image_loads (m.before).scheme image ≡ Ok ls → m.step ≡ Exec h image → m.reply ≡ Scalar Done
    → free m.after + (1 + frames_for_image (m.before).scheme ls) ≡ free (without_process m.before s)
exec_frees_the_old m h s p image ls k on may loads step = (k.exec h s p image ls on may loads step).1

-- an exec that keeps the old heap's base
pub exec_empties_the_heap : (m : Moment) (h : ℕ) (image : Image) (p q : Process) → Becomes m h p q → m.step ≡ Exec h image → m.reply ≡ Scalar Done → q.heap_base ≡ q.size
exec_empties_the_heap m h image p q k step done = k.new_base image step done

unsettled : {copy : ℕ} (o : Option Page) → is_some o ≡ false → option_map (λ (z : Page). z.copy) o ≡ Some copy → ⊥
unsettled None e f = absurd cc
unsettled (Some z) e f = absurd cc

-- a copyin that gives a page a frame of its own, though it only reads the page
pub read_page_keeps_its_frame : (m : Moment) (h s address n page old copy : ℕ) (p q : Process) → HoldsFrames m → IsOnHart m.before h s p → m.step ≡ CopyIn h address n → process_in m.after s ≡ Some q → has_cow_mark q page ≡ has_cow_mark p page
    → copy_on p page ≡ Some old → copy_on q page ≡ Some copy → copy ≡ old
read_page_keeps_its_frame m h s address n page old copy p q k on step there marks had now =
    let f = k.kept h s p q on (ap hart_of_step step) (λ image e. let no = sym step ∙ e in absurd cc) there in
    elim (f.copies page copy now) [
      | inl was ↦ same_Some copy old (sym was ∙ had)
      | inr new ↦ elim new.1 [
        | inl none ↦ absurd (unsettled (get p.settled page) none had)
        | inr taken ↦ absurd (false≢true (sym taken.1 ∙ marks ∙ taken.0))
      ]
    ]

-- a service by which a page is settled on the frame of another process
pub settled_on_its_own : (m : Moment) (h s t page other copy : ℕ) (p q r : Process) → HoldsFrames m → IsOnHart m.before h s p → m.step ≡ Serve h → process_in m.after s ≡ Some q → is_settled p page ≡ false → copy_on q page ≡ Some copy
    → process_in m.before t ≡ Some r → copy_on r other ≢ Some copy
settled_on_its_own m h s t page other copy p q r k on step there none now lives =
    let f = k.kept h s p q on (ap hart_of_step step) (λ image e. let no = sym step ∙ e in absurd cc) there in
    elim (f.copies page copy now) [
      | inl was ↦ absurd (unsettled (get p.settled page) none was)
      | inr new ↦ new.0 t other r lives
    ]

-- a service after which a page that was taken over is still on the frame of another process
pub parted_if_shared : (m : Moment) (h s page copy : ℕ) (p q : Process) → HoldsFrames m → IsOnHart m.before h s p → m.step ≡ Serve h → process_in m.after s ≡ Some q → has_cow_mark p page ≡ true → has_cow_mark q page ≡ false
    → copy_on p page ≡ Some copy → others_have m.before s copy ≡ true → copy_on q page ≢ Some copy
parted_if_shared m h s page copy p q k on step there marked unmarked was shared now =
    let f = k.kept h s p q on (ap hart_of_step step) (λ image e. let no = sym step ∙ e in absurd cc) there in
    false≢true (sym (f.alone page copy marked unmarked was now) ∙ shared)

-- a munmap that keeps or adds page tables that nobody asked for
pub no_tables_unasked : (m : Moment) (h s address len page : ℕ) (p q : Process) → HoldsFrames m → IsOnHart m.before h s p → m.step ≡ Munmap h address len → process_in m.after s ≡ Some q → is_settled q page ≡ false → has_tables q page ≡ has_tables p page
no_tables_unasked m h s address len page p q k on step there none =
    let f = k.kept h s p q on (ap hart_of_step step) (λ image e. let no = sym step ∙ e in absurd cc) there in
    f.tables page ∙ by (has_tables p page) (is_settled q page) (is_settled p page) none
  where
    by : (a b c : Bool) → b ≡ false → (a || (b && not c)) ≡ a
    by true b c e = refl
    by false true c e = absurd cc
    by false false c e = refl

-- a munmap that is done though its address is inside a page, or its length 0
unmaps_range : (p : Process) (address len : ℕ) (r : Reply) → r ≡ Scalar Done → UnmapReply p address len r → is_range address len ≡ true
unmaps_range p address len r is (UnmapReply.no_range bad) = absurd cc
unmaps_range p address len r is (UnmapReply.outside range out) = absurd cc
unmaps_range p address len r is (UnmapReply.hole range has low high) = absurd cc
unmaps_range p address len r is (UnmapReply.unmapped range has touches) = range

pub unmaps_a_range : (m : Moment) (h s address len : ℕ) (p : Process) → MakesOwn m h s p → MayCall m.before h p → m.step ≡ Munmap h address len → is_range address len ≡ false → m.reply ≢ Scalar Done
unmaps_a_range m h s address len p k may step bad is = false≢true (sym bad ∙ unmaps_range p address len m.reply is (k.munmap address len may step))

-- an sbrk that is done though the size would be below the heap's base
sizes_above : (p : Process) (delta : ℤ) (n : ℕ) (r : Reply) → r ≡ Scalar (OldSize n) → SizeReply p delta r → is_below_base p delta ≡ false
sizes_above p delta n r is (SizeReply.bad_size below) = absurd cc
sizes_above p delta n r is (SizeReply.no_room above gained taken) = absurd cc
sizes_above p delta n r is (SizeReply.sized above room) = above

pub sizes_above_the_base : (m : Moment) (h s n : ℕ) (delta : ℤ) (p : Process) → MakesOwn m h s p → MayCall m.before h p → m.step ≡ Sbrk h delta → is_below_base p delta ≡ true → m.reply ≢ Scalar (OldSize n)
sizes_above_the_base m h s n delta p k may step below is = false≢true (sym (sizes_above p delta n m.reply is (k.sbrk delta may step)) ∙ below)

-- an mmap that maps where there is a greater page at which the pages fit, or as the 17th mapping
maps_high : (files : List File) (p : Process) (len protection flags n at : ℕ) (r : Reply) → r ≡ Scalar (MappedAt at) → MapReply files p len protection flags n r
    → (length p.mappings < MOST_MAPPINGS) × ((other : ℕ) → Fits p (pages_for len) other → 4096 * other ≤ at)
maps_high files p len protection flags n at r is (MapReply.bad bad) = absurd cc
maps_high files p len protection flags n at r is (MapReply.read_only good only) = absurd cc
maps_high files p len protection flags n at r is (MapReply.full good only full) = absurd cc
maps_high files p len protection flags n at r is (MapReply.no_room good only few none) = absurd cc
maps_high files p len protection flags n at r is (MapReply.mapped {first} good only few fits most) = (few, λ other room. let le = most other room in let same : 4096 * first ≡ at = cc in omega (arith, le, same))

pub maps_as_high_as_fits : (m : Moment) (h s len protection flags n at : ℕ) (p : Process) → MakesOwn m h s p → MayCall m.before h p → m.step ≡ Mmap h len protection flags n → m.reply ≡ Scalar (MappedAt at)
    → (length p.mappings < MOST_MAPPINGS) × ((other : ℕ) → Fits p (pages_for len) other → 4096 * other ≤ at)
maps_as_high_as_fits m h s len protection flags n at p k may step is = maps_high (m.before).files p len protection flags n at m.reply is (k.mmap len protection flags n may step)

-- a copy that takes frames though none is free
pub takes_none_of_none : (m : Moment) (h address n frames : ℕ) (bytes : _) → CountsFrames m → m.step ≡ CopyIn h address n → m.reply ≡ CopiedIn bytes → free m.before ≡ 0 → free (in_memory m.before frames) ≤ free (in_memory m.after frames)
takes_none_of_none m h address n frames bytes k step reply none =
    let room = k.room h n (subst (λ (x : Step). CopiesBytes h n x) (sym step) CopiesBytes.copy_in) (ap is_no_frame_reply reply) frames in
    omega (arith, room, none)

-- a new mapping that is cut into several
pub mapped_in_one : (m : Moment) (h len protection flags n at page : ℕ) (p q : Process) → Becomes m h p q → m.step ≡ Mmap h len protection flags n → m.reply ≡ Scalar (MappedAt at)
    → is_between (page_of at) (page_of at + pages_for len) page ≡ true → is_between (page_of at) (page_of at + pages_for len) (page + 1) ≡ true → are_joined q page ≡ true
mapped_in_one m h len protection flags n at page p q k step reply one two =
    k.joined page
    ∙ ap (λ x. cond (is_remapped x m.reply page || is_remapped x m.reply (page + 1)) (joins x m.reply page) (are_joined p page)) step
    ∙ ap (λ r. cond (is_remapped (Mmap h len protection flags n) r page || is_remapped (Mmap h len protection flags n) r (page + 1)) (joins (Mmap h len protection flags n) r page) (are_joined p page)) reply
    ∙ rw (one, two) refl

-- a mapping without a page
row_filled : (low high : ℕ) (ms : List Region) (n : ℕ) (r : Region) → Row 1 low ms high → slice_get ms n ≡ Some r → 1 ≤ r.pages
row_filled low high [] n r row e = absurd cc
row_filled low high (x ∷ ms) zero r row e = subst (λ (z : Region). 1 ≤ z.pages) (same_Some x r e) row.1
row_filled low high (x ∷ ms) (suc n) r row e = row_filled (end_of x) high ms n r row.2 e

pub mappings_have_pages : (m : Moment) (s n : ℕ) (q : Process) (r : Region) → LeavesOthers m → process_in m.after s ≡ Some q → slice_get q.mappings n ≡ Some r → 1 ≤ r.pages
mappings_have_pages m s n q r k lives there = row_filled (pages_for q.size) (trapframe_page q.scheme) q.mappings n r (k.order s q lives).above there

-- a byte that munmap, exec or an end had to write back, and that stays what it was
pub writes_what_it_must : (m : Moment) (h s n i b : ℕ) (p : Process) → ChangesOwn m h s p → writes_back m.step m.reply ≡ true → i < length (file_bytes (m.before).files n) → WroteBack m.step p n i b
    → WroteBack m.step p n i (byte_at (file_bytes (m.after).files n) i)
writes_what_it_must m h s n i b p k writes less wb = ((k.written writes).goes n i b less wb).0

-- a byte of a mapping that is written over what a mapping at a greater address has at its place
pub writes_the_last : (m : Moment) (h s n i b : ℕ) (p : Process) → ChangesOwn m h s p → writes_back m.step m.reply ≡ true → i < length (file_bytes (m.before).files n)
    → (v : WroteBack m.step p n i b) → ((c : ℕ) (w : WroteBack m.step p n i c) → w.address ≤ v.address) → byte_at (file_bytes (m.after).files n) i ≡ b
writes_the_last m h s n i b p k writes less v most =
    let t = (k.written writes).goes n i b less v in
    let w = t.0 in
    let up = t.1 in
    let down = most _ w in
    let same : v.address ≡ w.address = omega (arith, up, down) in
    same_Some _ b (sym w.byte ∙ ap (byte_had (Some p)) (sym same) ∙ v.byte)

-- a write-back that adds a file, or drops one
pub files_stay_as_many : (m : Moment) (h s : ℕ) (p : Process) → ChangesOwn m h s p → length (m.after).files ≡ length (m.before).files
files_stay_as_many m h s p k = k.files.count

-- two processes that have a page on one frame, with different bytes
pub one_frame_one_page : (m : Moment) (s t one two copy i : ℕ) (p q : Process) → HoldsFrames m → s ≢ t → process_in m.after s ≡ Some p → process_in m.after t ≡ Some q → copy_on p one ≡ Some copy → copy_on q two ≡ Some copy
    → page_byte (get p.settled one) i ≡ page_byte (get q.settled two) i
one_frame_one_page m s t one two copy i p q k apart lives others here there = (k.shared s t one two copy p q apart lives others here there).bytes i

-- a copy of more than 256 bytes, refused with another refusal than BadArgument
above : (n : ℕ) → 256 < n → nat_le n 256 ≡ false
above n less = grind (arith, nat_tests, less)

pub bad_argument_first : (m : Moment) (h address n : ℕ) → MakesSteps m → m.step ≡ CopyIn h address n → 256 < n → m.reply ≡ Scalar (Refused refusal.BadArgument)
bad_argument_first m h address n k step long = k.refused h refusal.BadArgument (ap hart_of step) (ap (λ x. refusal_on m.before x (slice_get (m.before).harts h)) step ∙ by (slice_get (m.before).harts h))
  where
    by : (o : Option Hart) → refusal_on m.before (CopyIn h address n) o ≡ Some refusal.BadArgument
    by None = refl
    by (Some hart) = rw (above n long) refl

-- a call on a hart that is not in the kernel, refused as Impossible in another phase than its own
pub impossible_in_its_phase : (m : Moment) (h : ℕ) (delta : ℤ) (hart : Hart) → MakesSteps m → slice_get (m.before).harts h ≡ Some hart → m.step ≡ Sbrk h delta → is_kernel hart.phase ≡ false → m.reply ≡ Scalar (Refused (refusal.Impossible hart.phase))
impossible_in_its_phase m h delta hart k there step out = k.refused h (refusal.Impossible hart.phase) (ap hart_of step) (ap (λ x. refusal_on m.before x (slice_get (m.before).harts h)) step ∙ ap (refusal_on m.before (Sbrk h delta)) there ∙ rw out refl)

-- marks of a hart
module _ (m : Moment) (k t : ℕ) (hart : Hart) (others : LeavesOthers m) (made : IsMade m.reply) (there : slice_get (m.before).harts k ≡ Some hart) where
  abbrev told : Policy → Option Bool
  told policy = Some (marks_slot policy m.before m.after t || cond (is_on_hart m.step k) (stale_after policy hart m.step t) (hart.stale t))

  abbrev changed : Bool
  changed = changed_at (slice_get (m.before).slots t) (slice_get (m.after).slots t)

  -- with policy `asid`: a slot that changes, and for which a hart is not marked
  pub changed_slot_is_marked : (m.before).policy ≡ Asid → changed ≡ true → stale_on m.after k t ≡ Some true
  changed_slot_is_marked asid is = others.stale k t hart made there ∙ ap told asid ∙ ap (λ b. Some (b || cond (is_on_hart m.step k) (stale_after Asid hart m.step t) (hart.stale t))) is

  -- a slot that does not, and for which a hart is marked that makes no step
  pub no_mark_unasked : is_on_hart m.step k ≡ false → changed ≡ false → stale_on m.after k t ≡ Some (hart.stale t)
  no_mark_unasked off not_changed = others.stale k t hart made there ∙ by (m.before).policy where
    by : (policy : Policy) → told policy ≡ Some (hart.stale t)
    by Full = ap (λ b. Some (cond b (stale_after Full hart m.step t) (hart.stale t))) off
    by Asid = ap (λ b. Some (b || cond (is_on_hart m.step k) (stale_after Asid hart m.step t) (hart.stale t))) not_changed ∙ ap (λ b. Some (cond b (stale_after Asid hart m.step t) (hart.stale t))) off

  -- a mark that the last fence of the return leaves
  pub fence_takes_the_mark : m.step ≡ Next k → hart.phase ≡ Leave2 → hart.slot ≡ Some t → (m.before).policy ≡ Asid → changed ≡ false → stale_on m.after k t ≡ Some false
  fence_takes_the_mark step last slot asid not_changed =
      others.stale k t hart made there ∙ ap told asid
      ∙ ap (λ b. Some (b || cond (is_on_hart m.step k) (stale_after Asid hart m.step t) (hart.stale t))) not_changed
      ∙ ap (λ x. Some (cond (is_on_hart x k) (stale_after Asid hart x t) (hart.stale t))) step
      ∙ ap (λ b. Some (cond b ((fenced Asid hart).stale t) (hart.stale t))) (eq-eqb k k refl)
      ∙ ap (λ phase. Some ((cleaned_at hart phase).stale t)) last
      ∙ ap (λ s. Some ((cleaned_for hart s).stale t)) slot
      ∙ ap Some (by (hart.stale t) refl)
    where
      by : (b : Bool) → hart.stale t ≡ b → (cleaned_if hart t b).stale t ≡ false
      by true marked = ap (λ same. not same && hart.stale t) (eq-eqb t t refl)
      by false unmarked = unmarked
