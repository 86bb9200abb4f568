-- Lemmas for the steps `Mmap` and `Munmap`: refusals, reply and world (the model's state) are the model's (`maps`,
-- `unmaps`); a leaf that munmap leaves was there before; and mmap changes no table.
use Rattle.std.proofs.Common.{◌≡◌, ℕ, ◌+◌, Bool, true, false, Option, None, Some, List, refl, ap, sym, subst, ◌∙◌, inl, inr}
use Rattle.std.specs.Prelude.{Err, IfErr, IfOk, Ok, Result, slice_get, slice_set}
use Rattle.std.specs.FinMap as finite
use Rattle.std.specs.Vec.{with_item}
use Rattle.address_space.specs.Agreement.{IsFrameOfPage}
use Rattle.address_space.specs.SpaceTeardown.{Drops}
use Rattle.address_space.specs.declared.space.Space.{Space}
use Rattle.frame_store.specs.Laws.{KeepsSeats}
use Rattle.frame_store.specs.Plain.{PlainState, PlainStateInvariant}
use Rattle.frame_store.specs.View.{View}
use Rattle.mmap_regions.specs.MmapEffect.{address_of_mapped, process_mapped}
use Rattle.mmap_regions.specs.MunmapEffect.{IsUnmapRefusal}
use Rattle.process_model.specs.Bytes.{pages_for}
use Rattle.process_model.specs.Calls.{mapped_to, unmapped_to}
use Rattle.process_model.specs.Files.{File}
use Rattle.process_model.specs.Heap.{without_pages}
use Rattle.process_model.specs.Mappings.{leaves_hole, map_refusal, Mapped, mapped, mapped_unless, mapping_around, Unmapped, unmapped, unmapped_if, unmapped_in, unmapped_unless}
use Rattle.process_model.specs.PageMap as pages
use Rattle.process_model.specs.PageMap.{PageMap}
use Rattle.process_model.specs.Process.{Page, Process, without_pending}
use Rattle.process_model.specs.Regions.{Region}
use Rattle.process_model.proofs.ReleaseLaws.{was_settled}
use Rattle.process_model.specs.Steps.{plain_step}
use Rattle.process_model.specs.World.{StepOutcome, refuses, World}
use Rattle.process_model.specs.declared.reply.Refusal.{Refusal}
use Rattle.process_model.specs.declared.reply.ScalarReply.TheVariants.{Refused}
use Rattle.process_model.specs.declared.reply.Reply.TheVariants.{Scalar}
use Rattle.process_model.specs.declared.step.Step.TheVariants as step
use Rattle.sv39_entry.specs.Address.{page_of}
use Rattle.table_walk.specs.Tables.{leaf_node, Tables}
use Rattle.hart_machine.specs.Calls.{done_or_refused, Follows, HasUnmapped, IsCaller, mapped_or_refused}
use Rattle.hart_machine.specs.SlotProcesses.{IsSlotProcess, view_of}
use Rattle.hart_machine.specs.Worlds.{IsWorldButBuffers, IsModelOutcome}
use Rattle.hart_machine.specs.declared.machine.Machine.{Machine}
use Rattle.hart_machine.specs.declared.slot_process.SlotProcess.{SlotProcess}
use Rattle.hart_machine.proofs.AccessingWorlds.{bytes_change}
use Rattle.hart_machine.proofs.Calling.{call_runs}
use Rattle.hart_machine.proofs.FillWorlds.{put_back}
use Rattle.hart_machine.proofs.Following.{call_changes, keeps_follow}
use Rattle.hart_machine.proofs.HartSteps.{process_at}
use Rattle.hart_machine.proofs.KeptSchemes.{mapped_scheme, unmapped_scheme}

-- a space all of whose parts are those of another
pub same_space : (x y : Space View) → x.seat ≡ y.seat → x.root ≡ y.root → x.trapframe ≡ y.trapframe → x.layout ≡ y.layout → x ≡ y
same_space x y seat root trapframe layout = λ i. record { seat = seat i; root = root i; trapframe = trapframe i; layout = layout i }

abbrev done_with : {A : Type 0} → A → Result A Refusal
done_with a = Ok a

-- pages of the model's processes

abbrev pages_mapped : Result Mapped Refusal → PageMap Page → PageMap Page
pages_mapped (Ok m) others = m.process.settled
pages_mapped (Err e) others = others

unless_settled : (p : Process) (r : Region) (o : Option Refusal) → pages_mapped (mapped_unless p r o) p.settled ≡ p.settled
unless_settled p r None = refl
unless_settled p r (Some e) = refl

-- a mapping settles no page
mapped_settled : (files : List File) (p : Process) (len protection flags n : ℕ) → pages_mapped (mapped files p len protection flags n) p.settled ≡ p.settled
unfolding mapped
mapped_settled files p len protection flags n = unless_settled p _ (map_refusal files p len protection flags n)

abbrev pages_unmapped : Result Unmapped Refusal → PageMap Page → PageMap Page
pages_unmapped (Ok u) others = u.process.settled
pages_unmapped (Err e) others = others

module _ (files : List File) (p : Process) (first end : ℕ) where
  abbrev left : PageMap Page
  left = (without_pages p first end).settled

  hole_settled : (m : Region) (b : Bool) → pages_unmapped (unmapped_unless files p m first end b) left ≡ left
  hole_settled m true = refl
  hole_settled m false = refl

  in_settled : (o : Option Region) → pages_unmapped (unmapped_in files p first end o) left ≡ left
  in_settled None = refl
  in_settled (Some m) = hole_settled m (leaves_hole m first end)

  if_settled : (b : Bool) → pages_unmapped (unmapped_if files p first end b) left ≡ left
  if_settled false = refl
  if_settled true = in_settled (mapping_around p.mappings first end)

-- the pages of the run go, and no other
unmapped_settled : (files : List File) (p : Process) (address len : ℕ) (u : Unmapped) → unmapped files p address len ≡ Ok u
    → u.process.settled ≡ (without_pages p (page_of address) (page_of address + pages_for len)).settled
unfolding unmapped
unmapped_settled files p address len u is =
    ap (λ r. pages_unmapped r (left files p (page_of address) (page_of address + pages_for len))) (sym is) ∙ if_settled files p (page_of address) (page_of address + pages_for len) _

-- a promise that is never refused leaves the refusals of the model
pub refused_by_model : (before : List File) (p : Process) (address len : ℕ) (e : Refusal) → IsUnmapRefusal (λ n x. ⊥) before p address len e → unmapped before p address len ≡ Err e
refused_by_model before p address len e (inl refused) = refused
refused_by_model before p address len e (inr unpromised) = absurd unpromised.3

-- a leaf that is left was there
pub dropped_on : (t u : Tables) (first end : ℕ) → Drops t u first end → (n f : ℕ) → IsFrameOfPage u n f → IsFrameOfPage t n f
dropped_on t u first end drops n f on =
    let still = drops.others (leaf_node n) (λ k from to same. let both : Some on.0 ≡ None = sym on.1 ∙ ap (finite.get u.leaves) same ∙ drops.gone k from to in cc) in
    (on.0, sym still ∙ on.1, on.2)

-- a process with one more mapping, or none, is below its tables
pub below_mapped : (x y : SlotProcess) (t : Tables) (p : Process) → IsSlotProcess x t p → (r : Result ℕ Refusal) (f : Process → Process)
    → IfOk r (λ _. (u : Tables) (q : Process) → IsSlotProcess x u q → IsSlotProcess y u (without_pending (f q))) → IfErr r (λ _. y ≡ x) → (q : Process) × IsSlotProcess y t q
below_mapped x y t p slot_process (Ok a) f after refused = (without_pending (f p), after t p slot_process)
below_mapped x y t p slot_process (Err e) f after refused = (p, subst (λ (z : SlotProcess). IsSlotProcess z t p) (sym refused) slot_process)

module _ (m : Machine) (w : World) (is : IsWorldButBuffers m w) (h s : ℕ) (caller : IsCaller m w h s) (x y : SlotProcess) (place : slice_get m.slots.items s ≡ Some (Some x)) where
  -- mmap

  module _ (len protection flags n : ℕ) (r : Result ℕ Refusal) (view : view_of y ≡ view_of x) where
    abbrev outcome : List File → Process → StepOutcome
    outcome files p = mapped_to w s (mapped files p len protection flags n)

    module _ (p : Process) (at : slice_get w.slots s ≡ Some (Some p)) (slot_process : IsSlotProcess x (is.tables s) p) where
      map_step : plain_step w (step.Mmap h len protection flags n) ≡ outcome m.files p
      map_step = call_runs m w is h s false caller (λ hart k q. mapped_to w k (mapped w.files q len protection flags n)) p at ∙ ap (λ files. outcome files p) (sym is.files)

      map_comes : (z : Result Mapped Refusal) → mapped m.files p len protection flags n ≡ z → r ≡ address_of_mapped z → IfOk r (λ _. IsSlotProcess y (is.tables s) (without_pending (process_mapped p z)))
          → IfErr r (λ _. y ≡ x) → IsModelOutcome (record m { slots = with_item m.slots s (Some y) }) (mapped_or_refused r) (mapped_to w s z)
      map_comes (Ok u) request answer after refused =
          let tenant_after : IsSlotProcess y (is.tables s) (without_pending u.process) = subst (λ (o : Result ℕ Refusal). IfOk o (λ _. IsSlotProcess y (is.tables s) (without_pending u.process))) answer after in
          let settled : u.process.settled ≡ p.settled = ap (λ z. pages_mapped z p.settled) (sym request) ∙ mapped_settled m.files p len protection flags n in (
            ap mapped_or_refused answer,
            bytes_change m w is s x y p (without_pending u.process) place at slot_process tenant_after m.frames
                (subst (λ (v : View). KeepsSeats PlainStateInvariant m.frames (view_of x) m.frames v) (sym view) (λ others rule. rule))
                (λ k a there. (a, ap (λ (q : PageMap Page). pages.get q k) (sym settled) ∙ there, refl)) (mapped_scheme m.files p len protection flags n u request),
          )
      map_comes (Err e) request answer after refused =
          let same : y ≡ x = subst (λ (o : Result ℕ Refusal). IfErr o (λ _. y ≡ x)) answer refused in (
            ap mapped_or_refused answer,
            subst (λ (z : SlotProcess). IsWorldButBuffers (record m { slots = with_item m.slots s (Some z) }) w) (sym same) (put_back m w is s x place),
          )

    -- the process of the caller maps a file
    pub maps : ((t : Tables) (p : Process) → IsSlotProcess x t p → r ≡ address_of_mapped (mapped m.files p len protection flags n))
        → IfOk r (λ _. (t : Tables) (p : Process) → IsSlotProcess x t p → IsSlotProcess y t (without_pending (process_mapped p (mapped m.files p len protection flags n))))
        → IfErr r (λ _. y ≡ x) → IsModelOutcome (record m { slots = with_item m.slots s (Some y) }) (mapped_or_refused r) (plain_step w (step.Mmap h len protection flags n))
    maps answer after refused =
        let q = process_at m w is s x place in
        subst (λ (o : StepOutcome). IsModelOutcome (record m { slots = with_item m.slots s (Some y) }) (mapped_or_refused r) o) (sym (map_step q.0 q.1 q.2))
        (map_comes q.0 q.1 q.2 (mapped m.files q.0 len protection flags n) refl (answer (is.tables s) q.0 q.2) (of_ok r after) refused) where
          of_ok : (o : Result ℕ Refusal) → IfOk o (λ _. (t : Tables) (p : Process) → IsSlotProcess x t p → IsSlotProcess y t (without_pending (process_mapped p (mapped m.files p len protection flags n))))
              → IfOk o (λ _. IsSlotProcess y (is.tables s) (without_pending (process_mapped (process_at m w is s x place).0 (mapped m.files (process_at m w is s x place).0 len protection flags n))))
          of_ok (Ok a) told = let q = process_at m w is s x place in told (is.tables s) q.0 q.2
          of_ok (Err e) told = tt

  -- munmap

  module _ (address len : ℕ) (b : PlainState) (files : List File) where
    unmap_step : (p : Process) → slice_get w.slots s ≡ Some (Some p) → plain_step w (step.Munmap h address len) ≡ unmapped_to w s (unmapped m.files p address len)
    unmap_step p at = call_runs m w is h s false caller (λ hart k q. unmapped_to w k (unmapped w.files q address len)) p at ∙ ap (λ fs. unmapped_to w s (unmapped fs p address len)) (sym is.files)

    pub unmap_refused : (e : Refusal) → ((t : Tables) (p : Process) → IsSlotProcess x t p → unmapped m.files p address len ≡ Err e) → plain_step w (step.Munmap h address len) ≡ refuses w e
    unmap_refused e refused = let q = process_at m w is s x place in unmap_step q.0 q.1 ∙ ap (unmapped_to w s) (refused (is.tables s) q.0 q.2)

    pub unmap_sets : (p : Process) → slice_get w.slots s ≡ Some (Some p) → (u : Unmapped) → unmapped m.files p address len ≡ Ok u → ((plain_step w (step.Munmap h address len)).world).slots ≡ slice_set w.slots s (Some (without_pending u.process))
    unmap_sets p at u told = ap (λ (o : StepOutcome). (o.world).slots) (unmap_step p at ∙ ap (unmapped_to w s) told)

    follows : (p : Process) → slice_get w.slots s ≡ Some (Some p) → (has : HasUnmapped y (is.tables s) p m.files files address len)
        → Follows (view_of y) (is.tables s) has.tables p (without_pending has.what.process) w.counter w.counter
    follows p at has = keeps_follow (view_of y) (is.tables s) has.tables p (without_pending has.what.process) w.counter
        (λ k a there. is.counted s k p a at there)
        (λ k a there.
        let was = was_settled p (page_of address) (page_of address + pages_for len) k a (ap (λ (q : PageMap Page). pages.get q k) (sym (unmapped_settled m.files p address len has.what has.is)) ∙ there) in
        record { before = a; settled = was.0; copy = refl; on = dropped_on (is.tables s) has.tables _ _ has.drops k })

    -- the process of the caller takes a run out of a mapping
    pub unmaps : {A : Type 0} (r : Result A Refusal) → IfOk r (λ _. (t : Tables) (p : Process) → IsSlotProcess x t p → HasUnmapped y t p m.files files address len)
        → IfErr r (λ e. (t : Tables) (p : Process) → IsSlotProcess x t p → unmapped m.files p address len ≡ Err e) → IfErr r (λ _. y ≡ x) → IfErr r (λ _. files ≡ m.files) → IfErr r (λ _. b ≡ m.frames)
        → KeepsSeats PlainStateInvariant m.frames (view_of x) b (view_of y)
        → IsModelOutcome (record m { frames = b; slots = with_item m.slots s (Some y); files = files }) (done_or_refused r) (plain_step w (step.Munmap h address len))
    unmaps {A = A} (Ok a) told refused same files_stay frames_stay keeps =
        let q = process_at m w is s x place in
        let has = told (is.tables s) q.0 q.2 in
        subst (λ (o : StepOutcome). IsModelOutcome (record m { frames = b; slots = with_item m.slots s (Some y); files = files }) (done_or_refused (done_with a)) o) (sym (unmap_step q.0 q.1 ∙ ap (unmapped_to w s) has.is)) (
          refl,
          subst (λ (fs : List File). IsWorldButBuffers (record m { frames = b; slots = with_item m.slots s (Some y); files = fs }) (unmapped_to w s (Ok has.what)).world) (sym has.files)
              (call_changes m w is s x y q.0 (without_pending has.what.process) has.tables place q.1 has.slot_process w.counter (follows q.0 q.1 has) b keeps (unmapped_scheme m.files q.0 address len has.what has.is ∙ is.schemes s q.0 q.1) has.what.files),
        )
    unmaps {A = A} (Err e) told refused same files_stay frames_stay keeps =
        let q = process_at m w is s x place in
        subst (λ (o : StepOutcome). IsModelOutcome (record m { frames = b; slots = with_item m.slots s (Some y); files = files }) (Scalar (Refused e)) o) (sym (unmap_step q.0 q.1 ∙ ap (unmapped_to w s) (refused (is.tables s) q.0 q.2)))
        (refl, rw (same, files_stay, frames_stay) (put_back m w is s x place))
