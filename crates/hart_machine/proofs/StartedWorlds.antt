-- Lemmas for the step `Start`: the machine is in the model's world (state) with the new process (`starts`), or refused in
-- the one that it was in (`stays`), with the reply of the model (`makes_started`, `makes_refused`).
use Rattle.std.proofs.Common.{◌≡◌, ℕ, ◌≤◌, true, false, ap, sym, subst, ◌∙◌, refl, arith, inl, inr, List, ◌∷◌, Option, None, Some, length}
use Rattle.std.specs.Prelude.{Ok, slice_get, slice_set}
use Rattle.std.proofs.Math.Nat.{lt_of_not-le}
use Rattle.std.proofs.lemmas.Bool.{cases_eq, le-ltb, lt-ltb}
use Rattle.std.proofs.lemmas.List.{length-set}
use Rattle.std.proofs.lemmas.Option.{slice_get_within}
use Rattle.address_space.specs.Agreement.{IsSpace}
use Rattle.address_space.specs.Kernel.{IsKernelTable}
use Rattle.address_space.specs.Parts.{OwnsAlone}
use Rattle.frame_store.specs.Plain.{PlainStateInvariant}
use Rattle.frame_store.specs.Seats.{place_set_other, place_set_same, places_apart}
use Rattle.process_model.specs.Calls.{started, started_unless, with_image}
use Rattle.process_model.specs.Frames.{start_need}
use Rattle.process_model.specs.Images.{image_loads, LoadSegment}
use Rattle.process_model.specs.ImageProcess.{process_of}
use Rattle.process_model.specs.Service.{is_dry}
use Rattle.process_model.specs.World.{free, free_slot, StepOutcome, refuses, World}
use Rattle.process_model.specs.declared.image.Image as model
use Rattle.process_model.specs.declared.reply.Refusal.TheVariants.{NoFrame}
use Rattle.process_model.specs.declared.reply.ScalarReply.TheVariants.{Refused, Started}
use Rattle.process_model.specs.declared.reply.Reply.TheVariants.{Scalar}
use Rattle.process_model.specs.Process.{Process}
use Rattle.table_walk.specs.Tables.{Tables, leaf_node}
use Rattle.hart_machine.specs.SlotProcesses.{IsSlotProcess, body_in, view_of}
use Rattle.process_model.specs.declared.limits.TheConstants.{MOST_SLOTS}
use Rattle.hart_machine.specs.Worlds.{IsSlotContent, IsWorldButBuffers, IsModelOutcome, seats_of}
use Rattle.hart_machine.specs.declared.hart.Hart.{Hart}
use Rattle.hart_machine.specs.declared.machine.Machine.{Machine}
use Rattle.hart_machine.specs.declared.slot_process.SlotProcess.{SlotProcess}
use Rattle.hart_machine.proofs.HeldFrames.{free_is}
use Rattle.hart_machine.proofs.StartSlots.{free_is_empty, free_place}
use Rattle.hart_machine.proofs.StartedCopies.{started_copies, started_counted, new_or_old}
use Rattle.hart_machine.proofs.StartedTables.{tables_here, tables_there, tables_with}
use Rattle.hart_machine.proofs.StartedSeats.{held_inside, seat_comes}
use Rattle.hart_machine.proofs.StartedPages.{loaded_scheme}
use Rattle.sv39_entry.specs.Schemes.{trapframe_page}

module _ (m n : Machine) (w : World) (is : IsWorldButBuffers m w) (s : ℕ) (place : slice_get m.slots.items s ≡ Some None) (at : slice_get w.slots s ≡ Some None)
    (ls : List LoadSegment) (y : SlotProcess) (t : Tables) (sized : n.kernel.seat.size ≡ m.kernel.seat.size) (slots : n.slots.items ≡ slice_set m.slots.items s (Some y)) (harts : n.harts ≡ m.harts) (filed : n.files ≡ m.files) (ruled : n.policy ≡ m.policy) (schemed : n.kernel.scheme ≡ m.kernel.scheme)
    (agrees : IsSpace (body_in y) t (process_of w.scheme w.counter ls)) (alone : OwnsAlone (view_of y) t) (pending : y.pending ≡ None)
    (rule : PlainStateInvariant n.frames (n.kernel.seat ∷ view_of y ∷ seats_of m.slots.items))
    (table : IsKernelTable n.kernel.scheme n.kernel.seat n.kernel.root.0 w.frames (length w.slots) is.stacks is.kernel) where
  abbrev tables : ℕ → Tables
  tables = tables_with is.tables s t

  slot_process : IsSlotProcess y t (process_of w.scheme w.counter ls)
  unfolding process_of
  slot_process = record {
    agrees = agrees;
    framed =
        let leaf = agrees.stands.shows.on_trapframe in
        held_inside n.frames n.kernel.seat (view_of y) m.slots.items rule y.space.trapframe.0 (agrees.stands.owns.named y.space.trapframe.0 (leaf_node (trapframe_page w.scheme)) (inr (leaf.0, leaf.1, leaf.2.names)));
    pending = rw pending refl;
    wide = tt;
  }

  places_at : (k : ℕ) → IsSlotContent (slice_get (slice_set m.slots.items s (Some y)) k) (slice_get (slice_set w.slots s (Some (process_of w.scheme w.counter ls))) k) (tables k)
  places_at k = elim (cases_eq k s) [
    | inl same ↦ rw (tables_here is.tables s t k same, same, place_set_same m.slots.items s (Some y) (slice_get_within m.slots.items s None place), place_set_same w.slots s (Some (process_of w.scheme w.counter ls)) (slice_get_within w.slots s None at)) slot_process
    | inr apart ↦ rw (tables_there is.tables s t k apart, place_set_other m.slots.items s k (Some y) apart, place_set_other w.slots s k (Some (process_of w.scheme w.counter ls)) apart) (is.places k)
  ]

  on_old : (h : ℕ) (x : Hart) → slice_get n.harts.items h ≡ Some x → slice_get m.harts.items h ≡ Some x
  on_old h x on = rw (← harts) on

  -- no hart has the slot
  apart_of : (h k : ℕ) (x : Hart) → slice_get m.harts.items h ≡ Some x → x.slot ≡ Some k → k ≡ s → ⊥
  apart_of h k x on slot same = let z = is.hosted h k x on slot in places_apart m.slots.items k s z.0 z.1 place (sym same)

  hosted_at : (h k : ℕ) (x : Hart) → slice_get m.harts.items h ≡ Some x → x.slot ≡ Some k → (z : SlotProcess) × (slice_get (slice_set m.slots.items s (Some y)) k ≡ Some (Some z))
  hosted_at h k x on slot = let z = is.hosted h k x on slot in (z.0, place_set_other m.slots.items s k (Some y) (apart_of h k x on slot) ∙ z.1)

  pub starts : IsWorldButBuffers n (with_image w s ls)
  starts = record {
    tables = tables;
    kernel = is.kernel;
    stacks = is.stacks;
    policy = ruled ∙ is.policy;
    scheme = schemed ∙ is.scheme;
    schemes = λ k r there. elim (new_or_old m w is s at ls k r there) [
      | inl new ↦ ap (λ (q : Process). q.scheme) (sym new.1) ∙ loaded_scheme w.scheme w.counter ls
      | inr old ↦ is.schemes k r old.1
    ];
    few = subst (λ k. k ≤ MOST_SLOTS) (sym (length-set w.slots s (Some (process_of w.scheme w.counter ls)))) is.few;
    frames = sized ∙ is.frames;
    invariant = subst (λ (xs : List (Option SlotProcess)). PlainStateInvariant n.frames (n.kernel.seat ∷ seats_of xs)) (sym slots) (seat_comes n.frames n.kernel.seat m.slots.items s y place rule);
    of_kernel = subst (λ k. IsKernelTable n.kernel.scheme n.kernel.seat n.kernel.root.0 w.frames k is.stacks is.kernel) (sym (length-set w.slots s (Some (process_of w.scheme w.counter ls)))) table;
    places = λ k. subst (λ (xs : List (Option SlotProcess)). IsSlotContent (slice_get xs k) (slice_get (slice_set w.slots s (Some (process_of w.scheme w.counter ls))) k) (tables k)) (sym slots) (places_at k);
    copies = started_copies m w is s at ls n.frames n.kernel.seat (view_of y) rule y.space.root.0 y.space.trapframe.0 t agrees.stands alone;
    counted = started_counted m w is s at ls;
    files = filed ∙ is.files;
    harts = rw harts is.harts;
    hosted = λ h k x on slot. subst (λ (xs : List (Option SlotProcess)). (z : SlotProcess) × (slice_get xs k ≡ Some (Some z))) (sym slots) (hosted_at h k x (on_old h x on) slot);
    alone = λ s h k x z on also at upon. is.alone s h k x z (on_old h x on) (on_old k z also) at upon;
    idle = λ h x on none. is.idle h x (on_old h x on) none;
    local = λ h x e on. is.local h x e (on_old h x on);
  }

-- the machine as it was, with another seat of the kernel
module _ (m n : Machine) (w : World) (is : IsWorldButBuffers m w) (sized : n.kernel.seat.size ≡ m.kernel.seat.size) (slots : n.slots ≡ m.slots) (harts : n.harts ≡ m.harts) (filed : n.files ≡ m.files) (ruled : n.policy ≡ m.policy) (schemed : n.kernel.scheme ≡ m.kernel.scheme) (rule : PlainStateInvariant n.frames (n.kernel.seat ∷ seats_of m.slots.items))
    (table : IsKernelTable n.kernel.scheme n.kernel.seat n.kernel.root.0 w.frames (length w.slots) is.stacks is.kernel) where
  pub stays : IsWorldButBuffers n w
  stays = record {
    tables = is.tables;
    kernel = is.kernel;
    stacks = is.stacks;
    policy = ruled ∙ is.policy;
    scheme = schemed ∙ is.scheme;
    schemes = is.schemes;
    few = is.few;
    frames = sized ∙ is.frames;
    invariant = rw slots rule;
    of_kernel = table;
    places = rw slots is.places;
    copies = is.copies;
    counted = is.counted;
    files = filed ∙ is.files;
    harts = rw harts is.harts;
    hosted = rw (harts, slots) is.hosted;
    alone = rw harts is.alone;
    idle = rw harts is.idle;
    local = rw harts is.local;
  }

-- what the step of the model makes
module _ (w : World) (s : ℕ) (image : model.Image) (ls : List LoadSegment) (to : free_slot w ≡ Some s) (loaded : image_loads w.scheme image ≡ Ok ls) where
  started_wet : is_dry w (start_need w.scheme ls) ≡ false → started w (image_loads w.scheme image) (free_slot w) ≡ started_unless w s ls false
  started_wet wet = rw (to, loaded, wet) refl

  started_dry : is_dry w (start_need w.scheme ls) ≡ true → started w (image_loads w.scheme image) (free_slot w) ≡ started_unless w s ls true
  started_dry dry = rw (to, loaded, dry) refl

  module _ (m n : Machine) (is : IsWorldButBuffers m w) (sized : n.kernel.seat.size ≡ m.kernel.seat.size) (harts : n.harts ≡ m.harts) (filed : n.files ≡ m.files) (ruled : n.policy ≡ m.policy) (schemed : n.kernel.scheme ≡ m.kernel.scheme)
      (table : IsKernelTable n.kernel.scheme n.kernel.seat n.kernel.root.0 w.frames (length w.slots) is.stacks is.kernel) where
    -- enough frames are free
    pub makes_started : (y : SlotProcess) (t : Tables) → n.slots.items ≡ slice_set m.slots.items s (Some y)
        → IsSpace (body_in y) t (process_of w.scheme w.counter ls) → OwnsAlone (view_of y) t → y.pending ≡ None
        → PlainStateInvariant n.frames (n.kernel.seat ∷ view_of y ∷ seats_of m.slots.items) → start_need w.scheme ls ≤ m.frames.free
        → IsModelOutcome n (Scalar (Started s)) (started w (image_loads w.scheme image) (free_slot w))
    makes_started y t slots agrees alone pending rule enough =
        let was = free_is m w is in
        let wet : is_dry w (start_need w.scheme ls) ≡ false = le-ltb (free w) (start_need w.scheme ls) (omega (arith, enough, was)) in
        subst (λ (o : StepOutcome). IsModelOutcome n (Scalar (Started s)) o) (sym (started_wet wet))
        (refl, starts m n w is s (free_place m w is s to) (free_is_empty w s to) ls y t sized slots harts filed ruled schemed agrees alone pending rule table)

    -- too few are
    pub makes_refused : n.slots ≡ m.slots → PlainStateInvariant n.frames (n.kernel.seat ∷ seats_of m.slots.items) → (start_need w.scheme ls ≤ m.frames.free → ⊥)
        → IsModelOutcome n (Scalar (Refused NoFrame)) (started w (image_loads w.scheme image) (free_slot w))
    makes_refused slots rule few =
        let was = free_is m w is in
        let dry : is_dry w (start_need w.scheme ls) ≡ true = lt-ltb (free w) (start_need w.scheme ls) (lt_of_not-le (λ le. few (omega (arith, was, le)))) in
        subst (λ (o : StepOutcome). IsModelOutcome n (Scalar (Refused NoFrame)) o) (sym (started_dry dry)) (refl, stays m n w is sized slots harts filed ruled schemed rule table)

  module _ (m : Machine) (is : IsWorldButBuffers m w) where
    pub start_sets : start_need w.scheme ls ≤ m.frames.free → ((started w (image_loads w.scheme image) (free_slot w)).world).slots ≡ slice_set w.slots s (Some (process_of w.scheme w.counter ls))
    start_sets enough = let was = free_is m w is in ap (λ (o : StepOutcome). (o.world).slots) (started_wet (le-ltb (free w) (start_need w.scheme ls) (omega (arith, enough, was))))

    pub start_dry : (start_need w.scheme ls ≤ m.frames.free → ⊥) → started w (image_loads w.scheme image) (free_slot w) ≡ refuses w NoFrame
    start_dry few = let was = free_is m w is in started_dry (lt-ltb (free w) (start_need w.scheme ls) (lt_of_not-le (λ le. few (omega (arith, was, le)))))
