-- Lemmas: the machine is in the model's world (state) after one process's bytes or pending access changed (`bytes_change`),
-- as by a user access (`access_changes`); and on the seats of the machine.
use Rattle.std.proofs.Common.{◌≡◌, ℕ, get_or, Option, None, Some, List, [], ◌∷◌, map, ap, sym, ◌∙◌}
use Rattle.std.specs.Prelude.{slice_get, slice_set}
use Rattle.std.specs.Vec.{with_item}
use Rattle.std.proofs.lemmas.Option.{get_or_from_slice_get}
use Rattle.frame_store.specs.Laws.{IsSeatOf, KeepsSeats}
use Rattle.frame_store.specs.Plain.{PlainState, PlainStateInvariant, to_back, to_front}
use Rattle.frame_store.specs.Seats.{comes_front-behind, comes_front-map, ComesFront, goes_back-behind, goes_back-map, GoesBack, place_out, place_step, present}
use Rattle.frame_store.specs.View.{View}
use Rattle.process_model.specs.Process.{Process}
use Rattle.process_model.specs.Service.{AccessRequest, user_access}
use Rattle.process_model.specs.World.{with_process, World}
use Rattle.hart_machine.specs.SlotProcesses.{IsSlotProcess, view_of}
use Rattle.hart_machine.specs.Worlds.{IsWorldButBuffers, seats_of}
use Rattle.hart_machine.specs.declared.machine.Machine.{Machine}
use Rattle.hart_machine.specs.declared.slot_process.SlotProcess.{SlotProcess}
use Rattle.hart_machine.proofs.AccessingPages.{access_has_copies}
use Rattle.hart_machine.proofs.ProcessSteps.{HasCopies, process_changes}
use Rattle.hart_machine.proofs.KeptSchemes.{access_scheme}

-- seats

module _ (b : PlainState) (k : View) where
  abbrev pub Holds : List SlotProcess → Type 0
  Holds owners = PlainStateInvariant b (k ∷ map view_of owners)

  pub holds_front : ComesFront Holds
  holds_front = comes_front-map (λ (seats : List View). PlainStateInvariant b (k ∷ seats)) view_of (comes_front-behind (PlainStateInvariant b) k (to_front b.words b.counts b.free) (to_back b.words b.counts b.free))

  pub holds_back : GoesBack Holds
  holds_back = goes_back-map (λ (seats : List View). PlainStateInvariant b (k ∷ seats)) view_of (goes_back-behind (PlainStateInvariant b) k (to_front b.words b.counts b.free) (to_back b.words b.counts b.free))

module _ (b : PlainState) (k : View) (places : List (Option SlotProcess)) (s : ℕ) (x : SlotProcess) (at : slice_get places s ≡ Some (Some x)) (rule : PlainStateInvariant b (k ∷ seats_of places)) where
  -- the seat of a place comes to the front of all
  pub seat_fits : IsSeatOf PlainStateInvariant b (view_of x)
  seat_fits = (k ∷ map view_of (present (slice_set places s None)), to_front b.words b.counts b.free (k ∷ []) (view_of x) (map view_of (present (slice_set places s None))) (place_out (Holds b k) places s (holds_front b k) x at rule))

  pub seat_steps : (c : PlainState) (y : SlotProcess) → KeepsSeats PlainStateInvariant b (view_of x) c (view_of y) → PlainStateInvariant c (k ∷ seats_of (slice_set places s (Some y)))
  seat_steps c y keeps = place_step (Holds b k) (Holds c k) (holds_front b k) (holds_back c k) places s x y at
      (λ others h. to_back c.words c.counts c.free (k ∷ []) (view_of y) (map view_of others) (keeps (k ∷ map view_of others) (to_front b.words b.counts b.free (k ∷ []) (view_of x) (map view_of others) h))) rule

-- the process that is in a slot
pub slot_has : (places : List (Option SlotProcess)) (s : ℕ) (x y : SlotProcess) (o : Option SlotProcess) → o ≡ Some y → o ≡ get_or places s o → slice_get places s ≡ Some (Some x) → slice_get places s ≡ Some (Some y)
slot_has places s x y o is read at = at ∙ ap Some (sym (get_or_from_slice_get places s (Some x) o at) ∙ sym read ∙ is)

module _ (m : Machine) (w : World) (is : IsWorldButBuffers m w) (s : ℕ) (x y : SlotProcess) (p q : Process) (place : slice_get m.slots.items s ≡ Some (Some x)) (at : slice_get w.slots s ≡ Some (Some p)) where
  -- the process of a slot has other bytes
  pub bytes_change : IsSlotProcess x (is.tables s) p → IsSlotProcess y (is.tables s) q → (b : PlainState) → KeepsSeats PlainStateInvariant m.frames (view_of x) b (view_of y) → HasCopies q p → q.scheme ≡ p.scheme
      → IsWorldButBuffers (record m { frames = b; slots = with_item m.slots s (Some y) }) (with_process w s q)
  bytes_change old new b keeps same schemed = process_changes m w is s x y p q place at same b
      (seat_steps m.frames m.kernel.seat m.slots.items s x place is.invariant b y keeps) new schemed

module _ (m : Machine) (w : World) (is : IsWorldButBuffers m w) (s : ℕ) (x y : SlotProcess) (p : Process) (place : slice_get m.slots.items s ≡ Some (Some x)) (at : slice_get w.slots s ≡ Some (Some p)) (a : AccessRequest) where
  -- the process of a slot made an access
  pub access_changes : IsSlotProcess x (is.tables s) p → IsSlotProcess y (is.tables s) (user_access p a).process → (b : PlainState) → KeepsSeats PlainStateInvariant m.frames (view_of x) b (view_of y)
      → IsWorldButBuffers (record m { frames = b; slots = with_item m.slots s (Some y) }) (with_process w s (user_access p a).process)
  access_changes old new b keeps = bytes_change m w is s x y p (user_access p a).process place at old new b keeps (access_has_copies p a) (access_scheme p a)
