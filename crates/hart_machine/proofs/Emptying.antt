-- Lemmas for the end of a process: the machine is in the model's world (state) after the hart became idle (`idles`), and
-- after the slot was emptied and the process's seat closed (`ends`).
use Rattle.std.proofs.Common.{◌≡◌, ℕ, ◌≤◌, Bool, Option, None, Some, List, ◌∷◌, length, refl, ap, sym, subst, ◌∙◌, inl, inr}
use Rattle.std.specs.Prelude.{slice_get, slice_set}
use Rattle.std.specs.Vec.{with_item}
use Rattle.std.proofs.lemmas.Bool.{cases_eq}
use Rattle.std.proofs.lemmas.List.{length-set}
use Rattle.std.proofs.lemmas.Option.{same_Some, slice_get_within}
use Rattle.address_space.specs.Kernel.{IsKernelTable}
use Rattle.frame_store.specs.Laws.{KeepsSeats}
use Rattle.frame_store.specs.Plain.{PlainState, PlainStateInvariant}
use Rattle.frame_store.specs.Seats.{place_out, place_set_other, place_set_same}
use Rattle.frame_store.specs.View.{View}
use Rattle.process_model.specs.Files.{File}
use Rattle.process_model.specs.Mappings.{all_written_back}
use Rattle.process_model.specs.Process.{Process}
use Rattle.process_model.specs.Service.{ended}
use Rattle.process_model.specs.World.{with_hart, World}
use Rattle.process_model.specs.declared.phase.Phase.TheVariants as phase
use Rattle.process_model.specs.declared.reply.Reply.{Reply}
use Rattle.table_walk.specs.Tables.{Tables}
use Rattle.hart_machine.specs.Calls.{IsInKernel}
use Rattle.hart_machine.specs.Harts.{hart_of}
use Rattle.process_model.specs.declared.limits.TheConstants.{MOST_SLOTS}
use Rattle.hart_machine.specs.SlotProcesses.{view_of}
use Rattle.hart_machine.specs.Worlds.{IsSlotContent, IsWorldButBuffers, seats_of}
use Rattle.hart_machine.specs.declared.hart.Hart.{Hart}
use Rattle.hart_machine.specs.declared.machine.Machine.{Machine}
use Rattle.hart_machine.specs.declared.slot_process.SlotProcess.{SlotProcess}
use Rattle.hart_machine.proofs.AccessingWorlds.{Holds, holds_front}
use Rattle.hart_machine.proofs.HartSteps.{hart_changes}
use Rattle.hart_machine.proofs.StartedSeats.{second_steps}

-- the hart lets its process go
abbrev pub idled : Hart → Hart
idled x = record x { phase = phase.Idle; slot = None }

module _ (m : Machine) (w : World) (is : IsWorldButBuffers m w) (h s : ℕ) (waits : Bool) (k : IsInKernel m w h s waits) where
  pub idles : IsWorldButBuffers (record m { harts = with_item m.harts h (idled k.hart) }) (with_hart w h (hart_of (idled k.hart)))
  idles = hart_changes m w is h k.hart (idled k.hart) k.there (λ r on. absurd (cc)) (λ r on j z at also. absurd (cc)) (λ none. refl) (λ e. is.local h k.hart e k.there)

  -- then no hart has the slot
  pub on_none : (j : ℕ) (z : Hart) → slice_get (slice_set m.harts.items h (idled k.hart)) j ≡ Some z → z.slot ≡ Some s → ⊥
  on_none j z at on = elim (cases_eq j h) [
    | inl same ↦ (
        let here : idled k.hart ≡ z = same_Some (idled k.hart) z (sym (place_set_same m.harts.items h (idled k.hart) (slice_get_within m.harts.items h k.hart k.there)) ∙ ap (slice_get (slice_set m.harts.items h (idled k.hart))) (sym same) ∙ at) in
        let none : None ≡ Some s = ap (λ (y : Hart). y.slot) here ∙ on in cc)
    | inr apart ↦ apart (is.alone s j h z k.hart (sym (place_set_other m.harts.items h j (idled k.hart) apart) ∙ at) k.there on k.on)
  ]

-- a process on no hart goes
module _ (m : Machine) (w : World) (is : IsWorldButBuffers m w) (s : ℕ) (x : SlotProcess) (p : Process) (place : slice_get m.slots.items s ≡ Some (Some x)) (at : slice_get w.slots s ≡ Some (Some p))
    (free : (h : ℕ) (z : Hart) → slice_get m.harts.items h ≡ Some z → z.slot ≡ Some s → ⊥) where
  -- a process that is left was there, in another slot
  left : (i : ℕ) (q : Process) → slice_get (slice_set w.slots s None) i ≡ Some (Some q) → slice_get w.slots i ≡ Some (Some q)
  left i q there = elim (cases_eq i s) [
    | inl same ↦ absurd (
        let none : Some None ≡ Some (Some q) = sym (place_set_same w.slots s None (slice_get_within w.slots s (Some p) at)) ∙ ap (slice_get (slice_set w.slots s None)) (sym same) ∙ there in
        cc)
    | inr apart ↦ sym (place_set_other w.slots s i None apart) ∙ there
  ]

  places : (i : ℕ) → IsSlotContent (slice_get (slice_set m.slots.items s None) i) (slice_get (slice_set w.slots s None) i) (is.tables i)
  places i = elim (cases_eq i s) [
    | inl same ↦ rw (same, place_set_same m.slots.items s None (slice_get_within m.slots.items s (Some x) place), place_set_same w.slots s None (slice_get_within w.slots s (Some p) at)) tt
    | inr apart ↦ rw (place_set_other m.slots.items s i None apart, place_set_other w.slots s i None apart) (is.places i)
  ]

  hosted : (h r : ℕ) (z : Hart) → slice_get m.harts.items h ≡ Some z → z.slot ≡ Some r → (t : SlotProcess) × (slice_get (slice_set m.slots.items s None) r ≡ Some (Some t))
  hosted h r z on slot =
      let old = is.hosted h r z on slot in
      let apart : r ≡ s → ⊥ = λ same. free h z on (slot ∙ ap Some same) in
      (old.0, place_set_other m.slots.items s r None apart ∙ old.1)

  pub empties : (n : Machine) → n.policy ≡ m.policy → n.kernel.scheme ≡ m.kernel.scheme → n.kernel.seat.size ≡ m.kernel.seat.size → n.slots.items ≡ slice_set m.slots.items s None → n.harts ≡ m.harts → PlainStateInvariant n.frames (n.kernel.seat ∷ seats_of (slice_set m.slots.items s None))
      → IsKernelTable n.kernel.scheme n.kernel.seat n.kernel.root.0 w.frames (length w.slots) is.stacks is.kernel → IsWorldButBuffers n (record w { slots = slice_set w.slots s None; files = n.files })
  empties n ruled schemed sized slots harts rule table = record {
    tables = is.tables;
    kernel = is.kernel;
    stacks = is.stacks;
    policy = ruled ∙ is.policy;
    scheme = schemed ∙ is.scheme;
    schemes = λ i o at. is.schemes i o (left i o at);
    few = subst (λ i. i ≤ MOST_SLOTS) (sym (length-set w.slots s None)) is.few;
    frames = sized ∙ is.frames;
    invariant = rw slots rule;
    of_kernel = subst (λ i. IsKernelTable n.kernel.scheme n.kernel.seat n.kernel.root.0 w.frames i is.stacks is.kernel) (sym (length-set w.slots s None)) table;
    places = rw slots places;
    copies = λ i j l r f g o q a c at_i at_j. is.copies i j l r f g o q a c (left i o at_i) (left j q at_j);
    counted = λ i r o a there. is.counted i r o a (left i o there);
    files = refl;
    harts = rw harts is.harts;
    hosted = rw (harts, slots) hosted;
    alone = rw harts is.alone;
    idle = rw harts is.idle;
    local = rw harts is.local;
  }

-- the seats, when the process of a slot has ended with a seat that holds nothing
pub seat_left : (b c : PlainState) (k : View) (places : List (Option SlotProcess)) (s : ℕ) (x : SlotProcess) (v : View) → slice_get places s ≡ Some (Some x) → KeepsSeats PlainStateInvariant b (view_of x) c v → PlainStateInvariant b (k ∷ seats_of places)
    → PlainStateInvariant c (k ∷ v ∷ seats_of (slice_set places s None))
seat_left b c k places s x v at keeps rule = second_steps b c k (view_of x) v (seats_of (slice_set places s None)) keeps (place_out (Holds b k) places s (holds_front b k) x at rule)

module _ (m : Machine) (w : World) (is : IsWorldButBuffers m w) (h s : ℕ) (waits : Bool) (k : IsInKernel m w h s waits) where
  -- the process with which a hart is in the kernel ends
  pub ends : (x : SlotProcess) → slice_get m.slots.items s ≡ Some (Some x) → (n : Machine) → n.policy ≡ m.policy → n.kernel.scheme ≡ m.kernel.scheme → n.kernel.seat.size ≡ m.kernel.seat.size → n.slots.items ≡ slice_set m.slots.items s None
      → n.harts ≡ with_item m.harts h (idled k.hart) → n.files ≡ all_written_back m.files k.process → PlainStateInvariant n.frames (n.kernel.seat ∷ seats_of (slice_set m.slots.items s None))
      → ((frames slots : ℕ) (stacks : List ℕ) (t : Tables) → IsKernelTable m.kernel.scheme m.kernel.seat m.kernel.root.0 frames slots stacks t → IsKernelTable n.kernel.scheme n.kernel.seat n.kernel.root.0 frames slots stacks t)
      → (reply : Reply) → IsWorldButBuffers n (ended w h (hart_of k.hart) s k.process reply).world
  ends x place n ruled schemed sized slots harts files rule table reply =
      let idle : Machine = record m { harts = with_item m.harts h (idled k.hart) } in
      let world = idles m w is h s waits k in
      let after = empties idle (with_hart w h (hart_of (idled k.hart))) world s x k.process place k.in_slot (on_none m w is h s waits k) n ruled schemed sized slots harts rule (table _ _ _ _ world.of_kernel) in
      subst (λ (fs : List File). IsWorldButBuffers n (record (with_hart w h (hart_of (idled k.hart))) { slots = slice_set w.slots s None; files = fs })) (files ∙ ap (λ (fs : List File). all_written_back fs k.process) is.files) after
