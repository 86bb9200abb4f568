-- Lemmas on the seats of a machine while a process starts: the kernel's, from which the new one is opened with frame 0, and
-- the others'; and the new one becomes that of the process in an empty slot.
use Rattle.std.proofs.Common.{◌≡◌, ℕ, ◌^◌, ◌<◌, ◌≤◌, inl, inr, false, refl, ap, ◌∙◌, arith, List, [], ◌∷◌, Option, None, Some, zero, suc, slice_index}
use Rattle.std.specs.Prelude.{slice_get, slice_set}
use Rattle.std.proofs.lemmas.Bool.{cases_lt}
use Rattle.std.proofs.lemmas.List.{get_or_past}
use Rattle.std.proofs.lemmas.Option.{same_Some}
use Rattle.address_space.specs.Agreement.{HoldsTrampoline}
use Rattle.address_space.specs.Kernel.{IsKernelTable}
use Rattle.frame_store.specs.SeatOpening.{opened, opener}
use Rattle.frame_store.specs.Holds.{hold_of-empty, hold_of-with_hold_other, hold_of-with_hold_same}
use Rattle.frame_store.specs.Laws.{IsSeatOf, KeepsSeats}
use Rattle.frame_store.specs.Plain.{Agrees, PlainState, PlainStateInvariant, to_back, to_front, total_references}
use Rattle.frame_store.specs.Seats.{place_in}
use Rattle.frame_store.specs.View.{empty_view, Hold, hold_of, IsSole, opening_view, references, sole_hold, View}
use Rattle.hart_machine.specs.SlotProcesses.{view_of}
use Rattle.hart_machine.specs.Worlds.{seats_of}
use Rattle.hart_machine.specs.declared.machine.Machine.{Machine}
use Rattle.hart_machine.specs.declared.slot_process.SlotProcess.{SlotProcess}
use Rattle.hart_machine.proofs.AccessingWorlds.{Holds, holds_back}
use Rattle.hart_machine.proofs.StartSeats.{kernel_kept}
use Rattle.table_walk.specs.Tables.{Tables}
use Rattle.sv39_entry.specs.declared.scheme.Scheme.{Scheme}

-- the first seat of a store
pub opening_holds : (frames : ℕ) → HoldsTrampoline (opening_view frames)
opening_holds frames = record {
  once = ap (λ (h : Hold). h.references) (hold_of-with_hold_same 0 sole_hold (empty_view frames));
  others = λ f apart. ap (λ (h : Hold). h.references) (hold_of-with_hold_other 0 sole_hold (empty_view frames) f apart ∙ hold_of-empty frames f);
  credits = refl;
}

-- a seat that was opened

module _ (v : View) where
  pub opened_holds : HoldsTrampoline (opened v)
  opened_holds = record {
    once = ap (λ (h : Hold). h.references) (hold_of-with_hold_same 0 record { references = 1; sole = false; words = (hold_of v 0).words } (empty_view v.size));
    others = λ f apart. ap (λ (h : Hold). h.references) (hold_of-with_hold_other 0 record { references = 1; sole = false; words = (hold_of v 0).words } (empty_view v.size) f apart ∙ hold_of-empty v.size f);
    credits = refl;
  }

  pub opener_code : references v 0 ≡ 1 → references (opener v) 0 ≡ 1
  opener_code one = ap (λ (h : Hold). h.references) (hold_of-with_hold_same 0 (record (hold_of v 0) { sole = false }) v) ∙ one

  -- the kernel's table stands on the seat that opened it
  pub opener_kernel : (scheme : Scheme) (root frames slots : ℕ) (stacks : List ℕ) (t : Tables) → IsKernelTable scheme v root frames slots stacks t → IsKernelTable scheme (opener v) root frames slots stacks t
  opener_kernel scheme root frames slots stacks t k =
      kernel_kept scheme v (opener v) root frames slots stacks t (hold_of-with_hold_other 0 (record (hold_of v 0) { sole = false }) v) (opener_code k.maps.holds.code) k.credits k

-- a machine that opened a seat
module _ (m n : Machine) (opens : n.kernel ≡ record m.kernel { seat = opener m.kernel.seat }) where
  pub open_code : references m.kernel.seat 0 ≡ 1 → references n.kernel.seat 0 ≡ 1
  open_code one = rw opens (opener_code m.kernel.seat one)

  pub open_kernel : (frames slots : ℕ) (stacks : List ℕ) (t : Tables) → IsKernelTable m.kernel.scheme m.kernel.seat m.kernel.root.0 frames slots stacks t
      → IsKernelTable n.kernel.scheme n.kernel.seat n.kernel.root.0 frames slots stacks t
  open_kernel frames slots stacks t k = rw opens (opener_kernel m.kernel.seat m.kernel.scheme m.kernel.root.0 frames slots stacks t k)

-- the seat behind the kernel's steps
pub second_steps : (b c : PlainState) (k v w : View) (others : List View) → KeepsSeats PlainStateInvariant b v c w → PlainStateInvariant b (k ∷ v ∷ others) → PlainStateInvariant c (k ∷ w ∷ others)
second_steps b c k v w others keeps rule = to_back c.words c.counts c.free (k ∷ []) w others (keeps (k ∷ others) (to_front b.words b.counts b.free (k ∷ []) v others rule))

pub second_fits : (b : PlainState) (k v : View) (others : List View) → PlainStateInvariant b (k ∷ v ∷ others) → IsSeatOf PlainStateInvariant b v
second_fits b k v others rule = (k ∷ others, to_front b.words b.counts b.free (k ∷ []) v others rule)

-- the seat behind the kernel's goes to an empty place
pub seat_comes : (b : PlainState) (k : View) (places : List (Option SlotProcess)) (s : ℕ) (y : SlotProcess) → slice_get places s ≡ Some None → PlainStateInvariant b (k ∷ view_of y ∷ seats_of places)
    → PlainStateInvariant b (k ∷ seats_of (slice_set places s (Some y)))
seat_comes b k places s y at rule = place_in (Holds b k) places s (holds_back b k) y at rule

-- references of one process are among all
among_all : (f : ℕ) (places : List (Option SlotProcess)) (j : ℕ) (z : SlotProcess) → slice_get places j ≡ Some (Some z) → references (view_of z) f ≤ total_references f (seats_of places)
among_all f [] j z at = absurd (cc)
among_all f (None ∷ places) zero z at = absurd (cc)
among_all f (None ∷ places) (suc j) z at = among_all f places j z at
among_all f (Some x ∷ places) zero z at =
    let here : references (view_of x) f ≡ references (view_of z) f = ap (λ (y : SlotProcess). references (view_of y) f) (same_Some x z (same_Some _ _ at)) in
    omega (arith, here)
among_all f (Some x ∷ places) (suc j) z at = let rest = among_all f places j z at in omega (arith, rest)

module _ (b : PlainState) (k v : View) (places : List (Option SlotProcess)) (rule : PlainStateInvariant b (k ∷ v ∷ seats_of places)) where
  -- a frame that the new seat holds alone no other process has
  pub sole_apart : (f j : ℕ) (z : SlotProcess) → IsSole v f → slice_get places j ≡ Some (Some z) → references (view_of z) f ≡ 0
  sole_apart f j z sole at =
      let agrees : Agrees b.words b.counts v = rule.agrees.1.0 in
      let whole = (agrees f).sole sole in
      let all = rule.counted f in
      let its = among_all f places j z at in
      omega (arith, whole.1, all, its)

  -- a frame that is held is one of the memory
  pub held_inside : (f : ℕ) → references v f ≡ 1 → f < 2 ^ 16
  held_inside f held = elim (cases_lt f 1024) [
    | inl low ↦ omega (arith, low)
    | inr high ↦ absurd (
        let none : slice_index b.counts f ≡ 0 = get_or_past b.counts f 0 (let few = rule.few in omega (arith, few, high)) in
        let all = rule.counted f in
        omega (arith, none, all, held))
  ]
