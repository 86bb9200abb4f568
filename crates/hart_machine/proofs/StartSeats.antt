-- Lemmas on the kernel's seat when processes start and end: each count is below 65,535, so it can share frame 0; and it still
-- has the kernel's table after it took in a seat that holds frame 0 alone, or nothing.
use Rattle.std.proofs.Common.{◌≡◌, ℕ, suc, ◌-◌, ◌<◌, ◌≤◌, IsTrue, Option, None, Some, List, [], ◌∷◌, length, inl, inr, refl, slice_index, ap, sym, ◌∙◌, subst, arith}
use Rattle.std.specs.FinMap as finite
use Rattle.std.specs.Ordering.{nat_cmp}
use Rattle.std.specs.Prelude.{slice_get}
use Rattle.std.proofs.lemmas.Bool.{cases_lt}
use Rattle.std.proofs.lemmas.Option.{same_Some, slice_get-get_or, slice_get_past}
use Rattle.address_space.specs.Agreement.{HoldsTrampoline}
use Rattle.address_space.specs.Kernel.{HoldsKernel, IsKernelTable}
use Rattle.address_space.specs.Steps.{IsBare}
use Rattle.frame_store.specs.Plain.{total_references}
use Rattle.frame_store.specs.Holds.{hold_of-with_hold_same, hold_of-with_hold_other}
use Rattle.frame_store.specs.ViewJoin.{hold_of-joined}
use Rattle.frame_store.specs.Laws.{IsAnchored}
use Rattle.frame_store.specs.View.{Hold, View, hold_of, joined, references, released, with_hold}
use Rattle.hart_machine.specs.SlotProcesses.{view_of}
use Rattle.hart_machine.specs.Worlds.{IsSlotContent, IsWorldButBuffers, seats_of}
use Rattle.hart_machine.specs.declared.machine.Machine.{Machine}
use Rattle.hart_machine.specs.declared.slot_process.SlotProcess.{SlotProcess}
use Rattle.process_model.specs.Process.{Process}
use Rattle.process_model.specs.World.{World}
use Rattle.table_walk.specs.Tables.{Tables}
use Rattle.table_walk.specs.SameFrames.{same_tables}
use Rattle.sv39_entry.specs.declared.scheme.Scheme.{Scheme}

-- a process names no frame twice
names_once : (f : ℕ) (o : Option (Option SlotProcess)) (q : Option (Option Process)) (t : Tables) (x : SlotProcess) → o ≡ Some (Some x) → IsSlotContent o q t → references (view_of x) f ≤ 1
names_once f None q t x is place = absurd (cc)
names_once f (Some None) q t x is place = absurd (cc)
names_once f (Some (Some y)) None t x is place = absurd place
names_once f (Some (Some y)) (Some None) t x is place = absurd place
names_once f (Some (Some y)) (Some (Some p)) t x is place =
    let owns = place.agrees.stands.owns in
    let here : references (view_of y) f ≤ 1 = elim (cases_lt 1 (references (view_of y) f)) [
      | inl more ↦ (
          let none : references (view_of y) f ≡ 0 = owns.bare f (λ k names. let one : references (view_of y) f ≡ 1 = owns.named f k names in omega (arith, one, more)) in
          absurd (omega (arith, none, more)))
      | inr few ↦ few
    ] in
    subst (λ (z : SlotProcess). references (view_of z) f ≤ 1) (same_Some _ _ (same_Some _ _ is)) here

seats_total : (f : ℕ) (places : List (Option SlotProcess)) → ((i : ℕ) (x : SlotProcess) → slice_get places i ≡ Some (Some x) → references (view_of x) f ≤ 1)
    → total_references f (seats_of places) ≤ length places
seats_total f [] once = omega arith
seats_total f (None ∷ places) once = let rest = seats_total f places (λ i x at. once (suc i) x at) in omega (arith, rest)
seats_total f (Some x ∷ places) once =
    let rest = seats_total f places (λ i y at. once (suc i) y at) in
    let here = once 0 x refl in
    omega (arith, rest, here)

-- nor does the kernel
kernel_once : (f : ℕ) (v : View) (stacks : List ℕ) (tables : finite.FinMap nat_cmp ℕ) → HoldsKernel v stacks tables → references v f ≤ 1
kernel_once f v stacks tables h = elim (cases_lt 1 (references v f)) [
  | inl more ↦ (
      let none = h.bare f
      (λ first. let one = h.code in let same = ap (references v) first in omega (arith, one, same, more))
      (λ s at. let one = (h.stack s f at).0 in omega (arith, one, more))
      (λ k at. let one = h.table k f at in omega (arith, one, more)) in
      absurd (omega (arith, none, more)))
  | inr few ↦ few
]

-- places of both have one number
as_many : (o : Option (Option SlotProcess)) (q : Option (Option Process)) (t : Tables) (a : Option SlotProcess) → o ≡ Some a → IsSlotContent o q t → q ≡ None → ⊥
as_many None q t a is place none = absurd (cc)
as_many (Some None) None t a is place none = place
as_many (Some (Some x)) None t a is place none = place
as_many (Some x) (Some p) t a is place none = absurd (cc)

module _ (m : Machine) (w : World) (is : IsWorldButBuffers m w) where
  few_places : length m.slots.items ≤ 64
  few_places = elim (cases_lt 64 (length m.slots.items)) [
    | inl more ↦ absurd (as_many _ _ (is.tables 64) _ (slice_get-get_or m.slots.items 64 None more) (is.places 64) (slice_get_past w.slots 64 is.of_kernel.few_slots))
    | inr few ↦ few
  ]

  -- so each frame has few references
  pub few_shared : (f : ℕ) → slice_index m.frames.counts f < 65535
  few_shared f =
      let few = few_places in
      let seats = seats_total f m.slots.items (λ i x at. names_once f _ _ (is.tables i) x at (is.places i)) in
      let all = is.invariant.counted f in
      let own = kernel_once f m.kernel.seat is.stacks is.kernel.tables is.of_kernel.maps.holds in
      omega (arith, few, seats, all, own)

  pub code_shared : slice_index m.frames.counts 0 < 65535
  code_shared = few_shared 0

-- the kernel's table stands on frames that are not frame 0, and on one reference of that
pub kernel_kept : (scheme : Scheme) (v w : View) (root frames slots : ℕ) (stacks : List ℕ) (t : Tables) → ((f : ℕ) → (f ≡ 0 → ⊥) → hold_of w f ≡ hold_of v f) → references w 0 ≡ 1 → w.credits ≡ 0
    → IsKernelTable scheme v root frames slots stacks t → IsKernelTable scheme w root frames slots stacks t
kernel_kept scheme v w root frames slots stacks t same once none k =
    let h = k.maps.holds in
    let count : (f : ℕ) → (f ≡ 0 → ⊥) → references w f ≡ references v f = λ f far. ap (λ (x : Hold). x.references) (same f far) in
    record {
      maps = record {
        tables = same_tables v w root t (λ n f at. same f (h.table_no_code n f at)) k.maps.tables;
        leaves = k.maps.leaves;
        numbers = k.maps.numbers;
        holds = record {
          code = once;
          stack = λ s f at. (let far = h.stack_no_code s f at in let was = h.stack s f at in (count f far ∙ was.0, subst (λ (x : Hold). IsTrue x.sole) (sym (same f far)) was.1, was.2));
          table = λ n f at. count f (h.table_no_code n f at) ∙ h.table n f at;
          bare = λ f far no_stack no_table. count f far ∙ h.bare f far no_stack no_table;
          stacks_apart = h.stacks_apart;
          stack_no_table = h.stack_no_table;
          stack_no_code = h.stack_no_code;
          table_no_code = h.table_no_code;
        };
      };
      stacked = k.stacked;
      few_frames = k.few_frames;
      few_slots = k.few_slots;
      credits = none;
    }

-- what the kernel's seat has when it takes a seat with frame 0 alone in, and lets the reference go
module _ (v x : View) (code : references v 0 ≡ 1) (one : HoldsTrampoline x) where
  joined_at : (f : ℕ) → (f ≡ 0 → ⊥) → hold_of (joined v x) f ≡ hold_of v f
  joined_at f far = hold_of-joined v x f ∙ (let none = one.others f far in rw none refl)

  joined_code : references (joined v x) 0 ≡ 2
  joined_code = ap (λ (h : Hold). h.references) (hold_of-joined v x 0) ∙ (let here = one.once in rw (here, code) refl)

  closed_is : released 0 (joined v x) ≡ with_hold 0 (record (hold_of (joined v x) 0) { references = references (joined v x) 0 - 1 }) (joined v x)
  closed_is = rw joined_code refl

  closed_code : references (released 0 (joined v x)) 0 ≡ 1
  closed_code = ap (λ u. references u 0) closed_is ∙ ap (λ (h : Hold). h.references) (hold_of-with_hold_same 0 _ (joined v x)) ∙ (let two = joined_code in omega (arith, two))

  closed_at : (f : ℕ) → (f ≡ 0 → ⊥) → hold_of (released 0 (joined v x)) f ≡ hold_of v f
  closed_at f far = ap (λ u. hold_of u f) closed_is ∙ hold_of-with_hold_other 0 _ (joined v x) f far ∙ joined_at f far

  pub closed_anchored : IsAnchored (released 0 (joined v x))
  closed_anchored f held = let one = closed_code in omega (arith, one)

  pub closed_kernel : (w : View) → w ≡ released 0 (joined v x) → (scheme : Scheme) (root frames slots : ℕ) (stacks : List ℕ) (t : Tables) → IsKernelTable scheme v root frames slots stacks t → IsKernelTable scheme w root frames slots stacks t
  closed_kernel w is scheme root frames slots stacks t k =
      subst (λ u. IsKernelTable scheme u root frames slots stacks t) (sym is)
      (kernel_kept scheme v (released 0 (joined v x)) root frames slots stacks t closed_at closed_code
      (ap (λ (u : View). u.credits) closed_is ∙ (let own = k.credits in let its = one.credits in omega (arith, own, its))) k)

-- and when it takes one in that holds nothing
module _ (v x : View) (bare : IsBare x) where
  taken_at : (f : ℕ) → hold_of (joined v x) f ≡ hold_of v f
  taken_at f = hold_of-joined v x f ∙ (let none = bare.none f in rw none refl)

  pub taken_kernel : (w : View) → w ≡ joined v x → (scheme : Scheme) (root frames slots : ℕ) (stacks : List ℕ) (t : Tables) → IsKernelTable scheme v root frames slots stacks t → IsKernelTable scheme w root frames slots stacks t
  taken_kernel w is scheme root frames slots stacks t k =
      subst (λ u. IsKernelTable scheme u root frames slots stacks t) (sym is)
      (kernel_kept scheme v (joined v x) root frames slots stacks t (λ f far. taken_at f) (ap (λ (h : Hold). h.references) (taken_at 0) ∙ k.maps.holds.code)
      (let own = k.credits in let its = bare.credits in omega (arith, own, its)) k)
