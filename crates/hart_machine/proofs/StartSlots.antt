-- Lemmas for `free_slot`: the lowest slot without a process is empty in machine and model, and the loop that searches for it
-- finds the model's, or none.
use Rattle.std.proofs.Common.{◌≡◌, ℕ, zero, suc, ◌+◌, ◌<◌, ap, sym, subst, ◌∙◌, refl, true, false, inl, inr, is_some, Option, None, Some, List, [], ◌∷◌, length, get_or, arith}
use Rattle.std.specs.Prelude.{slice_get}
use Rattle.std.specs.Vec.{vec_len}
use Rattle.std.proofs.lemmas.Bool.{cases_eq}
use Rattle.std.proofs.lemmas.Option.{same_Some, slice_get-get_or, slice_get_within}
use Rattle.hart_machine.specs.Worlds.{IsSlotContent, IsWorldButBuffers}
use Rattle.hart_machine.specs.declared.machine.Machine.{Machine}
use Rattle.hart_machine.specs.declared.slot_process.SlotProcess.{SlotProcess}
use Rattle.process_model.specs.Process.{Process}
use Rattle.process_model.specs.World.{World, free_slot, lowest_free}
use Rattle.table_walk.specs.Tables.{Tables}

lowest_is : (slots : List (Option Process)) (n k : ℕ) → ((i : ℕ) → i < k → (p : Process) × (slice_get slots i ≡ Some (Some p))) → slice_get slots k ≡ Some None → lowest_free n slots ≡ Some (n + k)
lowest_is [] n k below at = absurd (cc)
lowest_is (None ∷ slots) n zero below at = ap (λ i. Some i) (omega arith)
lowest_is (None ∷ slots) n (suc k) below at = absurd (let first = (below 0 (omega arith)).1 in cc)
lowest_is (Some p ∷ slots) n zero below at = absurd (cc)
lowest_is (Some p ∷ slots) n (suc k) below at = lowest_is slots (n + 1) k (λ i lt. below (suc i) (omega (arith, lt))) at ∙ ap (λ i. Some i) (omega arith)

none_free : (slots : List (Option Process)) (n : ℕ) → ((i : ℕ) → slice_get slots i ≡ Some None → ⊥) → lowest_free n slots ≡ None
none_free [] n full = refl
none_free (None ∷ slots) n full = absurd (full 0 refl)
none_free (Some p ∷ slots) n full = none_free slots (n + 1) (λ i at. full (suc i) at)

-- the slot that is found has no process
found_free : (slots : List (Option Process)) (n s : ℕ) → lowest_free n slots ≡ Some s → (k : ℕ) × (s ≡ n + k) × (slice_get slots k ≡ Some None)
found_free [] n s e = absurd (cc)
found_free (None ∷ slots) n s e = (0, (let same = same_Some n s e in omega (arith, same)), refl)
found_free (Some p ∷ slots) n s e = let r = found_free slots (n + 1) s e in (suc r.0, omega (arith, r.1), r.2)

pub free_is_empty : (w : World) (s : ℕ) → free_slot w ≡ Some s → slice_get w.slots s ≡ Some None
free_is_empty w s e = let r = found_free w.slots 0 s e in ap (slice_get w.slots) (omega (arith, r.1)) ∙ r.2

-- what stands in a place of the machine and of the model

process_at : (o : Option (Option SlotProcess)) (q : Option (Option Process)) (t : Tables) (x : SlotProcess) → o ≡ Some (Some x) → IsSlotContent o q t → (p : Process) × (q ≡ Some (Some p))
process_at None q t x is place = absurd (cc)
process_at (Some None) q t x is place = absurd (cc)
process_at (Some (Some y)) None t x is place = absurd place
process_at (Some (Some y)) (Some None) t x is place = absurd place
process_at (Some (Some y)) (Some (Some p)) t x is place = (p, refl)

empty_at : (o : Option (Option SlotProcess)) (q : Option (Option Process)) (t : Tables) → o ≡ Some None → IsSlotContent o q t → q ≡ Some None
empty_at None q t is place = absurd (cc)
empty_at (Some (Some y)) q t is place = absurd (cc)
empty_at (Some None) None t is place = absurd place
empty_at (Some None) (Some None) t is place = refl
empty_at (Some None) (Some (Some p)) t is place = absurd place

empty_back : (o : Option (Option SlotProcess)) (q : Option (Option Process)) (t : Tables) → q ≡ Some None → IsSlotContent o q t → o ≡ Some None
empty_back o None t is place = absurd (cc)
empty_back o (Some (Some p)) t is place = absurd (cc)
empty_back None (Some None) t is place = absurd place
empty_back (Some None) (Some None) t is place = refl
empty_back (Some (Some y)) (Some None) t is place = absurd place

pub free_place : (m : Machine) (w : World) → IsWorldButBuffers m w → (s : ℕ) → free_slot w ≡ Some s → slice_get m.slots.items s ≡ Some None
free_place m w is s e = empty_back _ _ (is.tables s) (free_is_empty w s e) (is.places s)

pub free_within : (m : Machine) (w : World) → IsWorldButBuffers m w → (s : ℕ) → free_slot w ≡ Some s → s < vec_len m.slots
free_within m w is s e = subst (λ n. s < n) (sym m.slots.ok.0) (slice_get_within m.slots.items s None (free_place m w is s e))

module _ (m : Machine) (k : ℕ) (below : (i : ℕ) → i < k → (x : SlotProcess) × (slice_get m.slots.items i ≡ Some (Some x))) where
  pub first_free : slice_get m.slots.items k ≡ Some None → (w : World) → IsWorldButBuffers m w → Some k ≡ free_slot w
  first_free at w is = sym (lowest_is w.slots 0 k (λ i lt. let x = below i lt in process_at _ _ (is.tables i) x.0 x.1 (is.places i)) (empty_at _ _ (is.tables k) at (is.places k)) ∙ ap (λ i. Some i) (omega arith))

  pub all_taken : length m.slots.items ≡ k → (w : World) → IsWorldButBuffers m w → None ≡ free_slot w
  all_taken whole w is = sym (none_free w.slots 0 (λ i at.
      let here = empty_back _ _ (is.tables i) at (is.places i) in
      let lt = slice_get_within m.slots.items i None here in
      let x = below i (omega (arith, lt, whole)) in absurd (let both = sym here ∙ x.1 in cc)))

-- what the code reads in a slot

read_place : (places : List (Option SlotProcess)) (k : ℕ) (o : Option SlotProcess) → k < length places → o ≡ get_or places k o → slice_get places k ≡ Some o
read_place places k o lt read = slice_get-get_or places k o lt ∙ ap (λ x. Some x) (sym read)

nothing : {A : Type 0} (o : Option A) → is_some o ≡ false → o ≡ None
nothing None is = refl
nothing (Some x) is = absurd (cc)

something : {A : Type 0} (o : Option A) → is_some o ≡ true → (x : A) × (o ≡ Some x)
something None is = absurd (cc)
something (Some x) is = (x, refl)

pub read_empty : (places : List (Option SlotProcess)) (k : ℕ) (o : Option SlotProcess) → k < length places → o ≡ get_or places k o → is_some o ≡ false → slice_get places k ≡ Some None
read_empty places k o lt read is = read_place places k o lt read ∙ ap (λ x. Some x) (nothing o is)

pub one_more_taken : (places : List (Option SlotProcess)) (k : ℕ) (o : Option SlotProcess) → k < length places → o ≡ get_or places k o → is_some o ≡ true
    → ((i : ℕ) → i < k → (x : SlotProcess) × (slice_get places i ≡ Some (Some x))) → (i : ℕ) → i < k + 1 → (x : SlotProcess) × (slice_get places i ≡ Some (Some x))
one_more_taken places k o lt read is below i less = elim (cases_eq i k) as (λ _. (x : SlotProcess) × (slice_get places i ≡ Some (Some x))) [
  | inl e ↦ (let x = something o is in (x.0, ap (slice_get places) e ∙ read_place places k o lt read ∙ ap (λ y. Some y) x.1))
  | inr ne ↦ below i (omega (arith, less, ne))
]
