-- Lemmas: a machine keeps its page tables (`KeepsTables`, `SameTables`, `KeepsOtherSlots`) if no slot changed, or only one
-- did: its process is by the same tables, ended, or started; and so over two such changes.
use Rattle.std.proofs.Common.{◌≡◌, ℕ, length, Option, None, Some, List, refl, ap, sym, subst, ◌∙◌, inl, inr}
use Rattle.std.specs.Prelude.{slice_get, slice_set}
use Rattle.std.proofs.lemmas.Bool.{cases_eq}
use Rattle.std.proofs.lemmas.List.{length-set}
use Rattle.std.proofs.lemmas.Option.{same_Some, slice_get_within}
use Rattle.address_space.specs.Agreement.{IsFrameOfPage}
use Rattle.address_space.specs.Kernel.{IsKernelTable}
use Rattle.frame_store.specs.Seats.{place_set_other, place_set_same}
use Rattle.process_model.specs.Process.{Process}
use Rattle.sv39_entry.specs.Schemes.{trapframe_page}
use Rattle.table_walk.specs.Tables.{leaf_node, Tables}
use Rattle.table_walk.specs.LowPages.{tables_of_scheme}
use Rattle.hart_machine.specs.SlotProcesses.{IsSlotProcess, view_of}
use Rattle.hart_machine.specs.Worlds.{HaveSameLeaves, StaysOnFrames, KeepsOtherSlots, KeepsTables, SamePlaces, SameTables}
use Rattle.hart_machine.specs.declared.machine.Machine.{Machine}
use Rattle.hart_machine.specs.declared.slot_process.SlotProcess.{SlotProcess}
use Rattle.hart_machine.proofs.OneTables.{one_tables}

-- the process of a slot has the tables that it had
pub same_tenant : (x y : SlotProcess) (p q : Process) (t u : Tables) → x ≡ y → IsSlotProcess x t p → IsSlotProcess y u q → HaveSameLeaves t u
same_tenant x y p q t u same a b =
    let other = subst (λ (z : SlotProcess). IsSlotProcess z u q) (sym same) b in
    one_tables (view_of x) x.space.root.0 t u a.agrees.stands.tables (tables_of_scheme (other.agrees.lays.scheme ∙ sym a.agrees.lays.scheme) other.agrees.stands.tables)

-- where leaves are the same, so are the frames that they name
pub frames_of_leaves : (t u : Tables) (p q : Process) → HaveSameLeaves t u → StaysOnFrames t u p q
frames_of_leaves t u p q same = record { trapframe = λ f. still_on (trapframe_page p.scheme) f; pages = λ n f a b was is copy. still_on n f } where
  still_on : (n f : ℕ) → IsFrameOfPage u n f → IsFrameOfPage t n f
  still_on n f on = (on.0, sym (same (leaf_node n)) ∙ on.1, on.2)

-- each is below the tables that it was below
pub same_tables : (m n : Machine) (before after : List (Option Process)) → SameTables m n → KeepsTables m n before after
same_tables m n before after same = record {
  many = same.many;
  kernel = λ frames slots stacks t is. subst (λ k. IsKernelTable k.scheme k.seat k.root.0 frames slots stacks t) (sym same.kernel) is;
  leaves = λ s x y p q t u at_m at_n at_w at_v unchanged a b. let z = same.below s x y p t at_m at_n a in same_tenant y y z.0 q t u refl z.1 b;
  frames = λ s x y p q t u at_m at_n at_w at_v a b. let z = same.below s x y p t at_m at_n a in frames_of_leaves t u p q (same_tenant y y z.0 q t u refl z.1 b);
}

pub unmoved : (m n : Machine) → SamePlaces m n → SameTables m n
unmoved m n same = record {
  many = ap length same.0;
  kernel = same.1;
  below = λ s x y p t at_m at_n a. (p, subst (λ (z : SlotProcess). IsSlotProcess z t p) (same_Some x y (same_Some _ _ (sym at_m ∙ ap (λ xs. slice_get xs s) (sym same.0) ∙ at_n))) a);
}

pub same_places : (m n : Machine) (before after : List (Option Process)) → SamePlaces m n → KeepsTables m n before after
same_places m n before after same = same_tables m n before after (unmoved m n same)

-- nothing is another
pub nothing_moved : (m : Machine) → SameTables m m
nothing_moved m = unmoved m m (refl, refl)

-- the process of one slot is another, below the same tables
pub one_below : (m n : Machine) (s : ℕ) (x y : SlotProcess) → slice_get m.slots.items s ≡ Some (Some x) → n.slots.items ≡ slice_set m.slots.items s (Some y) → n.kernel ≡ m.kernel
    → ((t : Tables) (p : Process) → IsSlotProcess x t p → (q : Process) × IsSlotProcess y t q) → SameTables m n
one_below m n s x y place slots kernel after = record {
  many = ap length slots ∙ length-set m.slots.items s (Some y);
  kernel = kernel;
  below = λ r a b p t at_m at_n of_a. elim (cases_eq r s) [
    | inl same ↦ (
        let a_is : a ≡ x = same_Some a x (same_Some _ _ (sym at_m ∙ ap (slice_get m.slots.items) same ∙ place)) in
        let now = ap (λ xs. slice_get xs s) slots ∙ place_set_same m.slots.items s (Some y) (slice_get_within m.slots.items s (Some x) place) in
        let b_is : b ≡ y = same_Some b y (same_Some _ _ (sym at_n ∙ ap (slice_get n.slots.items) same ∙ now)) in
        let z = after t p (subst (λ (c : SlotProcess). IsSlotProcess c t p) a_is of_a) in
        (z.0, subst (λ (c : SlotProcess). IsSlotProcess c t z.0) (sym b_is) z.1))
    | inr apart ↦
        (p, subst (λ (c : SlotProcess). IsSlotProcess c t p) (same_Some a b (same_Some _ _ (sym at_m ∙ sym (place_set_other m.slots.items s r (Some y) apart) ∙ ap (λ xs. slice_get xs r) (sym slots) ∙ at_n))) of_a)
  ];
}

-- each slot but one has what it had, by one change after another
pub others_kept : (m n o : Machine) (s : ℕ) → KeepsOtherSlots m n s → KeepsOtherSlots n o s → KeepsOtherSlots m o s
others_kept m n o s first then = record {
  many = then.many ∙ first.many;
  kernel = λ frames slots stacks t is. then.kernel frames slots stacks t (first.kernel frames slots stacks t is);
  others = λ r apart. then.others r apart ∙ first.others r apart;
}

-- one slot has another process
pub one_other : (m n : Machine) (s : ℕ) (y : Option SlotProcess) → n.slots.items ≡ slice_set m.slots.items s y → n.kernel ≡ m.kernel → KeepsOtherSlots m n s
one_other m n s y slots kernel = record {
  many = ap length slots ∙ length-set m.slots.items s y;
  kernel = λ frames places stacks t is. subst (λ k. IsKernelTable k.scheme k.seat k.root.0 frames places stacks t) (sym kernel) is;
  others = λ r apart. ap (λ xs. slice_get xs r) slots ∙ place_set_other m.slots.items s r y apart;
}

-- the process of one slot ended
pub others_keep : (m n : Machine) (before after : List (Option Process)) (s : ℕ) → KeepsOtherSlots m n s → ((q : Process) → slice_get after s ≡ Some (Some q) → ⊥) → KeepsTables m n before after
others_keep m n before after s keeps gone = record {
  many = keeps.many;
  kernel = keeps.kernel;
  leaves = λ r x y p q t u at_m at_n at_w at_v unchanged a b. elim (cases_eq r s) [
    | inl same ↦ absurd (gone q (ap (slice_get after) (sym same) ∙ at_v))
    | inr apart ↦ same_tenant x y p q t u (same_Some x y (same_Some _ _ (sym at_m ∙ sym (keeps.others r apart) ∙ at_n))) a b
  ];
  frames = λ r x y p q t u at_m at_n at_w at_v a b. elim (cases_eq r s) [
    | inl same ↦ absurd (gone q (ap (slice_get after) (sym same) ∙ at_v))
    | inr apart ↦ frames_of_leaves t u p q (same_tenant x y p q t u (same_Some x y (same_Some _ _ (sym at_m ∙ sym (keeps.others r apart) ∙ at_n))) a b)
  ];
}

-- a process began in a slot where there was none
pub others_born : (m n : Machine) (before after : List (Option Process)) (s : ℕ) → KeepsOtherSlots m n s → slice_get m.slots.items s ≡ Some None → KeepsTables m n before after
others_born m n before after s keeps empty = record {
  many = keeps.many;
  kernel = keeps.kernel;
  leaves = λ r x y p q t u at_m at_n at_w at_v unchanged a b. elim (cases_eq r s) [
    | inl same ↦ absurd (let both : ◌≡◌ {A = Option (Option SlotProcess)} (Some None) (Some (Some x)) = sym empty ∙ ap (slice_get m.slots.items) (sym same) ∙ at_m in cc)
    | inr apart ↦ same_tenant x y p q t u (same_Some x y (same_Some _ _ (sym at_m ∙ sym (keeps.others r apart) ∙ at_n))) a b
  ];
  frames = λ r x y p q t u at_m at_n at_w at_v a b. elim (cases_eq r s) [
    | inl same ↦ absurd (let both : ◌≡◌ {A = Option (Option SlotProcess)} (Some None) (Some (Some x)) = sym empty ∙ ap (slice_get m.slots.items) (sym same) ∙ at_m in cc)
    | inr apart ↦ frames_of_leaves t u p q (same_tenant x y p q t u (same_Some x y (same_Some _ _ (sym at_m ∙ sym (keeps.others r apart) ∙ at_n))) a b)
  ];
}

-- none did, and the kernel has its table
pub same_slots : (m n : Machine) (before after : List (Option Process)) → n.slots.items ≡ m.slots.items
    → ((frames slots : ℕ) (stacks : List ℕ) (t : Tables) → IsKernelTable m.kernel.scheme m.kernel.seat m.kernel.root.0 frames slots stacks t → IsKernelTable n.kernel.scheme n.kernel.seat n.kernel.root.0 frames slots stacks t) → KeepsTables m n before after
same_slots m n before after slots kernel = record {
  many = ap length slots;
  kernel = kernel;
  leaves = λ s x y p q t u at_m at_n at_w at_v unchanged a b. same_tenant x y p q t u (same_Some x y (same_Some _ _ (sym at_m ∙ ap (λ xs. slice_get xs s) (sym slots) ∙ at_n))) a b;
  frames = λ s x y p q t u at_m at_n at_w at_v a b. frames_of_leaves t u p q (same_tenant x y p q t u (same_Some x y (same_Some _ _ (sym at_m ∙ ap (λ xs. slice_get xs s) (sym slots) ∙ at_n))) a b);
}

-- and after a step that keeps tables a process began in a slot that was empty before it
pub then_born : (m n o : Machine) (before between after : List (Option Process)) (e : ℕ) (z : SlotProcess) (q : Process) → KeepsTables m n before between → slice_get m.slots.items e ≡ Some None
    → o.slots.items ≡ slice_set n.slots.items e (Some z) → o.kernel ≡ n.kernel → after ≡ slice_set between e (Some q) → KeepsTables m o before after
then_born m n o before between after e z q keeps empty slots kernel model = record {
  many = ap length slots ∙ length-set n.slots.items e (Some z) ∙ keeps.many;
  kernel = λ frames slots stacks t table. subst (λ k. IsKernelTable k.scheme k.seat k.root.0 frames slots stacks t) (sym kernel) (keeps.kernel frames slots stacks t table);
  leaves = λ r x y p c t u at_m at_o at_w at_v unchanged a b. elim (cases_eq r e) [
    | inl same ↦ absurd (let both : ◌≡◌ {A = Option (Option SlotProcess)} (Some None) (Some (Some x)) = sym empty ∙ ap (slice_get m.slots.items) (sym same) ∙ at_m in cc)
    | inr apart ↦
        keeps.leaves r x y p c t u at_m (sym (place_set_other n.slots.items e r (Some z) apart) ∙ ap (λ xs. slice_get xs r) (sym slots) ∙ at_o) at_w
        (sym (place_set_other between e r (Some q) apart) ∙ ap (λ xs. slice_get xs r) (sym model) ∙ at_v) unchanged a b
  ];
  frames = λ r x y p c t u at_m at_o at_w at_v a b. elim (cases_eq r e) [
    | inl same ↦ absurd (let both : ◌≡◌ {A = Option (Option SlotProcess)} (Some None) (Some (Some x)) = sym empty ∙ ap (slice_get m.slots.items) (sym same) ∙ at_m in cc)
    | inr apart ↦
        keeps.frames r x y p c t u at_m (sym (place_set_other n.slots.items e r (Some z) apart) ∙ ap (λ xs. slice_get xs r) (sym slots) ∙ at_o) at_w
        (sym (place_set_other between e r (Some q) apart) ∙ ap (λ xs. slice_get xs r) (sym model) ∙ at_v) a b
  ];
}
