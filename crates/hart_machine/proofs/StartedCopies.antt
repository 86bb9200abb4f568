-- Lemmas on the world (state of the model) in which a process starts: its copy numbers (each names one copy of a page in
-- memory) are new and below the counter, and two pages are on one frame if and only if their copy numbers are equal
-- (`started_copies`).
use Rattle.std.proofs.Common.{◌≡◌, ℕ, ◌+◌, ◌⊎◌, refl, ap, sym, subst, ◌∙◌, arith, inl, inr, List, ◌∷◌, None, Some, length}
use Rattle.std.specs.Prelude.{slice_get, slice_set}
use Rattle.std.proofs.lemmas.Bool.{cases_eq}
use Rattle.std.proofs.lemmas.Option.{same_Some, slice_get_within}
use Rattle.address_space.specs.Agreement.{IsFrameOfPage, no_extra, IsInMemory}
use Rattle.address_space.specs.Parts.{OwnsAlone}
use Rattle.frame_store.specs.Plain.{PlainState, PlainStateInvariant}
use Rattle.frame_store.specs.Seats.{place_set_other, place_set_same}
use Rattle.frame_store.specs.View.{references, View}
use Rattle.process_model.specs.Images.{LoadSegment}
use Rattle.process_model.specs.ImageProcess.{image_pages, process_of}
use Rattle.process_model.specs.PageMap as pages
use Rattle.process_model.specs.Process.{Page, Process}
use Rattle.process_model.specs.World.{World}
use Rattle.table_walk.specs.Tables.{Tables, leaf_node}
use Rattle.hart_machine.specs.SlotProcesses.{IsSlotProcess, view_of}
use Rattle.hart_machine.specs.Worlds.{AreCounted, HaveCopies, IsWorldButBuffers, seats_of}
use Rattle.hart_machine.specs.declared.machine.Machine.{Machine}
use Rattle.hart_machine.specs.declared.slot_process.SlotProcess.{SlotProcess}
use Rattle.hart_machine.proofs.HartSteps.{process_at, tenant_at}
use Rattle.hart_machine.proofs.StartedTables.{tables_here, tables_there, tables_with}
use Rattle.hart_machine.proofs.StartedPages.{copies_above, copies_below, copies_once, one_frame, one_page, page_no_code}
use Rattle.hart_machine.proofs.StartedSeats.{sole_apart}

module _ (m : Machine) (w : World) (is : IsWorldButBuffers m w) where
  -- what stands in memory for the process of a slot
  pub tenant_in : (j : ℕ) (q : Process) → slice_get w.slots j ≡ Some (Some q) → (x : SlotProcess) × (slice_get m.slots.items j ≡ Some (Some x)) × IsSlotProcess x (is.tables j) q
  tenant_in j q at =
      let x = tenant_at m w is j (rw at refl) in
      let p = process_at m w is j x.0 x.1 in
      (x.0, x.1, subst (λ (z : Process). IsSlotProcess x.0 (is.tables j) z) (same_Some p.0 q (same_Some _ _ (sym p.1 ∙ at))) p.2)

module _ (m : Machine) (w : World) (is : IsWorldButBuffers m w) (s : ℕ) (at : slice_get w.slots s ≡ Some None) (ls : List LoadSegment) where
  -- a process of the new world is the new one, or was there
  pub new_or_old : (i : ℕ) (r : Process) → slice_get (slice_set w.slots s (Some (process_of w.scheme w.counter ls))) i ≡ Some (Some r)
      → ((i ≡ s) × (process_of w.scheme w.counter ls ≡ r)) ⊎ ((i ≡ s → ⊥) × (slice_get w.slots i ≡ Some (Some r)))
  new_or_old i r there = elim (cases_eq i s) [
    | inl same ↦ inl (same, same_Some _ _ (same_Some _ _ (sym (place_set_same w.slots s (Some (process_of w.scheme w.counter ls)) (slice_get_within w.slots s None at)) ∙ ap (slice_get (slice_set w.slots s (Some (process_of w.scheme w.counter ls)))) (sym same) ∙ there)))
    | inr apart ↦ inr (apart, sym (place_set_other w.slots s i (Some (process_of w.scheme w.counter ls)) apart) ∙ there)
  ]

  pub started_counted : AreCounted (slice_set w.slots s (Some (process_of w.scheme w.counter ls))) (w.counter + length (image_pages ls))
  started_counted i n r a there has = elim (new_or_old i r there) [
    | inl new ↦ copies_below w.scheme w.counter ls n a (ap (λ (z : Process). pages.get z.settled n) new.1 ∙ has)
    | inr old ↦ (let low = is.counted i n r a old.1 has in omega (arith, low))
  ]

  module _ (b : PlainState) (k v : View) (rule : PlainStateInvariant b (k ∷ v ∷ seats_of m.slots.items)) (root trapframe : ℕ) (t : Tables)
      (stands : IsInMemory v root trapframe no_extra t (process_of w.scheme w.counter ls)) (alone : OwnsAlone v t) where
    -- a page of the new process and one of another have two frames
    frames_apart : (j n l f g : ℕ) (q : Process) (a c : Page) → slice_get w.slots j ≡ Some (Some q) → pages.get (process_of w.scheme w.counter ls).settled n ≡ Some a → IsFrameOfPage t n f
        → IsFrameOfPage (is.tables j) l g → f ≡ g → ⊥
    frames_apart j n l f g q a c there has on upon same =
        let x = tenant_in m w is j q there in
        let far : f ≡ 0 → ⊥ = page_no_code v root trapframe t (process_of w.scheme w.counter ls) stands n f a has on in
        let sole = alone f (leaf_node n) (inr (on.0, on.1, on.2)) far in
        let none = sole_apart b k v m.slots.items rule f j x.0 sole x.1 in
        let one : references (view_of x.0) g ≡ 1 = x.2.agrees.stands.owns.named g (leaf_node l) (inr (upon.0, upon.1, upon.2)) in
        let both : references (view_of x.0) f ≡ references (view_of x.0) g = ap (references (view_of x.0)) same in
        omega (arith, none, one, both)

    pub started_copies : HaveCopies (slice_set w.slots s (Some (process_of w.scheme w.counter ls))) (tables_with is.tables s t)
    started_copies i j n l f g p q a c at_i at_j in_i in_j on_i on_j = elim (new_or_old i p at_i) [
      | inl new ↦ (
          let first : pages.get (process_of w.scheme w.counter ls).settled n ≡ Some a = ap (λ (z : Process). pages.get z.settled n) new.1 ∙ in_i in
          let on : IsFrameOfPage t n f = subst (λ (u : Tables). IsFrameOfPage u n f) (tables_here is.tables s t i new.0) on_i in
          elim (new_or_old j q at_j) [
            | inl same ↦ (
                let second : pages.get (process_of w.scheme w.counter ls).settled l ≡ Some c = ap (λ (z : Process). pages.get z.settled l) same.1 ∙ in_j in
                let upon : IsFrameOfPage t l g = subst (λ (u : Tables). IsFrameOfPage u l g) (tables_here is.tables s t j same.0) on_j in (
                  (λ e. let page : n ≡ l = one_page v root trapframe t (process_of w.scheme w.counter ls) stands n l f g a c first second on upon e in
                      ap (λ (z : Page). z.copy) (same_Some a c (sym first ∙ ap (pages.get (process_of w.scheme w.counter ls).settled) page ∙ second))),
                  (λ e. one_frame v root trapframe t (process_of w.scheme w.counter ls) stands n l f g on upon (copies_once w.scheme w.counter ls n l a c first second e)),
                ))
            | inr old ↦ (
                let upon : IsFrameOfPage (is.tables j) l g = subst (λ (u : Tables). IsFrameOfPage u l g) (tables_there is.tables s t j old.0) on_j in
                let high = copies_above w.scheme w.counter ls n a first in
                let low = is.counted j l q c old.1 in_j in
                ((λ e. absurd (frames_apart j n l f g q a c old.1 first on upon e)), (λ e. absurd (omega (arith, high, low, e)))))
          ])
      | inr old ↦ (
          let on : IsFrameOfPage (is.tables i) n f = subst (λ (u : Tables). IsFrameOfPage u n f) (tables_there is.tables s t i old.0) on_i in
          elim (new_or_old j q at_j) [
            | inl new ↦ (
                let second : pages.get (process_of w.scheme w.counter ls).settled l ≡ Some c = ap (λ (z : Process). pages.get z.settled l) new.1 ∙ in_j in
                let upon : IsFrameOfPage t l g = subst (λ (u : Tables). IsFrameOfPage u l g) (tables_here is.tables s t j new.0) on_j in
                let high = copies_above w.scheme w.counter ls l c second in
                let low = is.counted i n p a old.1 in_i in
                ((λ e. absurd (frames_apart i l n g f p c a old.1 second upon on (sym e))), (λ e. absurd (omega (arith, high, low, e)))))
            | inr also ↦ (
                let upon : IsFrameOfPage (is.tables j) l g = subst (λ (u : Tables). IsFrameOfPage u l g) (tables_there is.tables s t j also.0) on_j in
                is.copies i j n l f g p q a c old.1 also.1 in_i in_j on upon)
          ])
    ]
