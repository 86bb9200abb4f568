-- Lemmas on the page table that a hart's `satp` names: it is there, and the hart's TLB may have its entries in this phase, so
-- that a fill by it is allowed (`present_serves`) and a walk of it is a translation (`present_served`).
use Rattle.std.proofs.Common.{◌≡◌, ◌⊎◌, ℕ, ◌<◌, get_or, Option, None, Some, true, refl, ap, sym, subst, ◌∙◌, inl, inr}
use Rattle.std.specs.Prelude.{slice_get}
use Rattle.std.specs.Vec.{vec_len}
use Rattle.std.proofs.lemmas.Option.{get_or_from_slice_get, slice_get_within}
use Rattle.hart_tlb.specs.declared.entry.TlbEntry.{TlbEntry}
use Rattle.process_model.specs.declared.phase.Phase.{Phase}
use Rattle.process_model.specs.declared.phase.Phase.TheVariants as phase
use Rattle.sv39_entry.specs.declared.access.Access.{Access}
use Rattle.sv39_entry.specs.declared.access.Mode.{Mode}
use Rattle.sv39_entry.specs.declared.scheme.Scheme.{Scheme}
use Rattle.table_walk.specs.Tables.{Tables}
use Rattle.table_walk.specs.declared.walk.Walk.{Walk}
use Rattle.hart_machine.specs.Tables.{tables_of, IsTranslated, HasTable, present_table}
use Rattle.hart_machine.specs.WalkEntries.{IsEntryOf}
use Rattle.table_walk.specs.Leaves.{walk_answer}
use Rattle.hart_machine.specs.BufferEntries.{IsEntryByPhase, may_have_kernel, may_have_process}
use Rattle.hart_machine.specs.declared.hart.Hart.{Hart}
use Rattle.hart_machine.specs.declared.machine.Machine.{Machine}
use Rattle.hart_machine.specs.declared.translation.SatpTable.{SatpTable}
use Rattle.hart_machine.specs.declared.translation.SatpTable.TheVariants.{OfKernel, OfProcess}
use Rattle.hart_machine.specs.declared.slot_process.SlotProcess.{SlotProcess}
use Rattle.hart_machine.proofs.AccessingWorlds.{slot_has}

-- it is the kernel's, in a phase in which the buffer may have the kernel's entries, or the process's in one in which it may have these
abbrev IsPresent : Hart → SatpTable → Type 0
IsPresent x t = ((may_have_kernel x.phase ≡ true) × (t ≡ OfKernel)) ⊎ ((s : ℕ) × (may_have_process x.phase ≡ true) × (x.slot ≡ Some s) × (t ≡ OfProcess s))

pub present_is : (x : Hart) → (x.slot ≡ None → x.phase ≡ phase.Idle) → IsPresent x (present_table x)
present_is x = go x.phase x.slot where
  go : (p : Phase) (slot : Option ℕ) → (slot ≡ None → p ≡ phase.Idle) → IsPresent (record x { phase = p; slot = slot }) (present_table (record x { phase = p; slot = slot }))
  go phase.Idle slot idle = inl (refl, refl)
  go phase.Enter2 slot idle = inl (refl, refl)
  go phase.Kernel slot idle = inl (refl, refl)
  go phase.Leave1 slot idle = inl (refl, refl)
  go phase.User None idle = absurd (let never : phase.User ≡ phase.Idle = idle refl in cc)
  go phase.Enter0 None idle = absurd (let never : phase.Enter0 ≡ phase.Idle = idle refl in cc)
  go phase.Enter1 None idle = absurd (let never : phase.Enter1 ≡ phase.Idle = idle refl in cc)
  go phase.Leave2 None idle = absurd (let never : phase.Leave2 ≡ phase.Idle = idle refl in cc)
  go phase.User (Some s) idle = inr (s, refl, refl, refl)
  go phase.Enter0 (Some s) idle = inr (s, refl, refl, refl)
  go phase.Enter1 (Some s) idle = inr (s, refl, refl, refl)
  go phase.Leave2 (Some s) idle = inr (s, refl, refl, refl)

module _ (s : Scheme) (tables : ℕ → Tables) (kernel : Tables) (x : Hart) (idle : x.slot ≡ None → x.phase ≡ phase.Idle) where
  -- an entry that is made by it serves
  pub present_serves : (e : TlbEntry) → IsEntryOf s (tables_of tables kernel (present_table x)) 0 e → IsEntryByPhase s x tables kernel e
  present_serves e entry = elim (present_is x idle) [
    | inl of_kernel ↦ inl (of_kernel.0, subst (λ (t : SatpTable). IsEntryOf s (tables_of tables kernel t) 0 e) of_kernel.1 entry)
    | inr own ↦ inr (own.0, own.1, own.2, subst (λ (t : SatpTable). IsEntryOf s (tables_of tables kernel t) 0 e) own.3 entry)
  ]

  -- and so does a walk by it
  pub present_served : (a : ℕ) (access : Access) (mode : Mode) (z : Walk) → z ≡ walk_answer s (tables_of tables kernel (present_table x)) a access mode → IsTranslated s x tables kernel a access mode z
  present_served a access mode z walked = elim (present_is x idle) [
    | inl of_kernel ↦ inl (of_kernel.0, walked ∙ ap (λ (t : SatpTable). walk_answer s (tables_of tables kernel t) a access mode) of_kernel.1)
    | inr own ↦ inr (inl (own.0, own.1, own.2, walked ∙ ap (λ (t : SatpTable). walk_answer s (tables_of tables kernel t) a access mode) own.3))
  ]

-- and it is there
pub present_there : (m : Machine) (x : Hart) → (x.slot ≡ None → x.phase ≡ phase.Idle) → ((s : ℕ) → x.slot ≡ Some s → (y : SlotProcess) × (slice_get m.slots.items s ≡ Some (Some y))) → HasTable m (present_table x)
present_there m x idle hosted = elim (present_is x idle) [
  | inl of_kernel ↦ subst (HasTable m) (sym of_kernel.1) tt
  | inr own ↦ subst (HasTable m) (sym own.3) (hosted own.0 own.2)
]

-- the process of a slot whose table is there
module _ (m : Machine) (t : SatpTable) (s : ℕ) (of_process : t ≡ OfProcess s) (there : HasTable m t) where
  slot_process : (x : SlotProcess) × (slice_get m.slots.items s ≡ Some (Some x))
  slot_process = subst (HasTable m) of_process there

  pub slot_within : s < vec_len m.slots
  slot_within = subst (λ (n : ℕ). s < n) (sym m.slots.ok.0) (slice_get_within m.slots.items s (Some slot_process.0) slot_process.1)

  module _ (o : Option SlotProcess) (read : o ≡ get_or m.slots.items s o) where
    pub not_empty : o ≡ None → ⊥
    not_empty none = let both = sym none ∙ read ∙ get_or_from_slice_get m.slots.items s (Some slot_process.0) o slot_process.1 in cc

    pub tenant_is : (y : SlotProcess) → o ≡ Some y → slice_get m.slots.items s ≡ Some (Some y)
    tenant_is y is = slot_has m.slots.items s slot_process.0 y o is read slot_process.1
