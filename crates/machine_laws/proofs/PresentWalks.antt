-- Lemmas: the tables that a hart's satp names are walked in the machine's memory, and each of their leaves names a frame of it
-- (`present_walkable`).
use Rattle.std.proofs.Common.{◌≡◌, ◌⊎◌, ℕ, ◌+◌, ◌-◌, ◌/◌, ◌%◌, ◌^◌, ◌<◌, ◌≤◌, ◌==◌, ◌&&◌, nat_le, nat_lt, Bool, true, false, cond, refl, sym, ap, subst, ◌∙◌, inl, inr, arith, Option, None, Some, option_map, List, length}
use Rattle.std.proofs.lemmas.Bool.{cases_eq, cases_lt, eq-eqb, false≢true, ne_eqb}
use Rattle.std.proofs.lemmas.Option.{same_Some}
use Rattle.std.specs.FinMap.{get}
use Rattle.std.specs.Prelude.{slice_get}
use Rattle.address_space.specs.Agreement.{HasKernelLeaf, IsInMemory, IsShown, code_rights, data_rights, no_extra}
use Rattle.address_space.specs.Kernel.{IsKernelTable, first_direct, frame_rights, kernel_leaf, kernel_page}
use Rattle.address_space.specs.ProcessLeaves.{process_local}
use Rattle.frame_store.specs.Laws.{IsSeatOf}
use Rattle.frame_store.specs.Plain.{PlainState, PlainStateInvariant, held_within}
use Rattle.frame_store.specs.View.{IsHeld, View}
use Rattle.hart_machine.proofs.AccessingWorlds.{seat_fits}
use Rattle.hart_machine.proofs.HartSteps.{process_at}
use Rattle.hart_machine.proofs.Leaves.{kernel_local}
use Rattle.hart_machine.specs.SlotProcesses.{view_of}
use Rattle.hart_machine.specs.Tables.{present_table, tables_of}
use Rattle.hart_machine.specs.Worlds.{IsWorldButBuffers, seats_of}
use Rattle.hart_machine.specs.declared.hart.Hart.{Hart}
use Rattle.hart_machine.specs.declared.machine.Machine.{Machine}
use Rattle.hart_machine.specs.declared.slot_process.SlotProcess.{SlotProcess}
use Rattle.machine_laws.proofs.TableOutcomes.{IsWalkable, LeavesAreWithin}
use Rattle.machine_laws.specs.MachineStates.{root_in, root_or}
use Rattle.process_model.specs.Process.{Process}
use Rattle.process_model.specs.World.{World}
use Rattle.process_model.specs.declared.phase.Phase.{Phase}
use Rattle.process_model.specs.declared.phase.Phase.TheVariants as phase
use Rattle.sv39_entry.specs.Frame.{ppn_of}
use Rattle.sv39_entry.specs.Schemes.{low_page, page_limit, trampoline_page, trapframe_page}
use Rattle.sv39_entry.specs.Word.{leaf_word, ppn}
use Rattle.sv39_entry.specs.declared.scheme.Scheme.{Scheme}
use Rattle.sv39_entry.specs.declared.scheme.Scheme.TheVariants.{Sv39, Sv48}
use Rattle.table_walk.specs.Leaves.{LeavesAreLocal}
use Rattle.table_walk.specs.LowPages.{tables_of_scheme}
use Rattle.table_walk.specs.Nodes.{walk_leaf_is}
use Rattle.table_walk.specs.Tables.{Tables, leaf_node, walk_leaf}

-- a frame that a seat holds is one of the memory
held_low : (b : PlainState) (v : View) → IsSeatOf PlainStateInvariant b v → (f : ℕ) → IsHeld v f → f < length b.counts
held_low b v fits f held =
    let inside = (held_within b v fits.0 fits.1).1 f held in
    let size = fits.1.sizes.0 in
    omega (arith, inside, size)

-- ---- a process's leaves

module _ (b : PlainState) (v : View) (fits : IsSeatOf PlainStateInvariant b v) (root trapframe : ℕ) (t : Tables) (p : Process) (stands : IsInMemory v root trapframe no_extra t p) where
  abbrev Names : ℕ → Type 0
  Names w = (f : ℕ) × (ppn w ≡ ppn_of f) × (f < length b.counts)

  names : (k w f : ℕ) → get t.leaves k ≡ Some w → ppn w ≡ ppn_of f → Names w
  names k w f at named =
      let count = stands.owns.named f k (inr (w, at, named)) in
      (f, named, held_low b v fits f (omega (arith, count)))

  of_kernel_leaf : (page f rights k w : ℕ) → HasKernelLeaf t page f rights → k ≡ leaf_node page → get t.leaves k ≡ Some w → Names w
  of_kernel_leaf page f rights k w leaf same found =
      let is : leaf.0 ≡ w = same_Some leaf.0 w (sym leaf.1 ∙ ap (get t.leaves) (sym same) ∙ found) in
      names k w f found (ap ppn (sym is) ∙ leaf.2.names)

  each_leaf : (k w : ℕ) → get t.leaves k ≡ Some w → Names w
  each_leaf k w found = elim (stands.shows.only k w found) [
    | inl same ↦ of_kernel_leaf (trampoline_page p.scheme) 0 _ k w stands.shows.on_trampoline same found
    | inr more ↦ elim more [
      | inl same ↦ of_kernel_leaf (trapframe_page p.scheme) trapframe _ k w stands.shows.on_trapframe same found
      | inr page ↦
          let shown : IsShown v t p page.0 page.1 = stands.shows.settled page.0 page.1 page.3 in
          let is : shown.leaf ≡ w = same_Some shown.leaf w (sym shown.mapped ∙ ap (get t.leaves) (sym page.2) ∙ found) in
          names k w shown.frame found (ap ppn (sym is) ∙ shown.made.names)
    ]
  ]

  pub process_within : (s : Scheme) → LeavesAreWithin s (length b.counts) t
  process_within s page w found = each_leaf (walk_leaf s page) w found

-- ---- the kernel's leaves

low_page_low : (s : Scheme) (page : ℕ) → low_page s page < page_limit s
low_page_low Sv39 page = omega arith
low_page_low Sv48 page = omega arith

first_of : (P : ℕ × ℕ → Type 0) (b c d : Bool) (x y : ℕ × ℕ) (o : Option (ℕ × ℕ)) → P x → (c ≡ true → P y) → ((z : ℕ × ℕ) → o ≡ Some z → P z)
    → (z : ℕ × ℕ) → cond b (Some x) (cond c (Some y) (cond d o None)) ≡ Some z → P z
first_of P true c d x y o first second third z is = subst P (same_Some x z is) first
first_of P false true d x y o first second third z is = subst P (same_Some y z is) (second refl)
first_of P false false true x y o first second third z is = third z is
first_of P false false false x y o first second third z is = absurd (cc)

not_both : (a b : Bool) → b ≡ false → (a && b) ≡ true → ⊥
not_both true b other is = cc
not_both false b other is = cc

left_of : (a b : Bool) → (a && b) ≡ true → a ≡ true
left_of true b both = refl
left_of false b both = both

direct_some : (page : ℕ) → nat_le first_direct page ≡ true → first_direct ≤ page
direct_some page is = elim (cases_lt page first_direct) [
  | inl below ↦ absurd (let no : nat_le first_direct page ≡ false = grind (arith, below) in false≢true (sym no ∙ is))
  | inr from ↦ from
]

not_below : (a b : ℕ) → b ≤ a → nat_lt a b ≡ false
not_below a b beyond = grind (arith, beyond)

word_ppn : (f rights : ℕ) → f < 2 ^ 16 → (rights ≡ code_rights) ⊎ (rights ≡ data_rights) → ppn (leaf_word f rights false false true) ≡ ppn_of f
word_ppn f rights low (inl is) = rw is (omega (arith, low))
word_ppn f rights low (inr is) = rw is (omega (arith, low))

rights_of : (f : ℕ) → (frame_rights f ≡ code_rights) ⊎ (frame_rights f ≡ data_rights)
rights_of f = elim (cases_eq f 0) [ inl zero ↦ inl (rw (eq-eqb f 0 zero) refl) | inr other ↦ inr (rw (ne_eqb f 0 other) refl) ]

module _ (b : PlainState) (v : View) (fits : IsSeatOf PlainStateInvariant b v) (s : Scheme) (root frames slots : ℕ) (stacks : List ℕ) (t : Tables)
    (k : IsKernelTable s v root frames slots stacks t) (all : v.size ≡ frames) where
  abbrev IsLeafFrame : ℕ × ℕ → Type 0
  IsLeafFrame z = (z.0 < length b.counts) × ((z.1 ≡ code_rights) ⊎ (z.1 ≡ data_rights))

  inside : (f : ℕ) → f < frames → f < length b.counts
  inside f low = let size = fits.1.sizes.0 in omega (arith, low, size, all)

  stacked : (o : Option ℕ) → ((f : ℕ) → o ≡ Some f → f < length b.counts) → (z : ℕ × ℕ) → option_map (λ (f : ℕ). (f, data_rights)) o ≡ Some z → IsLeafFrame z
  stacked None each z is = absurd (cc)
  stacked (Some f) each z is = subst IsLeafFrame (same_Some (f, data_rights) z is) (each f refl, inr refl)

  stack_low : (slot f : ℕ) → slice_get stacks slot ≡ Some f → f < length b.counts
  stack_low slot f at = let once = (k.maps.holds.stack slot f at).0 in held_low b v fits f (omega (arith, once))

  page_is : (page : ℕ) (z : ℕ × ℕ) → kernel_page s frames stacks page ≡ Some z → IsLeafFrame z
  page_is page = first_of IsLeafFrame (page == trampoline_page s) (nat_le first_direct page && nat_lt page (first_direct + frames)) (nat_lt page (trampoline_page s) && ((trampoline_page s - page) % 2 == 0))
      (0, code_rights) (page - first_direct, frame_rights (page - first_direct)) _ ((let once = k.maps.holds.code in held_low b v fits 0 (omega (arith, once))), inl refl)
      (λ within. (inside (page - first_direct) (direct (cases_lt page (first_direct + frames)) within), rights_of (page - first_direct)))
      (stacked (slice_get stacks ((trampoline_page s - page) / 2 - 1)) (stack_low ((trampoline_page s - page) / 2 - 1))) where
        direct : (page < first_direct + frames) ⊎ (first_direct + frames ≤ page) → (nat_le first_direct page && nat_lt page (first_direct + frames)) ≡ true → page - first_direct < frames
        direct (inl below) within = let some = direct_some page (left_of (nat_le first_direct page) (nat_lt page (first_direct + frames)) within) in omega (arith, below, some)
        direct (inr beyond) within = absurd (not_both (nat_le first_direct page) (nat_lt page (first_direct + frames)) (not_below page (first_direct + frames) beyond) within)

  leaf_of : (o : Option (ℕ × ℕ)) → ((z : ℕ × ℕ) → o ≡ Some z → IsLeafFrame z) → (w : ℕ) → kernel_leaf o ≡ Some w → (f : ℕ) × (ppn w ≡ ppn_of f) × (f < length b.counts)
  leaf_of None each w is = absurd (cc)
  leaf_of (Some z) each w is =
      let frame = each z refl in
      let few = fits.1.few in
      let low = frame.0 in
      (z.0, ap ppn (sym (same_Some (leaf_word z.0 z.1 false false true) w is)) ∙ word_ppn z.0 z.1 (omega (arith, low, few)) frame.1, frame.0)

  pub kernel_within : LeavesAreWithin s (length b.counts) t
  kernel_within page w found =
      let low : low_page s page < page_limit s = low_page_low s page in
      leaf_of (kernel_page s frames stacks (low_page s page)) (page_is (low_page s page)) w
      (sym (k.maps.leaves (low_page s page) low) ∙ ap (get t.leaves) (sym (walk_leaf_is s page)) ∙ found)

-- ---- the tables that satp names

module _ (m : Machine) (w : World) (is : IsWorldButBuffers m w) where
  kernel_walkable : IsWalkable m.kernel.scheme m.frames m.kernel.root.0 is.kernel
  kernel_walkable = record {
    view = m.kernel.seat;
    fits = (seats_of m.slots.items, is.invariant);
    tables = is.of_kernel.maps.tables;
    local = kernel_local _ _ _ _ _ _ _ is.of_kernel;
    within = kernel_within m.frames m.kernel.seat (seats_of m.slots.items, is.invariant) m.kernel.scheme m.kernel.root.0 w.frames (length w.slots) is.stacks is.kernel is.of_kernel is.frames;
  }

  slot_walkable : (s : ℕ) (y : SlotProcess) → slice_get m.slots.items s ≡ Some (Some y) → IsWalkable m.kernel.scheme m.frames y.space.root.0 (is.tables s)
  slot_walkable s y at =
      let p = process_at m w is s y at in
      let stands = (p.2).agrees.stands in
      let same : (p.0).scheme ≡ m.kernel.scheme = is.schemes s p.0 p.1 ∙ sym is.scheme in
      let fits = seat_fits m.frames m.kernel.seat m.slots.items s y at is.invariant in
      record {
        view = view_of y;
        fits = fits;
        tables = tables_of_scheme same stands.tables;
        local = subst (λ z. LeavesAreLocal z (is.tables s)) same (process_local _ _ _ p.0 stands.shows (p.2).framed);
        within = process_within m.frames (view_of y) fits y.space.root.0 y.space.trapframe.0 (is.tables s) p.0 stands m.kernel.scheme;
      }

  abbrev Walkable : Hart → Type 0
  Walkable x = IsWalkable m.kernel.scheme m.frames (root_in m x) (tables_of is.tables is.kernel (present_table x))

  slot_has : (s : ℕ) → ((y : SlotProcess) × (slice_get m.slots.items s ≡ Some (Some y)))
      → IsWalkable m.kernel.scheme m.frames (root_or m.kernel.root.0 (slice_get m.slots.items s)) (is.tables s)
  slot_has s y =
      subst (λ (r : ℕ). IsWalkable m.kernel.scheme m.frames r (is.tables s)) (ap (root_or m.kernel.root.0) (sym y.1)) (slot_walkable s y.0 y.1)

  pub present_walkable : (h : ℕ) (x : Hart) → slice_get m.harts.items h ≡ Some x → Walkable x
  present_walkable h x at = go x.phase x.slot (is.idle h x at) (λ s. is.hosted h s x at) where
    go : (p : Phase) (slot : Option ℕ) → (slot ≡ None → p ≡ phase.Idle) → ((s : ℕ) → slot ≡ Some s → (y : SlotProcess) × (slice_get m.slots.items s ≡ Some (Some y)))
        → Walkable (record x { phase = p; slot = slot })
    go phase.Idle slot idle hosted = kernel_walkable
    go phase.Enter2 slot idle hosted = kernel_walkable
    go phase.Kernel slot idle hosted = kernel_walkable
    go phase.Leave1 slot idle hosted = kernel_walkable
    go phase.User None idle hosted = absurd (let never : phase.User ≡ phase.Idle = idle refl in cc)
    go phase.Enter0 None idle hosted = absurd (let never : phase.Enter0 ≡ phase.Idle = idle refl in cc)
    go phase.Enter1 None idle hosted = absurd (let never : phase.Enter1 ≡ phase.Idle = idle refl in cc)
    go phase.Leave2 None idle hosted = absurd (let never : phase.Leave2 ≡ phase.Idle = idle refl in cc)
    go phase.User (Some s) idle hosted = slot_has s (hosted s refl)
    go phase.Enter0 (Some s) idle hosted = slot_has s (hosted s refl)
    go phase.Enter1 (Some s) idle hosted = slot_has s (hosted s refl)
    go phase.Leave2 (Some s) idle hosted = slot_has s (hosted s refl)
