-- Lemmas: after a step and its stale marks, each TLB has only entries that it may have, under policy `full` and under policy
-- `asid`, in the model's world, its state (`still_in`); and so, under `asid`, `AreEntriesCurrent` (`are_true`).
use Rattle.std.proofs.Common.{◌≡◌, ◌⊎◌, ℕ, zero, suc, ◌+◌, ◌*◌, ◌≤◌, ◌&&◌, ◌||◌, Bool, true, false, not, length, Option, None, Some, option_map, List, [], ◌∷◌, refl, ap, sym, subst, ◌∙◌, inl, inr, arith, if◌then◌else◌}
use Rattle.std.specs.Prelude.{Contains, slice_get, unwrap_or}
use Rattle.std.proofs.lemmas.Bool.{cases_eq, eq-eqb}
use Rattle.std.proofs.lemmas.Option.{same_Some, slice_get-map, slice_get_within}
use Rattle.hart_tlb.specs.declared.entry.TlbEntry.{TlbEntry}
use Rattle.process_model.specs.Harts as model
use Rattle.process_model.specs.Harts.{next_phase, present_asid}
use Rattle.process_laws.proofs.ChangedSlots.{among_changed}
use Rattle.process_laws.specs.Words.{changed_at}
use Rattle.process_model.specs.Process.{Process}
use Rattle.process_model.specs.Stale.{changed_slots, is_changed, with_stale, with_stale_slots}
use Rattle.process_model.specs.Steps.{plain_step}
use Rattle.process_model.specs.World.{StepOutcome, World}
use Rattle.process_model.specs.declared.config.Policy.{Policy}
use Rattle.process_model.specs.declared.config.Policy.TheVariants.{Asid, Full}
use Rattle.process_model.specs.declared.phase.Phase.{Phase}
use Rattle.process_model.specs.declared.phase.Phase.TheVariants as phase
use Rattle.process_model.specs.declared.reply.Reply.{Reply}
use Rattle.process_model.specs.declared.step.Step.{Step}
use Rattle.sv39_entry.specs.Address.{page_of}
use Rattle.sv39_entry.specs.Schemes.{is_canonical, trampoline_page}
use Rattle.sv39_entry.specs.declared.scheme.Scheme.{Scheme}
use Rattle.table_walk.specs.Leaves.{page_leaf, leaf_at}
use Rattle.hart_machine.specs.Tables.{present_table, tables_of}
use Rattle.hart_tlb.specs.Entries.{is_fenced}
use Rattle.table_walk.specs.Tables.{Tables, walk_leaf}
use Rattle.table_walk.specs.LowPages.{tables_of_scheme}
use Rattle.hart_machine.specs.Buffers.{buffer_after, BuffersAre, is_about}
use Rattle.hart_machine.specs.Harts.{cleaned_for, cleaned_if, emptied, fenced, hart_of, is_before_user}
use Rattle.process_model.specs.Steps.{is_refused}
use Rattle.hart_machine.specs.BufferEntries.{AreEntriesCurrent, HasNoStaleMark, IsEntryByPhase, IsInWorld, IsProcessEntry, IsCurrentEntry, IsEntryByAsid, may_have_kernel, may_have_process, IsTrampolineLeaf}
use Rattle.hart_machine.specs.Slots.{marks_of}
use Rattle.hart_machine.specs.SlotProcesses.{IsSlotProcess, view_of}
use Rattle.hart_machine.specs.WalkEntries.{entry_for, IsEntryOf}
use Rattle.hart_machine.specs.Worlds.{HaveSameLeaves, IsSlotContent, IsWorldButBuffers, KeepsTables}
use Rattle.hart_machine.specs.declared.hart.Hart.{Hart}
use Rattle.hart_machine.specs.declared.machine.Machine.{Machine}
use Rattle.hart_machine.specs.declared.slot_process.SlotProcess.{SlotProcess}
use Rattle.hart_machine.proofs.BufferChanges.{only_fills_add}
use Rattle.hart_machine.proofs.StepShapes.{Advances, changed_in_kernel, enters, Goes, harts_go, MovesTo, stays, switches}
use Rattle.hart_machine.proofs.AccessingEntries.{satp_is}
use Rattle.hart_machine.proofs.FillWorlds.{entry_is}
use Rattle.hart_machine.proofs.Filtered.{in_filter}
use Rattle.hart_machine.proofs.HartSteps.{cleaned_is, process_at}
use Rattle.frame_store.specs.Seats.{place_set_other}
use Rattle.hart_machine.proofs.PresentTables.{present_serves}
use Rattle.hart_machine.proofs.Trampolines.{kernel_code_leaf, process_code_leaf}
use Rattle.hart_machine.proofs.MapElements.{from_map}
use Rattle.hart_machine.proofs.OneTables.{one_tables}
use Rattle.hart_machine.proofs.KeptPolicy.{scheme_stays, stale_scheme}

-- an entry tells what other tables say, where these have the same leaves
entry_moves : (scheme : Scheme) (t u : Tables) → HaveSameLeaves t u → (asid : ℕ) (e : TlbEntry) → IsEntryOf scheme t asid e → IsEntryOf scheme u asid e
entry_moves scheme t u same asid e entry = record {
  of_space = entry.of_space;
  local = entry.local;
  leaf = entry.leaf ∙ ap (λ (o : Option ℕ). if is_canonical scheme (4096 * e.page) then option_map page_leaf o else None) (sym (same (walk_leaf scheme (page_of (4096 * e.page)))));
}

-- where there is nothing, the end was passed
past_end : {A : Type 0} (xs : List A) (k : ℕ) → slice_get xs k ≡ None → length xs ≤ k
past_end [] k none = omega arith
past_end (x ∷ xs) zero none = absurd (cc)
past_end (x ∷ xs) (suc k) none = let rest = past_end xs k none in omega (arith, rest)

true_of_or : (a b : Bool) → (a || b) ≡ false → (a ≡ false) × (b ≡ false)
true_of_or true b e = absurd (cc)
true_of_or false b e = (refl, e)

-- phases

switch_has_kernel : (p : Phase) → model.may_switch p ≡ true → may_have_kernel p ≡ true
switch_has_kernel phase.Idle e = refl
switch_has_kernel phase.Kernel e = refl
switch_has_kernel phase.User e = absurd (cc)
switch_has_kernel phase.Enter0 e = absurd (cc)
switch_has_kernel phase.Enter1 e = absurd (cc)
switch_has_kernel phase.Enter2 e = absurd (cc)
switch_has_kernel phase.Leave1 e = absurd (cc)
switch_has_kernel phase.Leave2 e = absurd (cc)

none_of_own : (p : Phase) → model.may_switch p ≡ true → may_have_process p ≡ true → ⊥
none_of_own phase.Idle may own = cc
none_of_own phase.User may own = cc
none_of_own phase.Enter0 may own = cc
none_of_own phase.Enter1 may own = cc
none_of_own phase.Enter2 may own = cc
none_of_own phase.Kernel may own = cc
none_of_own phase.Leave1 may own = cc
none_of_own phase.Leave2 may own = cc

before_user : (p : Phase) → next_phase p ≡ Some phase.User → p ≡ phase.Leave2
before_user phase.Leave2 e = refl
before_user phase.Idle e = absurd (cc)
before_user phase.User e = absurd (cc)
before_user phase.Enter0 e = absurd (cc)
before_user phase.Enter1 e = absurd (cc)
before_user phase.Enter2 e = absurd (cc)
before_user phase.Kernel e = absurd (cc)
before_user phase.Leave1 e = absurd (cc)

-- the last fence of the return takes the mark of the process's slot
clean_by_fence : (x : model.Hart) (r : ℕ) → x.phase ≡ phase.Leave2 → x.slot ≡ Some r → (model.fenced Asid x).stale r ≡ false
clean_by_fence x r leaves on = rw (leaves, on) (go (x.stale r) refl) where
  go : (b : Bool) → x.stale r ≡ b → (model.cleaned_if (record x { phase = phase.Leave2; slot = Some r }) r b).stale r ≡ false
  go true e = rw (eq-eqb r r refl) refl
  go false e = e

-- and the entries of its identifier
fence_takes : (x : Hart) → ((e : TlbEntry) → Contains x.buffer e → e.global ≡ false) → (e : TlbEntry) (r : ℕ) → marks_of x.stale r ≡ true → (model.fenced Asid (hart_of x)).stale r ≡ false → Contains (fenced Asid x).buffer e → e.asid ≡ r + 1 → ⊥
fence_takes x local e r marked gone left own = go (is_before_user x.phase) x.slot (ap (λ (z : model.Hart). z.stale r) (cleaned_is x local) ∙ gone) left where
  never : marks_of x.stale r ≡ false → ⊥
  never none = let both : true ≡ false = sym marked ∙ none in cc

  if_marked : (s : ℕ) (b : Bool) → marks_of (cleaned_if x s b).stale r ≡ false → Contains (cleaned_if x s b).buffer e → ⊥
  if_marked s false gone left = never gone
  if_marked s true gone left = elim (cases_eq r s) [
    | inl same ↦ (
        let kept = in_filter (λ a. not (is_fenced None (Some (s + 1)) a)) x.buffer e left in
        let taken : is_fenced None (Some (s + 1)) e ≡ true = rw (eq-eqb e.asid (s + 1) (omega (arith, own, same)), local e kept.0) refl in
        let both : false ≡ true = ap not (sym taken) ∙ kept.1 in cc)
    | inr apart ↦ never (sym (ap (λ o. unwrap_or o false) (place_set_other x.stale s r false apart)) ∙ gone)
  ]

  go : (b : Bool) (o : Option ℕ) → marks_of (if b then cleaned_for x o else x).stale r ≡ false → Contains (if b then cleaned_for x o else x).buffer e → ⊥
  go false o gone left = never gone
  go true None gone left = never gone
  go true (Some s) gone left = if_marked s (marks_of x.stale s) gone left

module _ (m n : Machine) (w : World) (s : Step) (inn : IsInWorld m w) (after : IsWorldButBuffers n (with_stale_slots w.policy w (plain_step w s)).world) (ruled : n.policy ≡ m.policy)
    (keeps : KeepsTables m n w.slots ((plain_step w s).world).slots) (reply : Reply) (told : reply ≡ (plain_step w s).reply)
    (are : BuffersAre m n (inn.world).tables (inn.world).kernel s reply) where
  abbrev is : IsWorldButBuffers m w
  is = inn.world

  abbrev o : StepOutcome
  o = plain_step w s

  abbrev changed : ℕ → Bool
  changed r = changed_at (slice_get w.slots r) (slice_get (o.world).slots r)

  -- tables

  kernel_same : HaveSameLeaves is.kernel after.kernel
  kernel_same = one_tables n.kernel.seat n.kernel.root.0 is.kernel after.kernel (keeps.kernel w.frames (length w.slots) is.stacks is.kernel is.of_kernel).maps.tables after.of_kernel.maps.tables

  slots_are : (q : Policy) → (with_stale_slots q w o).world.slots ≡ (o.world).slots
  slots_are Full = refl
  slots_are Asid = refl

  process_after : (r : ℕ) (y : SlotProcess) → slice_get n.slots.items r ≡ Some (Some y) → (q : Process) × (slice_get (o.world).slots r ≡ Some (Some q)) × IsSlotProcess y (after.tables r) q
  process_after r y at = let q = process_at n _ after r y at in (q.0, ap (λ (ps : List (Option Process)). slice_get ps r) (sym (slots_are w.policy)) ∙ q.1, q.2)

  -- of a process that was there and is there, and of which no leaf changes
  own_same : (r : ℕ) (x y : SlotProcess) → slice_get m.slots.items r ≡ Some (Some x) → slice_get n.slots.items r ≡ Some (Some y) → changed r ≡ false → HaveSameLeaves (is.tables r) (after.tables r)
  own_same r x y at_m at_n quiet =
      let p = process_at m w is r x at_m in
      let q = process_after r y at_n in
      keeps.leaves r x y p.0 q.0 (is.tables r) (after.tables r) at_m at_n p.1 q.1
      (sym (ap (λ (c : Option (Option Process)). changed_at c (slice_get (o.world).slots r)) p.1 ∙ ap (changed_at (Some (Some p.0))) q.1) ∙ quiet) p.2 q.2

  -- a process in a slot that is not named as changed was there
  was_there : (r : ℕ) (y : SlotProcess) → slice_get n.slots.items r ≡ Some (Some y) → changed r ≡ false → (x : SlotProcess) × (slice_get m.slots.items r ≡ Some (Some x))
  was_there r y at quiet = go (slice_get m.slots.items r) refl (slice_get w.slots r) refl (is.places r) where
    q : (q : Process) × (slice_get (o.world).slots r ≡ Some (Some q)) × IsSlotProcess y (after.tables r) q
    q = process_after r y at

    go : (a : Option (Option SlotProcess)) → slice_get m.slots.items r ≡ a → (b : Option (Option Process)) → slice_get w.slots r ≡ b → IsSlotContent a b (is.tables r) → (x : SlotProcess) × (slice_get m.slots.items r ≡ Some (Some x))
    go (Some (Some x)) at_m b at_w place = (x, at_m)
    go (Some None) at_m (Some None) at_w place = absurd (
        let named : changed r ≡ true = ap (λ c. changed_at c (slice_get (o.world).slots r)) at_w ∙ ap (changed_at (Some None)) q.1 in
        let both : true ≡ false = sym named ∙ quiet in cc)
    go (Some None) at_m None at_w place = absurd place
    go (Some None) at_m (Some (Some p)) at_w place = absurd place
    go None at_m b at_w place = absurd (
        let low = slice_get_within n.slots.items r (Some y) at in
        let many = keeps.many in
        let past = past_end m.slots.items r at_m in
        omega (arith, low, many, past))

  -- harts

  -- one of the model after the step, before the marks that follow
  record Plain (h : ℕ) (y : Hart) : Type 0 where
    hart : model.Hart
    there : slice_get (o.world).harts h ≡ Some hart
    phased : hart.phase ≡ y.phase
    slotted : hart.slot ≡ y.slot
    marked : m.policy ≡ Asid → (r : ℕ) → marks_of y.stale r ≡ (changed r || hart.stale r)

  plain : (h : ℕ) (y : Hart) → slice_get n.harts.items h ≡ Some y → Plain h y
  plain h y at = go w.policy is.policy (ap (λ (hs : List model.Hart). slice_get hs h) (sym after.harts) ∙ slice_get-map hart_of n.harts.items h ∙ ap (option_map hart_of) at) where
    go : (q : Policy) → m.policy ≡ q → slice_get (with_stale_slots q w o).world.harts h ≡ Some (hart_of y) → Plain h y
    go Full is_full there = record { hart = hart_of y; there = there; phased = refl; slotted = refl; marked = λ asid. absurd (let both : Asid ≡ Full = sym asid ∙ is_full in cc) }
    go Asid is_asid there =
        let z = from_map (with_stale (changed_slots 0 w.slots (o.world).slots)) (o.world).harts h (hart_of y) there in
        record {
          hart = z.0;
          there = z.1;
          phased = ap (λ (x : model.Hart). x.phase) z.2;
          slotted = ap (λ (x : model.Hart). x.slot) z.2;
          marked = λ _ r. sym (ap (λ (x : model.Hart). x.stale r) z.2) ∙ ap (λ (b : Bool). b || (z.0).stale r) (among_changed w.slots (o.world).slots r);
        }

  -- a hart after the step, and the one that it was
  record Before (h : ℕ) (y : Hart) : Type 0 where
    was : Hart
    there : slice_get m.harts.items h ≡ Some was
    plain_hart : Plain h y
    went : Goes w s o.reply h (hart_of was) plain_hart.hart

  before : (h : ℕ) (y : Hart) → slice_get n.harts.items h ≡ Some y → Before h y
  before h y at =
      let z = plain h y at in
      let x = harts_go w s h z.hart z.there in
      let u = from_map hart_of m.harts.items h x.0 (ap (λ (hs : List model.Hart). slice_get hs h) is.harts ∙ x.1) in
      record { was = u.0; there = u.1; plain_hart = z; went = subst (λ (v : model.Hart). Goes w s o.reply h v z.hart) (sym u.2) x.2 }

  -- what changes is a process before and after
  changed_to : (p : Option Process) (o : Option (Option Process)) → changed_at (Some p) o ≡ true → (q : Process) × (o ≡ Some (Some q)) × (is_changed p (Some q) ≡ true)
  changed_to p None is = absurd (cc)
  changed_to None (Some None) is = absurd (cc)
  changed_to (Some x) (Some None) is = absurd (cc)
  changed_to p (Some (Some q)) is = (q, refl, is)

  -- the process of a hart that is not in the kernel has the leaves that it had
  quiet_slot : (h r : ℕ) (x : Hart) → slice_get m.harts.items h ≡ Some x → x.slot ≡ Some r → (x.phase ≡ phase.Kernel → ⊥) → changed r ≡ false
  quiet_slot h r x at on other = go (changed r) refl where
    go : (b : Bool) → changed r ≡ b → changed r ≡ false
    go false is_so = is_so
    go true is_so = absurd (
        let t = is.hosted h r x at on in
        let p = process_at m w is r t.0 t.1 in
        let q = changed_to (Some p.0) (slice_get (o.world).slots r) (sym (ap (λ c. changed_at c (slice_get (o.world).slots r)) p.1) ∙ is_so) in
        let k = changed_in_kernel w s r p.0 q.0 p.1 q.1 q.2 in
        let u = from_map hart_of m.harts.items k.0 k.1 (ap (λ (hs : List model.Hart). slice_get hs k.0) is.harts ∙ k.2) in
        let same : k.0 ≡ h = is.alone r k.0 h u.0 x u.1 at (ap (λ (z : model.Hart). z.slot) u.2 ∙ k.4) on in
        let one : u.0 ≡ x = same_Some u.0 x (sym u.1 ∙ ap (slice_get m.harts.items) same ∙ at) in
        other (ap (λ (z : Hart). z.phase) (sym one) ∙ ap (λ (z : model.Hart). z.phase) u.2 ∙ k.3))

  -- the entries of a buffer that were there

  -- where the hart went on by the trampoline, they are those that the fence left
  left_by_fence : (h : ℕ) (y : Hart) (b : Before h y) → Advances w s o.reply h (hart_of b.was) b.plain_hart.hart → slice_get n.harts.items h ≡ Some y → y.buffer ≡ (fenced m.policy b.was).buffer
  left_by_fence h y b a at =
      same_Some _ _ (sym (ap (option_map (λ (x : Hart). x.buffer)) at) ∙ are h ∙ ap (option_map (λ (x : Hart). if not (is_refused reply) && is_about s h then buffer_after m.kernel.scheme m.policy is.tables is.kernel s x else x.buffer)) b.there
      ∙ ap Some (rw (told, a.done, a.is_next, eq-eqb h h refl) refl))

  -- the machine has the scheme that it had
  same_scheme : m.kernel.scheme ≡ n.kernel.scheme
  same_scheme = is.scheme ∙ sym (after.scheme ∙ stale_scheme w.policy w (plain_step w s) ∙ scheme_stays w s)

  entry_after : (t u : Tables) → HaveSameLeaves t u → (asid : ℕ) (e : TlbEntry) → IsEntryOf m.kernel.scheme t asid e → IsEntryOf n.kernel.scheme u asid e
  entry_after t u same asid e entry = subst (λ k. IsEntryOf k u asid e) same_scheme (entry_moves m.kernel.scheme t u same asid e entry)

  -- with fences of everything

  module _ (h : ℕ) (y : Hart) (at : slice_get n.harts.items h ≡ Some y) (b : Before h y) (e : TlbEntry) where
    own_after : (r : ℕ) (asid : ℕ) → (b.was).slot ≡ Some r → y.slot ≡ Some r → ((b.was).phase ≡ phase.Kernel → ⊥) → IsEntryOf m.kernel.scheme (is.tables r) asid e → IsEntryOf n.kernel.scheme (after.tables r) asid e
    own_after r asid on upon other entry =
        let quiet = quiet_slot h r b.was b.there on other in
        let x = is.hosted h r b.was b.there on in
        let z = after.hosted h r y at upon in
        entry_after (is.tables r) (after.tables r) (own_same r x.0 z.0 x.1 z.1 quiet) asid e entry

    kernel_after : (asid : ℕ) → IsEntryOf m.kernel.scheme is.kernel asid e → IsEntryOf n.kernel.scheme after.kernel asid e
    kernel_after asid entry = entry_after is.kernel after.kernel kernel_same asid e entry

    not_kernel : (p : Phase) → may_have_process p ≡ true → p ≡ phase.Kernel → ⊥
    not_kernel p own is_kernel = let never : may_have_process phase.Kernel ≡ true = ap may_have_process (sym is_kernel) ∙ own in cc

    fenced_by : IsEntryByPhase m.kernel.scheme b.was is.tables is.kernel e → (MovesTo (hart_of b.was) b.plain_hart.hart × ((b.plain_hart.hart).stale ≡ (hart_of b.was).stale)) → IsEntryByPhase n.kernel.scheme y after.tables after.kernel e
    fenced_by (inl of_kernel) (stays phased slotted, stale) = inl (ap may_have_kernel (sym (b.plain_hart).phased ∙ phased) ∙ of_kernel.0, kernel_after 0 of_kernel.1)
    fenced_by (inr own) (stays phased slotted, stale) =
        let upon : y.slot ≡ Some own.0 = sym (b.plain_hart).slotted ∙ slotted ∙ own.2 in
        inr (own.0, ap may_have_process (sym (b.plain_hart).phased ∙ phased) ∙ own.1, upon, own_after own.0 0 own.2 upon (not_kernel (b.was).phase own.1) own.3)
    fenced_by (inl of_kernel) (switches from to, stale) = inl (switch_has_kernel y.phase (ap model.may_switch (sym (b.plain_hart).phased) ∙ to), kernel_after 0 of_kernel.1)
    fenced_by (inr own) (switches from to, stale) = absurd (none_of_own (b.was).phase from own.1)
    fenced_by (inl of_kernel) (enters user entered slotted, stale) = absurd (let never : may_have_kernel phase.User ≡ true = ap may_have_kernel (sym user) ∙ of_kernel.0 in cc)
    fenced_by (inr own) (enters user entered slotted, stale) =
        let upon : y.slot ≡ Some own.0 = sym (b.plain_hart).slotted ∙ slotted ∙ own.2 in
        inr (own.0, ap may_have_process (sym (b.plain_hart).phased ∙ entered), upon, own_after own.0 0 own.2 upon (not_kernel (b.was).phase own.1) own.3)

    -- by the trampoline: in front of a fence no entry is left
    advanced_by : (p : Phase) → (b.was).phase ≡ p → (a : Advances w s o.reply h (hart_of b.was) b.plain_hart.hart) → Contains (emptied b.was).buffer e → IsEntryByPhase m.kernel.scheme b.was is.tables is.kernel e → IsEntryByPhase n.kernel.scheme y after.tables after.kernel e
    advanced_by p phased a there serves = go p phased (subst (λ (q : Phase). Contains (if model.is_before_fence q then [] else (b.was).buffer) e) phased there) (ap next_phase (sym phased) ∙ a.next) serves where
      upon : (r : ℕ) → (b.was).slot ≡ Some r → y.slot ≡ Some r
      upon r on = sym (b.plain_hart).slotted ∙ a.slotted ∙ on

      now : (q : Phase) → Some q ≡ Some a.after → y.phase ≡ q
      now q same = sym (b.plain_hart).phased ∙ a.phased ∙ sym (same_Some q a.after same)

      go : (p : Phase) → (b.was).phase ≡ p → Contains (if model.is_before_fence p then [] else (b.was).buffer) e → next_phase p ≡ Some a.after → IsEntryByPhase m.kernel.scheme b.was is.tables is.kernel e → IsEntryByPhase n.kernel.scheme y after.tables after.kernel e
      go phase.Idle q there next serves = absurd (cc)
      go phase.User q there next serves = absurd (cc)
      go phase.Enter0 q there next serves = absurd (omega (arith, there.1))
      go phase.Enter1 q there next (inl of_kernel) = absurd (let never : may_have_kernel phase.Enter1 ≡ true = ap may_have_kernel (sym q) ∙ of_kernel.0 in cc)
      go phase.Enter1 q there next (inr own) = inr (own.0, ap may_have_process (now phase.Enter2 next), upon own.0 own.2, own_after own.0 0 own.2 (upon own.0 own.2) (not_kernel (b.was).phase own.1) own.3)
      go phase.Enter2 q there next serves = absurd (omega (arith, there.1))
      go phase.Kernel q there next serves = absurd (omega (arith, there.1))
      go phase.Leave1 q there next (inl of_kernel) = inl (ap may_have_kernel (now phase.Leave2 next), kernel_after 0 of_kernel.1)
      go phase.Leave1 q there next (inr own) = absurd (let never : may_have_process phase.Leave1 ≡ true = ap may_have_process (sym q) ∙ own.1 in cc)
      go phase.Leave2 q there next serves = absurd (omega (arith, there.1))

    -- with address-space identifiers

    -- a mark that goes takes the entries of its identifier
    mark_goes : m.policy ≡ Asid → (r : ℕ) → marks_of (b.was).stale r ≡ true → marks_of y.stale r ≡ false → Contains y.buffer e → e.asid ≡ r + 1 → ⊥
    mark_goes asid r marked gone left own = elim b.went [
      | inl other ↦ (
          let kept = (true_of_or (changed r) ((b.plain_hart).hart.stale r) (sym ((b.plain_hart).marked asid r) ∙ gone)).1 in
          let both : true ≡ false = sym marked ∙ ap (λ (f : ℕ → Bool). f r) (sym other.1) ∙ kept in cc)
      | inr a ↦ (
          let kept = (true_of_or (changed r) ((b.plain_hart).hart.stale r) (sym ((b.plain_hart).marked asid r) ∙ gone)).1 in
          let cleaned : (model.fenced Asid (hart_of b.was)).stale r ≡ false = ap (λ (q : Policy). (model.fenced q (hart_of b.was)).stale r) (sym asid ∙ is.policy) ∙ ap (λ (f : ℕ → Bool). f r) (sym a.stale) ∙ kept in
          fence_takes b.was (λ x in_it. is.local h b.was x b.there in_it) e r marked cleaned
          (subst (λ (q : Policy). Contains (fenced q b.was).buffer e) asid (subst (λ (es : List TlbEntry). Contains es e) (left_by_fence h y b a at) left)) own)
    ]

    tagged_after : m.policy ≡ Asid → Contains y.buffer e → IsEntryByAsid m.kernel.scheme m.slots.items b.was is.tables is.kernel e → IsEntryByAsid n.kernel.scheme n.slots.items y after.tables after.kernel e
    tagged_after asid left tagged = record {
      code = subst (λ k. e.page ≡ trampoline_page k → IsTrampolineLeaf e.leaf) same_scheme tagged.code;
      whose = elim tagged.whose [
        | inl of_kernel ↦ inl (kernel_after 0 of_kernel)
        | inr own ↦ inr (own.0, own.1, owned own.0 own.1 (marks_of y.stale own.0) refl own.2)
      ];
    } where
      owned : (r : ℕ) → e.asid ≡ r + 1 → (c : Bool) → marks_of y.stale r ≡ c → IsProcessEntry m.kernel.scheme m.slots.items b.was is.tables r e → IsProcessEntry n.kernel.scheme n.slots.items y after.tables r e
      owned r own true marked old = inl marked
      owned r own false unmarked (inl stale) = absurd (mark_goes asid r stale unmarked left own)
      owned r own false unmarked (inr rest) = inr (at_slot (slice_get n.slots.items r) refl rest) where
        quiet : changed r ≡ false
        quiet = (true_of_or (changed r) ((b.plain_hart).hart.stale r) (sym ((b.plain_hart).marked asid r) ∙ unmarked)).0

        at_slot : (c : Option (Option SlotProcess)) → slice_get n.slots.items r ≡ c → ((x : SlotProcess) → slice_get m.slots.items r ≡ Some (Some x) → ⊥) ⊎ IsEntryOf m.kernel.scheme (is.tables r) (r + 1) e
            → ((x : SlotProcess) → slice_get n.slots.items r ≡ Some (Some x) → ⊥) ⊎ IsEntryOf n.kernel.scheme (after.tables r) (r + 1) e
        at_slot None none old = inl (λ x some. let both = sym none ∙ some in cc)
        at_slot (Some None) none old = inl (λ x some. let both = sym none ∙ some in let inner : None ≡ Some x = same_Some _ _ both in cc)
        at_slot (Some (Some z)) some (inl dead) = absurd (let x = was_there r z some quiet in dead x.0 x.1)
        at_slot (Some (Some z)) some (inr entry) = let x = was_there r z some quiet in inr (entry_after (is.tables r) (after.tables r) (own_same r x.0 z x.1 some quiet) (r + 1) e entry)

    -- by either policy
    served_after : (q : Policy) → m.policy ≡ q → Contains y.buffer e → IsCurrentEntry m.kernel.scheme q m.slots.items b.was is.tables is.kernel e → IsCurrentEntry n.kernel.scheme q n.slots.items y after.tables after.kernel e
    served_after Asid asid left serves = tagged_after asid left serves
    served_after Full full left serves = elim b.went [
      | inl other ↦ fenced_by serves other
      | inr a ↦ advanced_by (b.was).phase refl a (subst (λ (q : Policy). Contains (fenced q b.was).buffer e) full (subst (λ (es : List TlbEntry). Contains es e) (left_by_fence h y b a at) left)) serves
    ]

  -- a fill adds an entry that serves
  new_serves : (h : ℕ) (x : Hart) → slice_get m.harts.items h ≡ Some x → (a : ℕ) (e : TlbEntry) → e ≡ entry_for m.kernel.scheme (tables_of is.tables is.kernel (present_table x)) (present_asid m.policy (hart_of x)) a
      → IsCurrentEntry m.kernel.scheme m.policy m.slots.items x is.tables is.kernel e
  new_serves h x at a e made = go m.policy made where
    idle : x.slot ≡ None → x.phase ≡ phase.Idle
    idle none = is.idle h x at none

    go : (q : Policy) → e ≡ entry_for m.kernel.scheme (tables_of is.tables is.kernel (present_table x)) (present_asid q (hart_of x)) a → IsCurrentEntry m.kernel.scheme q m.slots.items x is.tables is.kernel e
    go Full made = subst (λ (z : TlbEntry). IsEntryByPhase m.kernel.scheme x is.tables is.kernel z) (sym made) (present_serves m.kernel.scheme is.tables is.kernel x idle _ (entry_is m.kernel.scheme _ 0 a))
    go Asid made = subst (λ (z : TlbEntry). IsEntryByAsid m.kernel.scheme m.slots.items x is.tables is.kernel z) (sym made) (elim (satp_is x idle (present_asid Asid (hart_of x)) refl) [
      | inl other ↦ rw (other.0) (record {
        code = λ code. kernel_code_leaf m.kernel.scheme m.kernel.seat m.kernel.root.0 w.frames (length w.slots) is.stacks is.kernel is.of_kernel a code;
        whose = inl (entry_is m.kernel.scheme is.kernel 0 a);
      })
      | inr own ↦
          let t = is.hosted h own.0 x at own.2 in
          let p = process_at m w is own.0 t.0 t.1 in
          rw (own.1, own.2) (record {
            code = subst (λ k. page_of a ≡ trampoline_page k → IsTrampolineLeaf (leaf_at k (is.tables own.0) a)) (is.schemes own.0 p.0 p.1 ∙ sym is.scheme) (process_code_leaf _ _ (is.tables own.0) p.0 (p.2).agrees.stands.shows a);
            whose = inr (own.0, refl, inr (inr (entry_is m.kernel.scheme (is.tables own.0) (own.0 + 1) a)));
          })
    ])

  -- after the return the process's hart is not marked for it
  clean_after : m.policy ≡ Asid → (h : ℕ) (y : Hart) → slice_get n.harts.items h ≡ Some y → HasNoStaleMark y
  clean_after asid h y at r user on = (b.plain_hart).marked asid r ∙ rw (unchanged, unmarked) refl where
    b : Before h y
    b = before h y at

    now_user : (b.plain_hart.hart).phase ≡ phase.User
    now_user = (b.plain_hart).phased ∙ user

    now_on : (b.plain_hart.hart).slot ≡ Some r
    now_on = (b.plain_hart).slotted ∙ on

    both : (changed r ≡ false) × ((b.plain_hart.hart).stale r ≡ false)
    both = go b.went where
      go : Goes w s o.reply h (hart_of b.was) b.plain_hart.hart → (changed r ≡ false) × ((b.plain_hart.hart).stale r ≡ false)
      go (inl (stays phased slotted, stale)) =
          let was_user : (b.was).phase ≡ phase.User = sym phased ∙ now_user in
          let was_on : (b.was).slot ≡ Some r = sym slotted ∙ now_on in (
            quiet_slot h r b.was b.there was_on (λ kernel. let never : phase.User ≡ phase.Kernel = sym was_user ∙ kernel in cc),
            ap (λ (f : ℕ → Bool). f r) stale ∙ inn.clean asid h b.was b.there r was_user was_on,
          )
      go (inl (switches from to, stale)) = absurd (let never : model.may_switch phase.User ≡ true = ap model.may_switch (sym now_user) ∙ to in cc)
      go (inl (enters was_user entered slotted, stale)) = absurd (let never : phase.Enter0 ≡ phase.User = sym entered ∙ now_user in cc)
      go (inr a) =
          let leaves : (b.was).phase ≡ phase.Leave2 = before_user (b.was).phase (a.next ∙ ap Some (sym a.phased ∙ now_user)) in
          let was_on : (b.was).slot ≡ Some r = sym a.slotted ∙ now_on in (
            quiet_slot h r b.was b.there was_on (λ kernel. let never : phase.Leave2 ≡ phase.Kernel = sym leaves ∙ kernel in cc),
            ap (λ (f : ℕ → Bool). f r) a.stale ∙ ap (λ (q : Policy). (model.fenced q (hart_of b.was)).stale r) (sym is.policy ∙ asid) ∙ clean_by_fence (hart_of b.was) r leaves was_on,
          )

    unchanged : changed r ≡ false
    unchanged = both.0

    unmarked : (b.plain_hart.hart).stale r ≡ false
    unmarked = both.1

  serving_after : (h : ℕ) (y : Hart) (e : TlbEntry) → slice_get n.harts.items h ≡ Some y → Contains y.buffer e → IsCurrentEntry n.kernel.scheme m.policy n.slots.items y after.tables after.kernel e
  serving_after h y e at left =
      let b = before h y at in
      elim (only_fills_add m n is.tables is.kernel s reply are h e (y.buffer, ap (option_map (λ (x : Hart). x.buffer)) at, left)) [
        | inl old ↦
            let same : (b.was).buffer ≡ old.0 = same_Some _ _ (sym (ap (option_map (λ (x : Hart). x.buffer)) b.there) ∙ old.1) in
            served_after h y at b e m.policy refl left (inn.buffers h b.was e b.there (subst (λ (es : List TlbEntry). Contains es e) (sym same) old.2))
        | inr new ↦
            let one : new.1 ≡ b.was = same_Some new.1 b.was (sym new.3 ∙ b.there) in
            served_after h y at b e m.policy refl left (subst (λ (x : Hart). IsCurrentEntry m.kernel.scheme m.policy m.slots.items x is.tables is.kernel e) one (new_serves h new.1 new.3 new.0 e new.4))
      ]

  -- the machine is in the model's world, and no buffer tells what may not be told
  pub still_in : IsInWorld n (with_stale_slots w.policy w o).world
  still_in = record {
    world = after;
    buffers = λ h y e at left. subst (λ (q : Policy). IsCurrentEntry n.kernel.scheme q n.slots.items y after.tables after.kernel e) (sym ruled) (serving_after h y e at left);
    clean = λ asid h y at. clean_after (sym ruled ∙ asid) h y at;
  }

-- what that says with address-space identifiers
module _ (m : Machine) (w : World) (inn : IsInWorld m w) (asid : m.policy ≡ Asid) where
  tagged : (h : ℕ) (x : Hart) (e : TlbEntry) → slice_get m.harts.items h ≡ Some x → Contains x.buffer e → IsEntryByAsid m.kernel.scheme m.slots.items x (inn.world).tables (inn.world).kernel e
  tagged h x e at there = subst (λ (q : Policy). IsCurrentEntry m.kernel.scheme q m.slots.items x (inn.world).tables (inn.world).kernel e) asid (inn.buffers h x e at there)

  pub are_true : AreEntriesCurrent m
  are_true = record {
    own = λ h s x y t e at place has there own. elim (tagged h x e at there).whose [
      | inl of_kernel ↦ absurd (let none = of_kernel.of_space in omega (arith, none, own))
      | inr other ↦
          let same : other.0 ≡ s = (let second = other.1 in omega (arith, own, second)) in
          elim (subst (λ (r : ℕ). IsProcessEntry m.kernel.scheme m.slots.items x (inn.world).tables r e) same other.2) [
            | inl stale ↦ inl stale
            | inr rest ↦ elim rest [
              | inl dead ↦ absurd (dead y place)
              | inr entry ↦
                  let p = process_at m w inn.world s y place in
                  let of_machine = (inn.world).schemes s p.0 p.1 ∙ sym (inn.world).scheme in
                  inr (entry_moves m.kernel.scheme ((inn.world).tables s) t
                  (one_tables (view_of y) y.space.root.0 ((inn.world).tables s) t (tables_of_scheme of_machine (p.2).agrees.stands.tables) has) (s + 1) e entry)
            ]
          ]
    ];
    unmarked = λ h s x at user on. inn.clean asid h x at s user on;
    code = λ h x e at there. (tagged h x e at there).code;
  }
