-- Lemmas for the step `Fill`: the new entry has what the page table in `satp` says, that table is there, and the machine is
-- in the model's world (state) with one more entry in the hart's buffer, its TLB (`fills`); refused if there is no such
-- hart.
use Rattle.std.proofs.Common.{◌≡◌, ℕ, ◌-◌, ◌≤◌, ◌<◌, length, get_or, true, false, Option, None, Some, option_map, List, ◌∷◌, refl, ap, sym, subst, ◌∙◌, inl, inr}
use Rattle.std.specs.Prelude.{Contains, slice_get, slice_set}
use Rattle.std.specs.Vec.{with_item}
use Rattle.std.proofs.lemmas.Option.{slice_get-map, slice_get_within}
use Rattle.frame_store.specs.Seats.{place_set_back}
use Rattle.frame_store.specs.Plain.{PlainStateInvariant}
use Rattle.frame_store.specs.View.{View}
use Rattle.hart_tlb.specs.declared.entry.TlbEntry.{TlbEntry}
use Rattle.process_model.specs.Harts as model
use Rattle.process_model.specs.Harts.{Key, present_asid, with_key}
use Rattle.process_model.specs.Steps.{filled, plain_step}
use Rattle.process_model.specs.World.{World, always, answers, with_hart}
use Rattle.process_model.specs.declared.config.Policy.{Policy}
use Rattle.process_model.specs.declared.reply.Refusal.TheVariants.{BadArgument}
use Rattle.process_model.specs.declared.reply.ScalarReply.TheVariants.{Filled, Refused}
use Rattle.process_model.specs.declared.reply.Reply.TheVariants.{Scalar}
use Rattle.process_model.specs.declared.step.Step.TheVariants as step
use Rattle.sv39_entry.specs.Address.{page_of}
use Rattle.sv39_entry.specs.declared.scheme.Scheme.{Scheme}
use Rattle.table_walk.specs.Tables.{HasTables, Tables}
use Rattle.hart_machine.specs.Harts.{hart_of, next_number, with_entry}
use Rattle.hart_machine.specs.Tables.{tables_of, HasTable, present_table}
use Rattle.hart_machine.specs.SlotProcesses.{view_of}
use Rattle.hart_machine.specs.WalkEntries.{entry_for, IsEntryOf}
use Rattle.table_walk.specs.Leaves.{LeavesAreLocal, LeavesAreThere}
use Rattle.table_walk.specs.LowPages.{tables_of_scheme}
use Rattle.hart_machine.specs.Worlds.{IsSlotContent, IsWorldButBuffers, IsModelOutcome, seats_of}
use Rattle.hart_machine.specs.declared.hart.Hart.{Hart}
use Rattle.hart_machine.specs.declared.machine.Machine.{Machine}
use Rattle.hart_machine.specs.declared.translation.SatpTable.{SatpTable}
use Rattle.hart_machine.specs.declared.translation.SatpTable.TheVariants.{OfKernel, OfProcess}
use Rattle.hart_machine.specs.declared.slot_process.SlotProcess.{SlotProcess}
use Rattle.hart_machine.proofs.AccessingEntries.{leaf_on_page, same_hart}
use Rattle.hart_machine.proofs.Fills.{in_newest, kept_is, number_is}
use Rattle.hart_machine.proofs.HartSteps.{hart_changes, HasHart, makes, no_hart, process_at, refused, runs, without_hart}
use Rattle.address_space.specs.ProcessLeaves.{process_local, process_there}
use Rattle.hart_machine.proofs.Leaves.{kernel_local, kernel_there}
use Rattle.hart_machine.proofs.PresentTables.{present_there}
use Rattle.process_model.specs.declared.limits.TheConstants.{BUFFER_SIZE}

-- an entry that is made by a table tells what the table says
pub entry_is : (scheme : Scheme) (t : Tables) (asid a : ℕ) → IsEntryOf scheme t asid (entry_for scheme t asid a)
entry_is scheme t asid a = record { of_space = refl; local = refl; leaf = sym (leaf_on_page scheme t a) }

-- a process that is put back changes nothing
abbrev pub put_back : (m : Machine) (w : World) (is : IsWorldButBuffers m w) (s : ℕ) (x : SlotProcess) → slice_get m.slots.items s ≡ Some (Some x) → IsWorldButBuffers (record m { slots = with_item m.slots s (Some x) }) w
put_back m w is s x at =
    let same : slice_set m.slots.items s (Some x) ≡ m.slots.items = place_set_back m.slots.items s (Some x) at in record {
      tables = is.tables;
      kernel = is.kernel;
      stacks = is.stacks;
      policy = is.policy;
      scheme = is.scheme;
      schemes = is.schemes;
      few = is.few;
      frames = is.frames;
      invariant = subst (λ (ps : List (Option SlotProcess)). PlainStateInvariant m.frames (m.kernel.seat ∷ seats_of ps)) (sym same) is.invariant;
      of_kernel = is.of_kernel;
      places = λ r. subst (λ (ps : List (Option SlotProcess)). IsSlotContent (slice_get ps r) (slice_get w.slots r) (is.tables r)) (sym same) (is.places r);
      copies = is.copies;
      counted = is.counted;
      files = is.files;
      harts = is.harts;
      hosted = λ h r y there on. let old = is.hosted h r y there on in (old.0, ap (λ (ps : List (Option SlotProcess)). slice_get ps r) same ∙ old.1);
      alone = is.alone;
      idle = is.idle;
      local = is.local;
    }

-- the table that a hart's satp has is there
pub table_there : (m : Machine) (w : World) → IsWorldButBuffers m w → (h : ℕ) (x : Hart) → slice_get m.harts.items h ≡ Some x → (t : SatpTable) → t ≡ present_table x → HasTable m t
table_there m w is h x at t present = subst (HasTable m) (sym present) (present_there m x (λ none. is.idle h x at none) (λ s on. is.hosted h s x at on))

-- the hart with a number
abbrev has_at : (m : Machine) (w : World) → IsWorldButBuffers m w → (h : ℕ) (x : Hart) → slice_get m.harts.items h ≡ Some x → HasHart m w h x.phase
has_at m w is h x at = record {
  hart = x;
  there = at;
  phased = refl;
  in_model = ap (λ (hs : List model.Hart). slice_get hs h) (sym is.harts) ∙ slice_get-map hart_of m.harts.items h ∙ ap (option_map hart_of) at;
  within = subst (λ (n : ℕ). h < n) (sym m.harts.ok.0) (slice_get_within m.harts.items h x at);
}

-- a hart that keeps the entry of a table keeps that of the table that was taken
module _ (m : Machine) (w : World) (is : IsWorldButBuffers m w) (asid a : ℕ) (x y : Hart) (t : SatpTable) where
  abbrev KeepsOf : Scheme → View → ℕ → Type 0
  KeepsOf scheme v root = (i : Tables) → HasTables scheme v root i → LeavesAreThere scheme i → LeavesAreLocal scheme i → y ≡ with_entry x (entry_for scheme i asid a)

  abbrev Keeps : SatpTable → Type 0
  Keeps u = y ≡ with_entry x (entry_for m.kernel.scheme (tables_of is.tables is.kernel u) asid a)

  pub keeps_of_kernel : t ≡ OfKernel → KeepsOf m.kernel.scheme m.kernel.seat m.kernel.root.0 → Keeps t
  keeps_of_kernel of_kernel kept =
      subst Keeps (sym of_kernel) (kept is.kernel is.of_kernel.maps.tables (kernel_there _ _ _ _ _ _ _ is.of_kernel) (kernel_local _ _ _ _ _ _ _ is.of_kernel))

  pub keeps_of_process : (s : ℕ) → t ≡ OfProcess s → (z : SlotProcess) → slice_get m.slots.items s ≡ Some (Some z) → (scheme : Scheme) → scheme ≡ z.space.layout.scheme
      → KeepsOf scheme (view_of z) z.space.root.0 → Keeps t
  keeps_of_process s of_process z at scheme given kept =
      let p = process_at m w is s z at in
      let shows = (p.2).agrees.stands.shows in
      let same : (p.0).scheme ≡ scheme = (p.2).agrees.lays.scheme ∙ sym given in
      let of_machine : scheme ≡ m.kernel.scheme = sym same ∙ is.schemes s p.0 p.1 ∙ sym is.scheme in
      subst Keeps (sym of_process)
      (kept (is.tables s) (tables_of_scheme same (p.2).agrees.stands.tables) (subst (λ k. LeavesAreThere k (is.tables s)) same (process_there _ _ _ p.0 shows (p.2).framed))
      (subst (λ k. LeavesAreLocal k (is.tables s)) same (process_local _ _ _ p.0 shows (p.2).framed)) ∙ ap (λ k. with_entry x (entry_for k (is.tables s) asid a)) of_machine)

module _ (m : Machine) (w : World) (is : IsWorldButBuffers m w) (h a : ℕ) where
  pub fills_nowhere : None ≡ option_map present_table (slice_get m.harts.items h) → IsModelOutcome m (Scalar (Refused BadArgument)) (plain_step w (step.Fill h a))
  fills_nowhere none = refused m w is BadArgument _ (without_hart w h true _ _ _ (no_hart m w is h (go (slice_get m.harts.items h) none))) where
    go : (o : Option Hart) → None ≡ option_map present_table o → None ≡ option_map (λ x. x.phase) o
    go None none = refl
    go (Some x) none = absurd (cc)

  module _ (x : Hart) (at : slice_get m.harts.items h ≡ Some x) (few : length x.buffer ≤ BUFFER_SIZE) where
    abbrev asid : ℕ
    asid = present_asid m.policy (hart_of x)

    abbrev entry : TlbEntry
    entry = entry_for m.kernel.scheme (tables_of is.tables is.kernel (present_table x)) asid a

    abbrev key : Key
    key = record { page = page_of a; asid = asid }

    step_is : plain_step w (step.Fill h a) ≡ answers (with_hart w h (record (hart_of x) { keys = with_key (hart_of x).keys key })) (Scalar (Filled (length (with_key (hart_of x).keys key) - 1)))
    step_is = runs w h true always always (filled w h a) (hart_of x) (has_at m w is h x at).in_model refl refl refl
        ∙ ap (λ (q : Policy). let ks = with_key (hart_of x).keys (record { page = page_of a; asid = present_asid q (hart_of x) }) in answers (with_hart w h (record (hart_of x) { keys = ks })) (Scalar (Filled (length ks - 1)))) (sym is.policy)

    fills_at : (y : Hart) → y ≡ with_entry x entry → (n : ℕ) → n ≡ next_number x.buffer → IsModelOutcome (record m { harts = with_item m.harts h y }) (Scalar (Filled n)) (plain_step w (step.Fill h a))
    fills_at y made n number =
        subst (λ (z : Hart). IsModelOutcome (record m { harts = with_item m.harts h z }) (Scalar (Filled n)) (plain_step w (step.Fill h a))) (sym made)
        (makes _ (Scalar (Filled n)) _ _ (hart_changes m w is h x (with_entry x entry) at (λ s on. is.hosted h s x at on) (λ s on k z there also. is.alone s k h z x there at also on) (λ none. is.idle h x at none) local)
        (step_is ∙ rw (number ∙ number_is x.buffer few key, kept_is x entry few) refl)) where
          local : (e : TlbEntry) → Contains (with_entry x entry).buffer e → e.global ≡ false
          local e there = elim (in_newest x.buffer entry e there) [ inl old ↦ is.local h x e at old | inr new ↦ rw new refl ]

  -- the hart that is read keeps an entry of the table that its satp has
  pub fills : (x : Hart) → slice_get m.harts.items h ≡ Some x → (t : SatpTable) → t ≡ present_table x → (z : Hart) → z ≡ get_or m.harts.items h z → length z.buffer ≤ BUFFER_SIZE → (i : ℕ) → i ≡ present_asid m.policy (hart_of z)
      → (y : Hart) → y ≡ with_entry z (entry_for m.kernel.scheme (tables_of is.tables is.kernel t) i a) → (n : ℕ) → n ≡ next_number z.buffer → IsModelOutcome (record m { harts = with_item m.harts h y }) (Scalar (Filled n)) (plain_step w (step.Fill h a))
  fills x at t present z read few i tagged y made n number =
      let same : z ≡ x = same_hart m.harts.items h x z read at in
      fills_at x at (subst (λ (u : Hart). length u.buffer ≤ BUFFER_SIZE) same few) y
      (made ∙ ap (λ (j : ℕ). with_entry z (entry_for m.kernel.scheme (tables_of is.tables is.kernel t) j a)) tagged ∙ ap (λ (u : Hart). with_entry u (entry_for m.kernel.scheme (tables_of is.tables is.kernel t) (present_asid m.policy (hart_of u)) a)) same
      ∙ ap (λ (u : SatpTable). with_entry x (entry_for m.kernel.scheme (tables_of is.tables is.kernel u) (present_asid m.policy (hart_of x)) a)) present) n
      (number ∙ ap (λ (u : Hart). next_number u.buffer) same)
