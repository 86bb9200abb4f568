-- Lemmas: at boot a hart has the empty history (`booted_history`), and a step adds its events to a history (`step_history`).
use Rattle.std.proofs.Common.{◌≡◌, ℕ, zero, suc, ◌*◌, ◌^◌, ◌<◌, ◌≤◌, not, ◌&&◌, Bool, true, false, refl, sym, ap, subst, ◌∙◌, arith, Option, None, Some, option_map, List, [], ◌∷◌, ◌++◌, length, map, if◌then◌else◌}
use Rattle.std.proofs.lemmas.Option.{same_Some, slice_get-map}
use Rattle.std.specs.Prelude.{replicate, slice_get}
use Rattle.access_history.specs.History.{First, Memory, memory_at, satp_at}
use Rattle.access_history.specs.declared.event.Event.{Event}
use Rattle.hart_machine.proofs.HartSteps.{slot_low}
use Rattle.hart_machine.specs.BufferEntries.{IsInWorld}
use Rattle.hart_machine.specs.Buffers.{BuffersAre, buffer_after, is_about}
use Rattle.hart_machine.specs.Harts.{hart_of, key_of}
use Rattle.hart_machine.specs.Tables.{present_table, tables_of}
use Rattle.hart_machine.specs.WalkEntries.{entry_for}
use Rattle.hart_machine.specs.Worlds.{IsWorldButBuffers}
use Rattle.hart_machine.specs.declared.hart.Hart.{Hart}
use Rattle.hart_machine.specs.declared.machine.Machine.{Machine}
use Rattle.hart_tlb.specs.Buffer.{Fills, newest_entries}
use Rattle.hart_tlb.specs.declared.entry.TlbEntry.{TlbEntry}
use Rattle.history_laws.specs.PlainWalks.{extent_of}
use Rattle.history_laws.specs.TlbEntries.{TlbRuns, fills, starts}
use Rattle.machine_laws.proofs.FencedRuns.{fenced_keeps, made_runs}
use Rattle.machine_laws.proofs.PresentWalks.{present_walkable}
use Rattle.machine_laws.proofs.QuietEvents.{memory_written, satp_after, satp_run, satp_stored, stores_run}
use Rattle.machine_laws.proofs.SatpWords.{asid_is, root_is, scheme_is}
use Rattle.machine_laws.proofs.StoredWords.{memory_stored}
use Rattle.machine_laws.proofs.TableOutcomes.{IsWalkable, fills_with}
use Rattle.machine_laws.specs.HartHistories.{HasHistory}
use Rattle.machine_laws.specs.MachineEvents.{after_step, fenced_on, satp_written, stores}
use Rattle.machine_laws.specs.MachineStates.{first_on, memory_in, root_in, satp_in, satp_on, satp_or_zero}
use Rattle.process_laws.proofs.StepReplies.{step_suits}
use Rattle.process_model.specs.Files.{File}
use Rattle.process_model.specs.Harts as model
use Rattle.process_model.specs.Harts.{asid_of_slot, has_user_satp, present_asid}
use Rattle.process_model.specs.Steps.{is_refused, step}
use Rattle.process_model.specs.World.{World, booted}
use Rattle.process_model.specs.declared.config.Config.{Config}
use Rattle.process_model.specs.declared.config.Policy.{Policy}
use Rattle.process_model.specs.declared.config.Policy.TheVariants.{Full, Asid}
use Rattle.process_model.specs.declared.limits.TheConstants.{BUFFER_SIZE}
use Rattle.process_model.specs.declared.reply.Reply.{Reply}
use Rattle.process_model.specs.declared.step.Step.{Step}
use Rattle.sv39_entry.specs.Frame.{ppn_of}
use Rattle.sv39_entry.specs.Satp.{asid, root_ppn, scheme_of}
use Rattle.sv39_entry.specs.Schemes.{mode_of}
use Rattle.sv39_entry.specs.declared.scheme.Scheme.{Scheme}

-- ---- what a machine in a world has

-- so many words
pub many_words : (m : Machine) (w : World) → IsWorldButBuffers m w → (length m.frames.words ≡ 512 * w.frames) × (w.frames ≤ 2 ^ 16)
many_words m w is =
    let sized = is.invariant.sized in
    let size = is.invariant.sizes.0 in
    let frames = is.frames in
    let few = is.invariant.few in
    (omega (arith, sized, size, frames), omega (arith, size, frames, few))

module _ (m : Machine) (w : World) (is : IsWorldButBuffers m w) (k : ℕ) (x : Hart) (at : slice_get m.harts.items k ≡ Some x) where
  user_asid : (o : Option ℕ) → ((s : ℕ) → o ≡ Some s → s < 2 ^ 15) → (c : Bool) → ◌<◌ (if c then asid_of_slot o else 0) (2 ^ 16)
  user_asid o low false = omega arith
  user_asid None low true = omega arith
  user_asid (Some s) low true = let few = low s refl in omega (arith, few)

  asid_by : (policy : Policy) → present_asid policy (hart_of x) < 2 ^ 16
  asid_by Full = omega arith
  asid_by Asid = user_asid x.slot (λ s on. let few = slot_low m w is k x at s on in omega (arith, few)) (has_user_satp x.phase)

  pub asid_low : present_asid m.policy (hart_of x) < 2 ^ 16
  asid_low = asid_by m.policy

  pub walkable : IsWalkable m.kernel.scheme m.frames (root_in m x) (tables_of is.tables is.kernel (present_table x))
  walkable = present_walkable m w is k x at

  pub root_low : root_in m x < 2 ^ 16
  root_low = let rooted = walkable.tables.known.rooted in (walkable.tables.known.below _ _ rooted).2

  pub satp_is : satp_on m k ≡ satp_in m x
  satp_is = ap (satp_or_zero m) at

  -- the fields of satp, by a history
  module _ (f : First) (h : List Event) (has : HasHistory m k f h) where
    word : satp_at f.satp h ≡ satp_in m x
    word = has.satp ∙ satp_is

    pub scheme_at : scheme_of (satp_at f.satp h) ≡ Some m.kernel.scheme
    scheme_at = ap scheme_of word ∙ scheme_is _ _ asid_low root_low m.kernel.scheme

    pub asid_at : asid (satp_at f.satp h) ≡ present_asid m.policy (hart_of x)
    asid_at = ap asid word ∙ asid_is _ _ asid_low root_low (mode_of m.kernel.scheme)

    pub root_at : root_ppn (satp_at f.satp h) ≡ ppn_of (root_in m x)
    root_at = ap root_ppn word ∙ root_is _ _ asid_low root_low (mode_of m.kernel.scheme)

    abbrev FillsBy : Memory → ℕ → ℕ → ℕ → List TlbEntry → Type 0
    FillsBy memory root space a es =
        Fills m.kernel.scheme memory (extent_of memory) root space a BUFFER_SIZE es
        (newest_entries BUFFER_SIZE (es ++ entry_for m.kernel.scheme (tables_of is.tables is.kernel (present_table x)) (present_asid m.policy (hart_of x)) a ∷ []))

    fill_is : (a : ℕ) (es : List TlbEntry) → FillsBy (memory_at f.memory h) (root_ppn (satp_at f.satp h)) (asid (satp_at f.satp h)) a es
    fill_is a es =
        subst (λ (n : Memory). FillsBy n (root_ppn (satp_at f.satp h)) (asid (satp_at f.satp h)) a es) (sym has.memory)
        (subst (λ (r : ℕ). FillsBy (memory_in m) r (asid (satp_at f.satp h)) a es) (sym root_at)
        (subst (λ (n : ℕ). FillsBy (memory_in m) (ppn_of (root_in m x)) n a es) (sym asid_at)
        (fills_with m.kernel.scheme m.frames (root_in m x) (tables_of is.tables is.kernel (present_table x)) walkable a (present_asid m.policy (hart_of x)) BUFFER_SIZE es)))

    pub run_at : TlbRuns f m.kernel.scheme BUFFER_SIZE h x.buffer
    run_at = has.buffer x.buffer (ap (option_map (λ (y : Hart). y.buffer)) at)

    pub fills_at : (a : ℕ) → TlbRuns f m.kernel.scheme BUFFER_SIZE h
        (newest_entries BUFFER_SIZE (x.buffer ++ entry_for m.kernel.scheme (tables_of is.tables is.kernel (present_table x)) (present_asid m.policy (hart_of x)) a ∷ []))
    fills_at a = fills a run_at scheme_at (fill_is a x.buffer)

-- ---- at boot

keyless : (es : List TlbEntry) → map key_of es ≡ [] → es ≡ []
keyless [] none = refl
keyless (e ∷ es) none = absurd (cc)

idle_at : (n k : ℕ) (x : model.Hart) → slice_get (replicate n model.idle_hart) k ≡ Some x → x ≡ model.idle_hart
idle_at zero k x at = absurd (cc)
idle_at (suc n) zero x at = sym (same_Some model.idle_hart x at)
idle_at (suc n) (suc k) x at = idle_at n k x at

pub booted_history : (m : Machine) (c : Config) (files : List File) (k : ℕ) → IsInWorld m (booted c files) → HasHistory m k (first_on m k) []
booted_history m c files k is = record { memory = refl; satp = refl; unprotected = refl; buffer = λ es. empty es (slice_get m.harts.items k) refl } where
  empty : (es : List TlbEntry) (o : Option Hart) → slice_get m.harts.items k ≡ o → option_map (λ (y : Hart). y.buffer) o ≡ Some es
      → TlbRuns (first_on m k) m.kernel.scheme BUFFER_SIZE [] es
  empty es None at is_there = absurd (cc)
  empty es (Some x) at is_there =
      let there : slice_get (replicate c.harts model.idle_hart) k ≡ Some (hart_of x) =
      ap (λ (hs : List model.Hart). slice_get hs k) (sym (is.world).harts) ∙ slice_get-map hart_of m.harts.items k ∙ ap (option_map hart_of) at in
      let none : map key_of x.buffer ≡ [] = ap (λ (y : model.Hart). y.keys) (idle_at c.harts k (hart_of x) there) in
      subst (TlbRuns (first_on m k) m.kernel.scheme BUFFER_SIZE []) (sym (sym (same_Some x.buffer es is_there) ∙ keyless x.buffer none)) starts

-- ---- a step

module _ (old new : Machine) (w : World) (s : Step) (reply : Reply) (k : ℕ) (f : First) (h : List Event) (is : IsInWorld old w) (after : IsInWorld new (step w s).world)
    (buffers : BuffersAre old new (is.world).tables (is.world).kernel s reply) (has : HasHistory old k f h) where
  abbrev stored_h : List Event
  stored_h = stores 0 old.frames.words new.frames.words h

  abbrev late : List Event
  late = satp_written (satp_on old k) (satp_on new k) stored_h

  memory_late : memory_at f.memory late ≡ memory_in new
  memory_late =
      let one = many_words old w is.world in
      let two = many_words new (step w s).world after.world in
      let same = (step_suits w s).memory in
      let sized = one.0 in
      let few = one.1 in
      let resized = two.0 in
      memory_written f.memory (satp_on old k) (satp_on new k) stored_h
      ∙ memory_stored f.memory [] old.frames.words new.frames.words 0 h refl (omega (arith, sized, few)) (omega (arith, sized, resized, same)) has.memory

  satp_late : satp_at f.satp late ≡ satp_on new k
  satp_late = satp_after f.satp (satp_on old k) (satp_on new k) stored_h (satp_stored f.satp 0 old.frames.words new.frames.words h ∙ has.satp)

  quiet : (z : Scheme) (es : List TlbEntry) → TlbRuns f z BUFFER_SIZE h es → TlbRuns f z BUFFER_SIZE late es
  quiet z es run = satp_run f z BUFFER_SIZE es (satp_on old k) (satp_on new k) stored_h (stores_run f z BUFFER_SIZE es 0 old.frames.words new.frames.words h run)

  same_scheme : new.kernel.scheme ≡ old.kernel.scheme
  same_scheme = (after.world).scheme ∙ (step_suits w s).scheme ∙ sym (is.world).scheme

  abbrev whole : List Event
  whole = after_step old new s reply k h

  buffer_by : (es : List TlbEntry) (o : Option Hart) → slice_get old.harts.items k ≡ o
      → option_map (λ (x : Hart). if not (is_refused reply) && is_about s k then buffer_after old.kernel.scheme old.policy (is.world).tables (is.world).kernel s x else x.buffer) o ≡ Some es
      → TlbRuns f old.kernel.scheme BUFFER_SIZE (fenced_on o s reply k old.policy late) es
  buffer_by es None at is_there = absurd (cc)
  buffer_by es (Some x) at is_there =
      subst (TlbRuns f old.kernel.scheme BUFFER_SIZE (fenced_on (Some x) s reply k old.policy late)) (same_Some _ es is_there)
      (made_runs f old.kernel.scheme x (is.world).tables (is.world).kernel old.policy h late (quiet old.kernel.scheme)
      (fills_at old w is.world k x at f h has) (run_at old w is.world k x at f h has) s (not (is_refused reply) && is_about s k))

  pub step_history : HasHistory new k f whole
  step_history = record {
    memory = fenced_keeps (λ (l : List Event). memory_at f.memory l ≡ memory_in new) (λ va space l same. same) (slice_get old.harts.items k) s reply k old.policy late memory_late;
    satp = fenced_keeps (λ (l : List Event). satp_at f.satp l ≡ satp_on new k) (λ va space l same. same) (slice_get old.harts.items k) s reply k old.policy late satp_late;
    unprotected = has.unprotected;
    buffer = λ es there.
        subst (λ (z : Scheme). TlbRuns f z BUFFER_SIZE whole es) (sym same_scheme) (buffer_by es (slice_get old.harts.items k) refl (sym (buffers k) ∙ there));
  }
