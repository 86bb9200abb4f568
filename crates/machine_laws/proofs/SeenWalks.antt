-- Lemmas: a walk of the tables that a seat has reads the same words in the machine's memory as in the frames of the seat.
use Rattle.std.proofs.Common.{◌≡◌, ℕ, zero, suc, ◌+◌, ◌-◌, ◌*◌, ◌<◌, ◌≤◌, refl, sym, ap, ◌∙◌, arith, Option, None, Some, IsSome, length}
use Rattle.std.proofs.lemmas.Bool.{lt-ltb}
use Rattle.std.proofs.lemmas.Option.{slice_get-get_or}
use Rattle.std.specs.Prelude.{option_and_then, slice_get, slice_index}
use Rattle.frame_store.specs.Laws.{IsSeatOf}
use Rattle.frame_store.specs.Plain.{PlainState, PlainStateInvariant, held_within}
use Rattle.frame_store.specs.View.{IsHeld, View, known_word}
use Rattle.machine_laws.specs.MachineStates.{words_memory}
use Rattle.sv39_entry.specs.Address.{vpn}
use Rattle.sv39_entry.specs.Frame.{frame_at}
use Rattle.sv39_entry.specs.Schemes.{top_level}
use Rattle.sv39_entry.specs.declared.frame.FrameNo.{FrameNo}
use Rattle.sv39_entry.specs.declared.scheme.Scheme.{Scheme}
use Rattle.table_walk.specs.HeldMemory.{IsReadable, held_memory}
use Rattle.table_walk.specs.Memory.{Memory}
use Rattle.table_walk.specs.Nodes.{vpn_low}
use Rattle.table_walk.specs.Walk.{CanWalk, IsAt, IsGlobal, LeavesMemory, Maps, Reads}

pub known_here : (b : PlainState) (v : View) → IsSeatOf PlainStateInvariant b v → (f i w : ℕ) → IsHeld v f → i < 512 → known_word v f i ≡ Some w
    → slice_get b.words (f * 512 + i) ≡ Some w
known_here b v fits f i w held low knows =
    let rule = fits.1 in
    let agrees = (rule.agrees.0 f).known i w knows in
    let inside = (held_within b v fits.0 rule).1 f held in
    let size = rule.sizes.0 in
    let sized = rule.sized in
    let there : f * 512 + i < length b.words = omega (arith, inside, size, sized, low) in
    let place : 512 * f + i ≡ f * 512 + i = omega arith in
    slice_get-get_or b.words (f * 512 + i) 0 there ∙ ap Some (sym (ap (slice_index b.words) place) ∙ agrees.1)

-- a word that is known is there
same_known : (b : PlainState) (v : View) → IsSeatOf PlainStateInvariant b v → (f i : ℕ) → IsHeld v f → i < 512 → (o : Option ℕ) → known_word v f i ≡ o → IsSome o
    → slice_get b.words (f * 512 + i) ≡ o
same_known b v fits f i held low None knows some = absurd (cc)
same_known b v fits f i held low (Some w) knows some = known_here b v fits f i w held low knows

module _ (b : PlainState) (v : View) (fits : IsSeatOf PlainStateInvariant b v) where
  abbrev pub seen : Memory
  seen = words_memory b.words

  same_by : (i : ℕ) → i < 512 → (o : Option FrameNo) → ((frame : FrameNo) → o ≡ Some frame → IsHeld v frame.0 × ((index : ℕ) → index < 512 → IsSome (known_word v frame.0 index)))
      → option_and_then (λ (frame : FrameNo). slice_get b.words (frame.0 * 512 + i)) o ≡ option_and_then (λ (frame : FrameNo). known_word v frame.0 i) o
  same_by i low None readable = refl
  same_by i low (Some frame) readable = let may = readable frame refl in same_known b v fits frame.0 i may.0 low (known_word v frame.0 i) refl (may.1 i low)

  -- in a frame that may be read, both memories have the same words
  pub same_word : (ppn i : ℕ) → IsReadable v ppn → i < 512 → seen ppn i ≡ held_memory v ppn i
  same_word ppn i readable low = rw (lt-ltb i 512 low) (same_by i low (frame_at ppn) readable)

  module _ (s : Scheme) (root page : ℕ) (may : CanWalk s (IsReadable v) (held_memory v) root page) where
    same_on : (k table : ℕ) → k ≤ top_level s → IsAt s (held_memory v) root page k table → (i : ℕ) → i < 512 → seen table i ≡ held_memory v table i
    same_on k table low way i small = same_word table i (may k table low way) small

    -- the walk is at the same tables
    pub at_held : (k table : ℕ) → k ≤ top_level s → IsAt s seen root page k table → IsAt s (held_memory v) root page k table
    at_held zero table low way = way
    at_held (suc k) table low way =
        let up = at_held k way.0 (omega (arith, low)) way.2 in
        (way.0, way.1, up, sym (same_on k way.0 (omega (arith, low)) up (vpn page (top_level s - k)) (vpn_low page (top_level s - k))) ∙ way.3, way.4, way.5)

    pub at_seen : (k table : ℕ) → k ≤ top_level s → IsAt s (held_memory v) root page k table → IsAt s seen root page k table
    at_seen zero table low way = way
    at_seen (suc k) table low way =
        (way.0, way.1, at_seen k way.0 (omega (arith, low)) way.2, same_on k way.0 (omega (arith, low)) way.2 (vpn page (top_level s - k)) (vpn_low page (top_level s - k)) ∙ way.3, way.4, way.5)

    reads_held : (level : ℕ) (word : Option ℕ) → Reads s seen root page level word → Reads s (held_memory v) root page level word
    reads_held level word r =
        let low = r.low in
        let way = at_held (top_level s - level) r.table (omega (arith, low)) r.way in
        record { low = r.low; table = r.table; way = way; read = sym (same_on (top_level s - level) r.table (omega (arith, low)) way (vpn page level) (vpn_low page level)) ∙ r.read }

    reads_seen : (level : ℕ) (word : Option ℕ) → Reads s (held_memory v) root page level word → Reads s seen root page level word
    reads_seen level word r =
        let low = r.low in
        record {
          low = r.low;
          table = r.table;
          way = at_seen (top_level s - level) r.table (omega (arith, low)) r.way;
          read = same_on (top_level s - level) r.table (omega (arith, low)) r.way (vpn page level) (vpn_low page level) ∙ r.read;
        }

    pub maps_held : (leaf level : ℕ) → Maps s seen root page leaf level → Maps s (held_memory v) root page leaf level
    maps_held leaf level maps = record { reads = reads_held level (Some leaf) maps.reads; kind = maps.kind; aligned = maps.aligned }

    pub maps_seen : (leaf level : ℕ) → Maps s (held_memory v) root page leaf level → Maps s seen root page leaf level
    maps_seen leaf level maps = record { reads = reads_seen level (Some leaf) maps.reads; kind = maps.kind; aligned = maps.aligned }

    pub leaves_held : LeavesMemory s seen root page → LeavesMemory s (held_memory v) root page
    leaves_held out = (out.0, reads_held out.0 None out.1)

    pub global_held : (level : ℕ) → IsGlobal s seen root page level → IsGlobal s (held_memory v) root page level
    global_held level g =
        let low : g.0 ≤ top_level s = let few = g.3 in omega (arith, few) in
        let way = at_held g.0 g.1 low g.4 in
        (g.0, g.1, g.2, g.3, way, sym (same_on g.0 g.1 low way (vpn page (top_level s - g.0)) (vpn_low page (top_level s - g.0))) ∙ g.5, g.6)
