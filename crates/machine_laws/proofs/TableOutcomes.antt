-- Lemmas: what a fill adds by the tables that a seat has (`entry_for`) is the outcome of a walk over the machine's memory, if each leaf names a frame of the
-- memory; so it is the fill of a TLB (`fills_with`).
use Rattle.std.proofs.Common.{◌≡◌, ℕ, ◌+◌, ◌*◌, ◌/◌, ◌%◌, ◌^◌, ◌<◌, ◌≤◌, true, false, is_some, refl, sym, ap, ◌∙◌, inl, inr, arith, Option, None, Some, option_map, List, [], ◌∷◌, ◌++◌, length}
use Rattle.std.proofs.lemmas.Bool.{cases_Bool, cases_lt, lt-ltb}
use Rattle.std.proofs.lemmas.Option.{slice_get-get_or, slice_get_past}
use Rattle.std.specs.FinMap.{get}
use Rattle.std.specs.Prelude.{option_and_then, slice_get}
use Rattle.frame_store.specs.Laws.{IsSeatOf}
use Rattle.frame_store.specs.Plain.{PlainState, PlainStateInvariant}
use Rattle.frame_store.specs.View.{View}
use Rattle.hart_machine.specs.WalkEntries.{entry_for}
use Rattle.hart_tlb.proofs.Outcomes.{one_outcome, outcome_or_fault}
use Rattle.hart_tlb.specs.Buffer.{Fills, newest_entries}
use Rattle.hart_tlb.specs.Outcome.{IsOutcome, IsWalkResult, IsWhole}
use Rattle.hart_tlb.specs.declared.entry.TlbEntry.{TlbEntry}
use Rattle.history_laws.specs.PlainWalks.{extent_of}
use Rattle.machine_laws.proofs.SeenWalks.{global_held, leaves_held, maps_held, maps_seen}
use Rattle.machine_laws.proofs.StoredWords.{word_there}
use Rattle.machine_laws.specs.MachineStates.{words_memory}
use Rattle.sv39_entry.specs.Address.{page_of}
use Rattle.sv39_entry.specs.Frame.{frame_at, ppn_of}
use Rattle.sv39_entry.specs.Schemes.{is_canonical}
use Rattle.sv39_entry.specs.Word.{ppn}
use Rattle.sv39_entry.specs.declared.frame.FrameNo.{FrameNo}
use Rattle.sv39_entry.specs.declared.scheme.Scheme.{Scheme}
use Rattle.table_walk.proofs.Outcomes.{one_finding}
use Rattle.table_walk.proofs.Walks as walks
use Rattle.table_walk.specs.HeldMemory.{IsReadable, held_memory}
use Rattle.table_walk.specs.Leaves.{LeavesAreLocal, lands, page_leaf}
use Rattle.table_walk.specs.Memory.{Memory, has_byte, physical_address}
use Rattle.table_walk.specs.Tables.{HasTables, Tables, walk_leaf}
use Rattle.table_walk.specs.Walk.{CanWalk, FindsLeaf, IsGlobal, LeavesMemory, Maps}

-- the leaf of each page that has one names one of so many frames
abbrev pub LeavesAreWithin : Scheme → ℕ → Tables → Type 0
LeavesAreWithin s frames t = (page w : ℕ) → get t.leaves (walk_leaf s page) ≡ Some w → (f : ℕ) × (ppn w ≡ ppn_of f) × (f < frames)

-- what a hart's walks read: the tables below a root, which a seat has
pub record IsWalkable (s : Scheme) (b : PlainState) (root : ℕ) (t : Tables) : Type 0 where
  pub view : View
  pub fits : IsSeatOf PlainStateInvariant b view
  pub tables : HasTables s view root t
  pub local : LeavesAreLocal s t
  pub within : LeavesAreWithin s (length b.counts) t

-- a word of a frame of the memory is there
there_by : (words : List ℕ) (i : ℕ) → i < length words → is_some (slice_get words i) ≡ true
there_by words i low = ap is_some (slice_get-get_or words i 0 low)

pub word_is : (words : List ℕ) (frames f i : ℕ) → length words ≡ 512 * frames → frames ≤ 2 ^ 16 → f < frames → i < 512 → is_some (words_memory words (ppn_of f) i) ≡ true
word_is words frames f i sized few low small =
    ap is_some (word_there words f i (omega (arith, low, few)) small) ∙ there_by words (f * 512 + i) (omega (arith, sized, low, small))

module _ (s : Scheme) (b : PlainState) (root : ℕ) (t : Tables) (is : IsWalkable s b root t) where
  abbrev pub memory : Memory
  memory = words_memory b.words

  may : (page : ℕ) → CanWalk s (IsReadable is.view) (held_memory is.view) (ppn_of root) page
  may page = walks.readable is.view root t is.tables page

  no_way_out : (page : ℕ) → LeavesMemory s memory (ppn_of root) page → ⊥
  no_way_out page out = walks.inside is.view root t is.tables page (leaves_held b is.view is.fits s (ppn_of root) page (may page) out)

  are_leaves : (page leaf level : ℕ) → Maps s memory (ppn_of root) page leaf level → get t.leaves (walk_leaf s page) ≡ Some leaf
  are_leaves page leaf level maps = ((walks.walk is.view root t is.tables page leaf level).0 (maps_held b is.view is.fits s (ppn_of root) page (may page) leaf level maps)).1

  leaves_are : (page leaf : ℕ) → get t.leaves (walk_leaf s page) ≡ Some leaf → Maps s memory (ppn_of root) page leaf 0
  leaves_are page leaf at = maps_seen b is.view is.fits s (ppn_of root) page (may page) leaf 0 ((walks.walk is.view root t is.tables page leaf 0).1 (refl, at))

  not_global : (page leaf : ℕ) → get t.leaves (walk_leaf s page) ≡ Some leaf → IsGlobal s memory (ppn_of root) page 0 → ⊥
  not_global page leaf at g =
      let set = (walks.global is.view root t is.tables page leaf at).0 (global_held b is.view is.fits s (ppn_of root) page (may page) 0 g) in
      let clear = is.local page leaf at in
      cc

  -- the byte that a leaf leads to is in the memory
  byte_there : (a page w : ℕ) → get t.leaves (walk_leaf s page) ≡ Some w → has_byte (extent_of memory) (physical_address w 0 a) ≡ true
  byte_there a page w at =
      let frame = is.within page w at in
      let lies : physical_address w 0 a / 4096 ≡ ppn_of frame.0 = lands w a ∙ frame.1 in
      let sized = is.fits.1.sized in
      let few = is.fits.1.few in
      rw lies (word_is b.words (length b.counts) frame.0 (physical_address w 0 a % 4096 / 8) sized (omega (arith, few)) frame.2 (omega arith))

  module _ (a asid : ℕ) where
    shown : (o : Option ℕ) → get t.leaves (walk_leaf s (page_of a)) ≡ o → is_canonical s a ≡ true
        → IsWalkResult s memory (extent_of memory) (ppn_of root) a (option_map page_leaf o) false
    shown None none canonical = (inr ((λ leaf level maps. let found = sym none ∙ are_leaves _ leaf level maps in cc), no_way_out _), refl)
    shown (Some w) found canonical =
        let finds : FindsLeaf s memory (ppn_of root) a w 0 = (canonical, leaves_are (page_of a) w found) in
        ((finds, ((λ none. absurd (cc)), (λ global. absurd (not_global (page_of a) w found global)))), byte_there a (page_of a) w found)

    pub outcome_is : IsOutcome s memory (extent_of memory) (ppn_of root) asid a (entry_for s t asid a)
    outcome_is = record {
      of_page = refl;
      of_space = refl;
      shown = elim (cases_Bool (is_canonical s a)) [
        | inl canonical ↦ rw canonical (shown _ refl canonical)
        | inr other ↦ rw other (inl other, refl)
      ];
    }

    pub fills_with : (places : ℕ) (es : List TlbEntry)
        → Fills s memory (extent_of memory) (ppn_of root) asid a places es (newest_entries places (es ++ entry_for s t asid a ∷ []))
    fills_with places es =
        let one = one_finding s memory (ppn_of root) a in
        record {
          adds = λ e other. ap (λ (d : TlbEntry). newest_entries places (es ++ d ∷ [])) (one_outcome s memory (extent_of memory) (ppn_of root) a one asid (entry_for s t asid a) e outcome_is other);
          adds_nothing = λ fault. absurd (outcome_or_fault s memory (extent_of memory) (ppn_of root) a one asid (entry_for s t asid a) outcome_is fault);
          either = inr (entry_for s t asid a, outcome_is);
        }

-- a frame is in the memory as a whole, or not at all
whole_in : (words : List ℕ) (frames i j : ℕ) → length words ≡ 512 * frames → i < 512 → j < 512 → (o : Option FrameNo)
    → is_some (option_and_then (λ (frame : FrameNo). slice_get words (frame.0 * 512 + i)) o) ≡ is_some (option_and_then (λ (frame : FrameNo). slice_get words (frame.0 * 512 + j)) o)
whole_in words frames i j sized low small None = refl
whole_in words frames i j sized low small (Some frame) = elim (cases_lt frame.0 frames) [
  | inl within ↦ there_by words (frame.0 * 512 + i) (omega (arith, within, sized, low)) ∙ sym (there_by words (frame.0 * 512 + j) (omega (arith, within, sized, small)))
  | inr past ↦ ap is_some (slice_get_past words (frame.0 * 512 + i) (omega (arith, past, sized)) ∙ sym (slice_get_past words (frame.0 * 512 + j) (omega (arith, past, sized))))
]

pub whole_frames : (words : List ℕ) (frames ppn : ℕ) → length words ≡ 512 * frames → IsWhole (extent_of (words_memory words)) ppn
whole_frames words frames ppn sized i j low small = rw (lt-ltb i 512 low, lt-ltb j 512 small) (whole_in words frames i j sized low small (frame_at ppn))
