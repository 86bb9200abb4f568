-- A lemma (`outcome_is`): the entry that a fill adds to a TLB is the outcome of a walk of the page tables of a seat.
use Rattle.std.proofs.Common.{◌≡◌, ℕ, true, false, is_some, Option, None, option_map, Some, refl, ap, sym, ◌∙◌, inl, inr}
use Rattle.std.proofs.lemmas.Bool.{cases_Bool}
use Rattle.std.specs.FinMap.{get}
use Rattle.frame_store.specs.View.{View}
use Rattle.hart_tlb.specs.Outcome as outcome
use Rattle.sv39_entry.specs.Address.{page_of}
use Rattle.sv39_entry.specs.Frame.{frame_at, ppn_of}
use Rattle.sv39_entry.specs.Schemes.{is_canonical}
use Rattle.sv39_entry.specs.declared.scheme.Scheme.{Scheme}
use Rattle.table_walk.specs.HeldMemory.{held_memory}
use Rattle.table_walk.specs.Tables.{Tables, walk_leaf}
use Rattle.table_walk.specs.Walk.{FindsLeaf, IsGlobal, LeavesMemory, Maps}
use Rattle.table_walk.specs.Leaves.{frames_there, lands, LeavesAreThere, page_leaf}
use Rattle.hart_machine.specs.WalkEntries.{entry_for}

module _ (s : Scheme) (v : View) (root : ℕ) (t : Tables) (leaves_are : (page leaf level : ℕ) → get t.leaves (walk_leaf s page) ≡ Some leaf → level ≡ 0 → Maps s (held_memory v) (ppn_of root) page leaf level)
    (are_leaves : (page leaf level : ℕ) → Maps s (held_memory v) (ppn_of root) page leaf level → get t.leaves (walk_leaf s page) ≡ Some leaf)
    (inside : (page : ℕ) → LeavesMemory s (held_memory v) (ppn_of root) page → ⊥) (there : LeavesAreThere s t) (a : ℕ) where
  -- what a buffer keeps
  module _ (asid : ℕ) (local : (w : ℕ) → get t.leaves (walk_leaf s (page_of a)) ≡ Some w → IsGlobal s (held_memory v) (ppn_of root) (page_of a) 0 → ⊥) where
    shown : (o : Option ℕ) → get t.leaves (walk_leaf s (page_of a)) ≡ o → is_canonical s a ≡ true → outcome.IsWalkResult s (held_memory v) frames_there (ppn_of root) a (option_map page_leaf o) false
    shown None none canonical = (inr ((λ leaf level maps. let found = sym none ∙ are_leaves _ leaf level maps in cc), inside _), refl)
    shown (Some w) found canonical =
        let finds : FindsLeaf s (held_memory v) (ppn_of root) a w 0 = (canonical, leaves_are (page_of a) w 0 found refl) in
        ((finds, ((λ none. absurd (cc)), (λ global. absurd (local w found global)))), ap (λ p. is_some (frame_at p)) (lands w a) ∙ there (page_of a) w found)

    pub outcome_is : outcome.IsOutcome s (held_memory v) frames_there (ppn_of root) asid a (entry_for s t asid a)
    outcome_is = record {
      of_page = refl;
      of_space = refl;
      shown = elim (cases_Bool (is_canonical s a)) [
        | inl canonical ↦ rw canonical (shown _ refl canonical)
        | inr other ↦ rw other (inl other, refl)
      ];
    }
