-- Lemma: over the page tables that a seat has, if each leaf names a frame, an access is translated to what the tables say
-- (`walk_answer`): the leaf and the physical address, or a page fault.
use Rattle.std.proofs.Common.{◌≡◌, ℕ, true, is_some, Option, None, option_map, Some, refl, ap, sym, ◌∙◌, inl, inr}
use Rattle.std.proofs.lemmas.Bool.{cases_Bool}
use Rattle.std.specs.FinMap.{get}
use Rattle.frame_store.specs.View.{View}
use Rattle.sv39_entry.specs.Address.{page_of}
use Rattle.sv39_entry.specs.Frame.{frame_at, ppn_of}
use Rattle.sv39_entry.specs.Schemes.{is_canonical}
use Rattle.sv39_entry.specs.Word.{permits}
use Rattle.sv39_entry.specs.declared.scheme.Scheme.{Scheme}
use Rattle.sv39_entry.specs.declared.access.Access.{Access}
use Rattle.sv39_entry.specs.declared.access.Mode.{Mode}
use Rattle.table_walk.specs.HeldMemory.{held_memory}
use Rattle.table_walk.specs.Tables.{Tables, walk_leaf}
use Rattle.table_walk.specs.Walk.{FindsLeaf, LeavesMemory, Maps, Translates}
use Rattle.table_walk.specs.Leaves.{answer, frames_there, lands, LeavesAreThere, page_leaf, walk_answer}

module _ (s : Scheme) (v : View) (root : ℕ) (t : Tables) (leaves_are : (page leaf level : ℕ) → get t.leaves (walk_leaf s page) ≡ Some leaf → level ≡ 0 → Maps s (held_memory v) (ppn_of root) page leaf level)
    (are_leaves : (page leaf level : ℕ) → Maps s (held_memory v) (ppn_of root) page leaf level → get t.leaves (walk_leaf s page) ≡ Some leaf)
    (inside : (page : ℕ) → LeavesMemory s (held_memory v) (ppn_of root) page → ⊥) (there : LeavesAreThere s t) (a : ℕ) where
  module _ (access : Access) (mode : Mode) where
    by_leaf : (o : Option ℕ) → get t.leaves (walk_leaf s (page_of a)) ≡ o → is_canonical s a ≡ true
        → Translates s (held_memory v) frames_there (ppn_of root) a access mode (answer (option_map page_leaf o) a access mode)
    by_leaf None none canonical = (refl, inl (inr ((λ leaf level maps. let found = sym none ∙ are_leaves _ leaf level maps in cc), inside _)))
    by_leaf (Some w) found canonical =
        let finds : FindsLeaf s (held_memory v) (ppn_of root) a w 0 = (canonical, leaves_are (page_of a) w 0 found refl) in
        elim (cases_Bool (permits mode access w)) [
          | inl lets ↦ rw lets (finds, lets, refl, ap (λ p. is_some (frame_at p)) (lands w a) ∙ there (page_of a) w found)
          | inr denies ↦ rw denies (refl, inr (w, 0, finds, denies))
        ]

    pub translates : Translates s (held_memory v) frames_there (ppn_of root) a access mode (walk_answer s t a access mode)
    translates = elim (cases_Bool (is_canonical s a)) [
      | inl canonical ↦ rw canonical (by_leaf _ refl canonical)
      | inr other ↦ rw other (refl, inl (inl other))
    ]
