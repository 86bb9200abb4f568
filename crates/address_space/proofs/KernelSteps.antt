-- Lemmas for the steps of `KernelTable::build`: a root that maps the trampoline, one more stack, one more frame. After each,
-- what is mapped (`MapsKernel`), how many tables were missing, and the credits spent.
use Rattle.std.proofs.Common.{◌≡◌, ℕ, ◌+◌, ◌*◌, ◌/◌, ◌^◌, ◌<◌, true, false, List, [], ◌∷◌, ◌++◌, length, Option, None, Some, inl, inr, refl, ap, sym, subst, ◌∙◌, arith}
use Rattle.std.specs.FinMap.{get, get-empty}
use Rattle.std.specs.Ordering.{nat_cmp}
use Rattle.std.proofs.lemmas.Bool.{cases_eq, ne_eqb}
use Rattle.frame_store.specs.View.{View, claimed, IsHeld, references, with_hold}
use Rattle.sv39_entry.specs.Word.{leaf_word}
use Rattle.table_walk.specs.Tables.{bare_root, blank_hold, ChangesTables, HasTables, Tables, IsGrown, leaf_node, missing, with_leaf}
use Rattle.table_walk.specs.Keys.{insert_other, insert_same}
use Rattle.sv39_entry.specs.Schemes.{top_level, of_scheme, page_limit, trampoline_page}
use Rattle.sv39_entry.specs.declared.scheme.Scheme.{Scheme}
use Rattle.address_space.specs.Agreement.{code_rights, data_rights}
use Rattle.address_space.specs.Kernel.{direct_tables, first_direct, frame_rights, kernel_leaf, kernel_page, MapsKernel, stack_page}
use Rattle.address_space.specs.Steps.{SpendsCredits}
use Rattle.address_space.proofs.KernelFrames.{holds_root, more_stacks, more_tables, spends_claim, spends_on, spends_root, spends_tables, once_still, tables_stay, not_claimed}
use Rattle.address_space.proofs.KernelPages.{frame_other, get_last, nothing_else, on_frame, on_slot, on_trampoline, stack_other}
use Rattle.address_space.proofs.KernelTables.{frame_missing, frame_numbers, stack_missing, stack_numbers, trampoline_missing, trampoline_numbers}

-- the tables after a page was mapped, as `map` has it
abbrev pub Mapped : Scheme → View → View → ℕ → Tables → ℕ → ℕ → Type 0
Mapped z v w root t page leaf =
    (u : Tables) × IsGrown z t u page (top_level z) × HasTables z w root (with_leaf u (leaf_node page) leaf) × ChangesTables v w t u (missing z t page)

-- ---- one leaf more

module _ (z : Scheme) (t u : Tables) (page leaf : ℕ) (before after : ℕ → Option (ℕ × ℕ)) (same : u.leaves ≡ t.leaves) (low : page < page_limit z)
    (had : (q : ℕ) → q < page_limit z → get t.leaves (leaf_node q) ≡ kernel_leaf (before q)) (here : Some leaf ≡ kernel_leaf (after page))
    (others : (q : ℕ) → (q ≡ page → ⊥) → after q ≡ before q) where
  leaf_more : (q : ℕ) → q < page_limit z → get (with_leaf u (leaf_node page) leaf).leaves (leaf_node q) ≡ kernel_leaf (after q)
  leaf_more q small = elim (cases_eq q page) [
    | inl e ↦ insert_same u.leaves (leaf_node page) leaf (leaf_node q) (ap leaf_node e) ∙ here ∙ ap (λ n. kernel_leaf (after n)) (sym e)
    | inr ne ↦
        let far : leaf_node q ≡ leaf_node page → ⊥ = λ e.
        ne (omega (arith, e, small, low)) in
        insert_other u.leaves (leaf_node page) leaf (leaf_node q) far ∙ ap (λ leaves. get leaves (leaf_node q)) same ∙ had q small
        ∙ ap kernel_leaf (sym (others q ne))
  ]

-- ---- the root, and the trampoline

pub root_missing : (z : Scheme) (root page : ℕ) → page ≡ trampoline_page z → missing z (bare_root z root) page ≡ top_level z
root_missing z root page page_is = ap (missing z (bare_root z root)) page_is ∙ trampoline_missing z root

module _ (z : Scheme) (root page leaf : ℕ) (v m w : View) (made : m ≡ with_hold root blank_hold (claimed root v)) (fresh : references v root ≡ 0)
    (once : references v 0 ≡ 1) (none : (f : ℕ) → (f ≡ 0 → ⊥) → references v f ≡ 0)
    (page_is : page ≡ trampoline_page z) (leaf_is : leaf ≡ leaf_word 0 code_rights false false true) (mapped : Mapped z m w root (bare_root z root) page leaf) where
  grown : IsGrown z (bare_root z root) mapped.0 (trampoline_page z) (top_level z)
  grown = subst (λ p. IsGrown z (bare_root z root) mapped.0 p (top_level z)) page_is mapped.1

  pub root_maps : MapsKernel z w root 0 [] (with_leaf mapped.0 (leaf_node page) leaf)
  root_maps = record {
    tables = mapped.2;
    leaves = leaf_more z (bare_root z root) mapped.0 page leaf (λ q. None) (kernel_page z 0 []) mapped.1.leaves (let facts = of_scheme z in omega (arith, page_is, facts))
        (λ q small. get-empty {X = ℕ} nat_cmp (leaf_node q)) (ap Some leaf_is ∙ ap kernel_leaf (sym (on_trampoline z 0 [] page page_is)))
        (λ q apart. nothing_else z q (λ e. apart (e ∙ sym page_is)));
    numbers = trampoline_numbers z root mapped.0 grown;
    holds = more_tables m w [] (bare_root z root) mapped.0 _ (holds_root z root v m made fresh once none) mapped.3 mapped.1.kept;
  }

  pub root_spends : SpendsCredits v w (1 + top_level z)
  root_spends = spends_on v m w 1 (top_level z) (spends_root z root v m made fresh once none) (subst (SpendsCredits m w) (root_missing z root page page_is) (spends_tables m w _ _ _ mapped.3))

-- ---- a stack

pub stack_page_is : (z : Scheme) (page address slot n : ℕ) → page ≡ address / 4096 → address + (slot + 1) * 2 * 4096 ≡ 4096 * trampoline_page z → n ≡ slot → page ≡ stack_page z n
stack_page_is z page address slot n page_is address_is same = omega (arith, page_is, address_is, same)

module _ (z : Scheme) (root f page : ℕ) (v c : View) (stacks : List ℕ) (t : Tables) (maps : MapsKernel z v root 0 stacks t) (few : length stacks < 64)
    (is : c ≡ claimed f v) (fresh : references v f ≡ 0) (page_is : page ≡ stack_page z (length stacks)) where
  pub stack_tables : HasTables z c root t
  stack_tables = tables_stay f v c is fresh root t maps.tables

  pub stack_held : IsHeld c 0
  stack_held = let once = once_still f v c is fresh 0 maps.holds.code in omega (arith, once)

  pub stack_none_missing : missing z t page ≡ 0
  stack_none_missing = ap (missing z t) page_is ∙ stack_missing z t maps.numbers (length stacks) few

  module _ (w : View) (leaf : ℕ) (small : f < 2 ^ 16) (leaf_is : leaf ≡ leaf_word f (frame_rights f) false false true) (mapped : Mapped z c w root t page leaf) where
    data_leaf : leaf ≡ leaf_word f data_rights false false true
    data_leaf = leaf_is ∙ rw (ne_eqb f 0 (λ e. not_claimed f v c is fresh 0 maps.holds.code (sym e))) refl

    pub stack_maps : MapsKernel z w root 0 (stacks ++ f ∷ []) (with_leaf mapped.0 (leaf_node page) leaf)
    stack_maps = record {
      tables = mapped.2;
      leaves = leaf_more z t mapped.0 page leaf (kernel_page z 0 stacks) (kernel_page z 0 (stacks ++ f ∷ [])) mapped.1.leaves (let facts = of_scheme z in omega (arith, page_is, facts)) maps.leaves
          (ap Some data_leaf ∙ ap kernel_leaf (sym (on_slot z 0 (stacks ++ f ∷ []) page (omega arith) (length stacks) f few page_is (get_last stacks f (length stacks) refl))))
          (λ q apart. stack_other z 0 stacks q f (λ e. apart (e ∙ sym page_is)));
      numbers = stack_numbers z t maps.numbers mapped.0 (length stacks) few (subst (λ p. IsGrown z t mapped.0 p (top_level z)) page_is mapped.1);
      holds = more_tables c w (stacks ++ f ∷ []) t mapped.0 _ (more_stacks f v c is fresh stacks t.tables small maps.holds) mapped.3 mapped.1.kept;
    }

    pub stack_spends : SpendsCredits v w 1
    stack_spends = spends_on v c w 1 0 (spends_claim f v c is) (subst (SpendsCredits c w) stack_none_missing (spends_tables c w _ _ _ mapped.3))

-- ---- a frame of the memory

pub frame_page_is : (page address i : ℕ) → page ≡ address / 4096 → address ≡ 4096 * (first_direct + i) → page ≡ first_direct + i
frame_page_is page address i page_is address_is = omega (arith, page_is, address_is)

module _ (z : Scheme) (root i page : ℕ) (v : View) (stacks : List ℕ) (t : Tables) (maps : MapsKernel z v root i stacks t) (low : i < 1024)
    (page_is : page ≡ first_direct + i) where
  pub frame_is_missing : missing z t page + direct_tables z i ≡ direct_tables z (i + 1)
  frame_is_missing = ap (λ p. missing z t p + direct_tables z i) page_is ∙ frame_missing z t i maps.numbers low

  module _ (w : View) (leaf : ℕ) (leaf_is : leaf ≡ leaf_word i (frame_rights i) false false true) (mapped : Mapped z v w root t page leaf) where
    pub frame_maps : MapsKernel z w root (i + 1) stacks (with_leaf mapped.0 (leaf_node page) leaf)
    frame_maps = record {
      tables = mapped.2;
      leaves = leaf_more z t mapped.0 page leaf (kernel_page z i stacks) (kernel_page z (i + 1) stacks) mapped.1.leaves (let facts = of_scheme z in omega (arith, page_is, low, facts)) maps.leaves
          (ap Some leaf_is ∙ ap kernel_leaf (sym (on_frame z (i + 1) stacks page (omega (arith, low)) i (omega arith) page_is)))
          (λ q apart. frame_other z i stacks q (λ e. apart (e ∙ sym page_is)));
      numbers = frame_numbers z t i maps.numbers low mapped.0 (subst (λ p. IsGrown z t mapped.0 p (top_level z)) page_is mapped.1);
      holds = more_tables v w stacks t mapped.0 _ maps.holds mapped.3 mapped.1.kept;
    }

    pub frame_spends : (u : View) → SpendsCredits u v (direct_tables z i) → SpendsCredits u w (direct_tables z (i + 1))
    frame_spends u spent =
        let sum : direct_tables z i + missing z t page ≡ direct_tables z (i + 1) = omega (arith, frame_is_missing) in
        subst (SpendsCredits u w) sum (spends_on u v w (direct_tables z i) (missing z t page) spent (spends_tables v w _ _ _ mapped.3))
