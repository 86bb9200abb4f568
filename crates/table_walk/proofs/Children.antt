-- Lemmas about the page tables on the way to a page: a pointer in a table names the frame of the table below, and any other
-- word means that there is none; above a table there is one, below a missing one none; and the level of the deepest one's
-- entries is the number of those missing.
use Rattle.std.proofs.Common.{◌≡◌, ℕ, zero, suc, ◌+◌, ◌-◌, ◌*◌, ◌/◌, ◌%◌, ◌^◌, ◌<◌, ◌≤◌, inl, inr, refl, ap, sym, ◌∙◌, arith, Option, None, Some}
use Rattle.std.specs.Prelude.{option_map}
use Rattle.std.specs.FinMap.{get}
use Rattle.std.proofs.lemmas.Bool.{le-leb, lt-ltb}
use Rattle.frame_store.specs.View.{View, known_word}
use Rattle.sv39_entry.specs.Address.{vpn}
use Rattle.sv39_entry.specs.Frame.{frame_at, ppn_of}
use Rattle.sv39_entry.specs.Schemes.{top_level}
use Rattle.sv39_entry.specs.Word.{kind_of, pointer_word, ppn}
use Rattle.sv39_entry.specs.declared.scheme.Scheme.{Scheme}
use Rattle.sv39_entry.specs.declared.entry.Kind.TheVariants.{Pointer}
use Rattle.sv39_entry.specs.declared.frame.FrameNo.{FrameNo}
use Rattle.table_walk.specs.Tables.{Tables, AreTables, HasTables, first_leaf, missing_to, node, pointer_or_zero}
use Rattle.table_walk.proofs.TableWords.{kind-zero, word_high}
use Rattle.table_walk.specs.Nodes.{above, not_root, table_number}

-- ---- words of pointers

pub pointer_kind : (f : ℕ) → f < 2 ^ 16 → kind_of (pointer_word f) ≡ Pointer
unfolding kind_of
pointer_kind f small =
    let upper : pointer_word f / 2 ^ 54 ≡ 0 = omega arith in
    let bit0 : pointer_word f / 2 ^ 0 % 2 ≡ 1 = omega arith in
    let bit1 : pointer_word f / 2 ^ 1 % 2 ≡ 0 = omega arith in
    let bit2 : pointer_word f / 2 ^ 2 % 2 ≡ 0 = omega arith in
    let bit3 : pointer_word f / 2 ^ 3 % 2 ≡ 0 = omega arith in
    let bit4 : pointer_word f / 2 ^ 4 % 2 ≡ 0 = omega arith in
    let bit6 : pointer_word f / 2 ^ 6 % 2 ≡ 0 = omega arith in
    let bit7 : pointer_word f / 2 ^ 7 % 2 ≡ 0 = omega arith in
    simp (upper, bit0, bit1, bit2, bit3, bit4, bit6, bit7)

pub pointer_ppn : (f : ℕ) → f < 2 ^ 16 → ppn (pointer_word f) ≡ ppn_of f
pointer_ppn f small = omega arith

frame_number : (f : ℕ) → ppn_of f - 0x80000 ≡ f
frame_number f = omega arith

pub frame_named : (f : ℕ) → f < 2 ^ 16 → option_map (λ (x : FrameNo). x.0) (frame_at (ppn_of f)) ≡ Some f
frame_named f small = rw (le-leb 0x80000 (ppn_of f) (omega arith), lt-ltb (ppn_of f) (0x80000 + 2 ^ 16) (omega arith), frame_number f) refl

-- ---- what the entry of a child says

child_in : (o : Option ℕ) → ((g : ℕ) → o ≡ Some g → g < 2 ^ 16) → (w : ℕ) → w ≡ pointer_or_zero o → kind_of w ≡ Pointer
    → option_map (λ (x : FrameNo). x.0) (frame_at (ppn w)) ≡ o
child_in None small w is kind = absurd (let zeros = rw is at kind in let none = kind-zero in cc)
child_in (Some g) small w is kind = rw (is, pointer_ppn g (small g refl)) (frame_named g (small g refl))

none_in : (o : Option ℕ) → ((g : ℕ) → o ≡ Some g → g < 2 ^ 16) → (w : ℕ) → w ≡ pointer_or_zero o
    → (kind_of w ≡ Pointer → ⊥) → None ≡ o
none_in None small w is kind = refl
none_in (Some g) small w is kind = absurd (kind (rw is (pointer_kind g (small g refl))))

module _ {s : Scheme} (v : View) (root : ℕ) (t : Tables) (h : HasTables s v root t) where
  module _ (k f i : ℕ) (at : get t.tables k ≡ Some f) (low : i < 512) (high : k * 512 + i < first_leaf) where
    entry_known : known_word v f i ≡ Some (pointer_or_zero (get t.tables (k * 512 + i)))
    entry_known = h.known.words k f i at low ∙ ap Some (word_high t (k * 512 + i) high)

    small_frame : (g : ℕ) → get t.tables (k * 512 + i) ≡ Some g → g < 2 ^ 16
    small_frame g is = (h.known.below _ g is).2

    module _ (w : ℕ) (read : (x : ℕ) → known_word v f i ≡ Some x → w ≡ x) where
      pub child_named : kind_of w ≡ Pointer → option_map (λ (x : FrameNo). x.0) (frame_at (ppn w)) ≡ get t.tables (k * 512 + i)
      child_named kind = child_in _ small_frame w (read _ entry_known) kind

      pub child_none : (kind_of w ≡ Pointer → ⊥) → None ≡ get t.tables (k * 512 + i)
      child_none kind = none_in _ small_frame w (read _ entry_known) kind

-- ---- tables on the way to a page

module _ {s : Scheme} (m : ℕ → ℕ → Option ℕ) (root : ℕ) (t : Tables) (h : AreTables s m root t) (page : ℕ) where
  -- above a table there is one
  pub parent_there : (k f : ℕ) → get t.tables (node s page (suc k)) ≡ Some f → (g : ℕ) × (get t.tables (node s page k) ≡ Some g)
  parent_there k f is = elim (h.hung _ f is) [
    | inl root_is ↦ absurd (not_root s page k root_is)
    | inr p ↦ (p.0, rw (above s page k) at p.1)
  ]

  missing_from : (o : Option ℕ) (k : ℕ) → get t.tables (node s page k) ≡ None → get t.tables (node s page (suc k)) ≡ o → o ≡ None
  missing_from None k none is = refl
  missing_from (Some f) k none is = absurd (let p = parent_there k f is in let there = p.1 in cc)

  -- below a missing table each is missing
  pub missing_below : (d k : ℕ) → get t.tables (node s page k) ≡ None → get t.tables (node s page (k + d)) ≡ None
  missing_below zero k none = let same : k + 0 ≡ k = omega arith in rw same none
  missing_below (suc d) k none =
      let more : k + suc d ≡ suc (k + d) = omega arith in
      rw more (missing_from _ (k + d) (missing_below d k none) refl)

  pub missing_at : (k d : ℕ) → k ≤ d → get t.tables (node s page k) ≡ None → get t.tables (node s page d) ≡ None
  missing_at k d low none =
      let whole : k + (d - k) ≡ d = omega arith in
      rw whole at (missing_below (d - k) k none)

  one_more : (k : ℕ) → get t.tables (node s page (suc k)) ≡ None → missing_to s t page (suc k) ≡ missing_to s t page k + 1
  one_more k none = rw none refl

  -- down to a table none is missing
  pub none_missing : (k f : ℕ) → get t.tables (node s page k) ≡ Some f → missing_to s t page k ≡ 0
  none_missing zero f is = refl
  none_missing (suc k) f is = let p = parent_there k f is in rw is (omega (arith, none_missing k p.0 p.1))

  missing_so_far : (k f d : ℕ) → get t.tables (node s page k) ≡ Some f → get t.tables (node s page (suc k)) ≡ None → missing_to s t page (k + d) ≡ d
  missing_so_far k f zero is none = let same : k + 0 ≡ k = omega arith in rw same (none_missing k f is)
  missing_so_far k f (suc d) is none =
      let more : k + suc d ≡ suc (k + d) = omega arith in
      let here : suc k + d ≡ suc (k + d) = omega arith in
      let below = rw here at (missing_below d (suc k) none) in
      let so_far = missing_so_far k f d is none in
      rw more (omega (arith, one_more (k + d) below, so_far))

  -- where the first missing table is one deeper than the last that is there
  pub count_missing : (k f : ℕ) → k ≤ (top_level s) → get t.tables (node s page k) ≡ Some f → get t.tables (node s page (suc k)) ≡ None
      → missing_to s t page (top_level s) ≡ (top_level s) - k
  count_missing k f low is none =
      let whole : k + ((top_level s) - k) ≡ (top_level s) = omega arith in
      rw whole at (missing_so_far k f ((top_level s) - k) is none)

  -- the same by the level of that last one's entries
  pub deepest_missing : (level f : ℕ) → level ≤ (top_level s) → get t.tables (node s page ((top_level s) - level)) ≡ Some f
      → (0 < level → get t.tables (node s page (suc ((top_level s) - level))) ≡ None) → level ≡ missing_to s t page (top_level s)
  deepest_missing zero f low is none = let all : top_level s - 0 ≡ top_level s = omega arith in sym (none_missing (top_level s) f (rw all at is))
  deepest_missing (suc n) f low is none =
      let missing = count_missing ((top_level s) - suc n) f (omega arith) is (none (omega arith)) in
      omega (arith, missing, low)

-- ---- the table of the next level

module _ (s : Scheme) (level : ℕ) (one : 1 ≤ level) (low : level ≤ (top_level s)) where
  pub next_depth : (top_level s) - (level - 1) ≡ suc ((top_level s) - level)
  next_depth = omega arith

  pub back : (top_level s) - ((top_level s) - level) ≡ level
  back = omega arith

  pub next_node : (page : ℕ) → node s page ((top_level s) - level) * 512 + vpn page level ≡ node s page ((top_level s) - (level - 1))
  next_node page = rw (next_depth, back) refl

  pub next_is_table : (page : ℕ) → node s page ((top_level s) - level) * 512 + vpn page level < first_leaf
  next_is_table page = rw (next_node page) (table_number s page ((top_level s) - (level - 1)) (omega arith))
