-- Lemmas about one walk over any memory: a page has at most one leaf, at one level; a walk that ends at an invalid word, a
-- misaligned leaf or a pointer at level 0 finds none (`HasNoLeaf`); and whether a word with G was met so far (`HasMark`).
use Rattle.std.proofs.Common.{◌≡◌, ◌↔◌, ◌||◌, IsTrue, Bool, true, false, ℕ, zero, suc, ◌-◌, ◌*◌, ◌%◌, ◌^◌, ◌<◌, refl, ap, sym, ◌∙◌, inl, inr, arith, Option, Some, None}
use Rattle.std.proofs.lemmas.Bool.{cases_Bool, cases_eq, cases_order, false≢true}
use Rattle.std.proofs.lemmas.Option.{same_Some}
use Rattle.sv39_entry.specs.Address.{has, vpn}
use Rattle.sv39_entry.specs.Schemes.{top_level}
use Rattle.sv39_entry.specs.Word.{kind_of, ppn}
use Rattle.sv39_entry.specs.declared.scheme.Scheme.{Scheme}
use Rattle.sv39_entry.specs.declared.entry.Kind.TheVariants.{Invalid, Leaf, Pointer}
use Rattle.table_walk.specs.Memory.{Memory}
use Rattle.table_walk.specs.Walk.{IsAt, IsGlobal, LeavesMemory, Maps, Reads}

-- a walk goes no further than this word
EndsWalk : Option ℕ → Type 0
EndsWalk word = (pointer : ℕ) → word ≡ Some pointer → kind_of pointer ≡ Pointer → ⊥

-- nothing is found for a page, and no word on the way lies outside the memory
abbrev pub HasNoLeaf : Scheme → Memory → ℕ → ℕ → Type 0
HasNoLeaf s m root page = ((leaf level : ℕ) → Maps s m root page leaf level → ⊥) × (LeavesMemory s m root page → ⊥)

-- one of the first so many words on the way has G
abbrev pub HasMark : Scheme → Memory → ℕ → ℕ → ℕ → Type 0
HasMark s m root page n = (k table word : ℕ) × (k < n) × IsAt s m root page k table × (m table (vpn page ((top_level s) - k)) ≡ Some word) × (has word 5 ≡ true)

or_left : (a b : Bool) → IsTrue a → IsTrue (a || b)
or_left true b set = refl
or_left false b set = absurd (false≢true set)

or_right : (a b : Bool) → IsTrue b → IsTrue (a || b)
or_right true b set = refl
or_right false b set = set

module _ (s : Scheme) (m : Memory) (root page : ℕ) where
  -- so many pointers lead to one table
  same_table : (k a b : ℕ) → IsAt s m root page k a → IsAt s m root page k b → a ≡ b
  same_table zero a b x y = x ∙ sym y
  same_table (suc k) a b x y =
      let tables = same_table k x.0 y.0 x.2 y.2 in
      let words : x.1 ≡ y.1 = same_Some _ _ (sym x.3 ∙ ap (λ (t : ℕ). m t (vpn page ((top_level s) - k))) tables ∙ y.3) in
      x.5 ∙ ap ppn words ∙ sym y.5

  -- a way goes on from each table on it by a pointer
  goes_on : (k j a b : ℕ) → IsAt s m root page k a → IsAt s m root page j b → j < k → (pointer : ℕ) × (m b (vpn page ((top_level s) - j)) ≡ Some pointer) × (kind_of pointer ≡ Pointer)
  goes_on zero j a b far near less = absurd (omega arith)
  goes_on (suc k) j a b far near less = elim (cases_eq j k) [
    | inl same ↦ let tables = same_table k far.0 b far.2 (rw same at near) in (far.1, rw (same, ← tables) far.3, far.4)
    | inr ne ↦ goes_on k j far.0 b far.2 near (omega arith)
  ]

  -- no way leads past the end of a walk
  no_further : (k table level : ℕ) (word : Option ℕ) → IsAt s m root page k table → Reads s m root page level word → EndsWalk word → (top_level s) - level < k → ⊥
  unfolding EndsWalk
  no_further k table level word far reads last less =
      let low = reads.low in
      let back : (top_level s) - ((top_level s) - level) ≡ level = omega arith in
      let on = goes_on k ((top_level s) - level) table reads.table far reads.way less in
      let here = rw back at on.1 in
      last on.0 (sym reads.read ∙ here) on.2

  -- a walk ends once
  one_end : (i j : ℕ) (v w : Option ℕ) → Reads s m root page i v → EndsWalk v → Reads s m root page j w → EndsWalk w → (i ≡ j) × (v ≡ w)
  one_end i j v w x x_last y y_last = elim (cases_order i j) [
    | inl same ↦
        let tables = same_table ((top_level s) - j) x.table y.table (rw same at x.way) y.way in
        (same, sym x.read ∙ (rw (same, tables) y.read))
    | inr (inl less) ↦ let low = y.low in absurd (no_further ((top_level s) - i) x.table j w x.way y y_last (omega arith))
    | inr (inr more) ↦ let low = x.low in absurd (no_further ((top_level s) - j) y.table i v y.way x x_last (omega arith))
  ]

  leaf_ends : (leaf : ℕ) → kind_of leaf ≡ Leaf → EndsWalk (Some leaf)
  unfolding EndsWalk
  leaf_ends leaf kind = λ pointer same other. cc

  invalid_ends : (word : ℕ) → kind_of word ≡ Invalid → EndsWalk (Some word)
  unfolding EndsWalk
  invalid_ends word kind = λ pointer same other. cc

  outside_ends : EndsWalk None
  unfolding EndsWalk
  outside_ends = λ pointer same other. cc

  -- a page has one leaf, at one level
  pub one_leaf : (v i w j : ℕ) → Maps s m root page v i → Maps s m root page w j → (v ≡ w) × (i ≡ j)
  one_leaf v i w j x y =
      let same = one_end i j (Some v) (Some w) x.reads (leaf_ends v x.kind) y.reads (leaf_ends w y.kind) in
      (same_Some v w same.1, same.0)

  -- and then no word on the way lies outside the memory
  pub leaf_inside : (leaf level : ℕ) → Maps s m root page leaf level → LeavesMemory s m root page → ⊥
  leaf_inside leaf level maps out =
      let same = (one_end level out.0 (Some leaf) None maps.reads (leaf_ends leaf maps.kind) out.1 outside_ends).1 in
      cc

  -- a pointer leads one level down
  pub down : (level pointer : ℕ) → Reads s m root page level (Some pointer) → kind_of pointer ≡ Pointer → IsAt s m root page (suc (top_level s) - level) (ppn pointer)
  down level pointer reads kind =
      let low = reads.low in
      let more : suc (top_level s) - level ≡ suc ((top_level s) - level) = omega arith in
      let back : (top_level s) - ((top_level s) - level) ≡ level = omega arith in
      rw more (reads.table, pointer, reads.way, rw back reads.read, kind, refl)

  -- where a walk ends at a word that is not the leaf of its level, there is none
  ended : (level word : ℕ) → Reads s m root page level (Some word) → EndsWalk (Some word) → (kind_of word ≡ Leaf → ppn word % 2 ^ (9 * level) ≡ 0 → ⊥) → HasNoLeaf s m root page
  ended level word reads last no_leaf = (
    (λ leaf other maps.
        let same = one_end level other (Some word) (Some leaf) reads last maps.reads (leaf_ends leaf maps.kind) in
        let words = same_Some word leaf same.1 in
        no_leaf (rw words maps.kind) (rw (words, same.0) maps.aligned)),
    (λ out. let same = (one_end level out.0 (Some word) None reads last out.1 outside_ends).1 in cc),
  )

  pub invalid : (level word : ℕ) → Reads s m root page level (Some word) → kind_of word ≡ Invalid → HasNoLeaf s m root page
  invalid level word reads kind = ended level word reads (invalid_ends word kind) (λ leaf aligned. cc)

  pub misaligned : (level word : ℕ) → Reads s m root page level (Some word) → kind_of word ≡ Leaf → (ppn word % 2 ^ (9 * level) ≡ 0 → ⊥) → HasNoLeaf s m root page
  misaligned level word reads kind odd = ended level word reads (leaf_ends word kind) (λ leaf aligned. odd aligned)

  -- the pointers of the last tables lead to no leaf
  pub too_far : (table : ℕ) → IsAt s m root page (suc (top_level s)) table → HasNoLeaf s m root page
  too_far table way = (
    (λ leaf level maps. no_further (suc (top_level s)) table level (Some leaf) way maps.reads (leaf_ends leaf maps.kind) (omega arith)),
    (λ out. no_further (suc (top_level s)) table out.0 None way out.1 outside_ends (omega arith)),
  )

  -- the next word on the way, and the mark of all so far
  pub marked_on : (level word : ℕ) (b : Bool) (table : ℕ) → IsAt s m root page ((top_level s) - level) table → Reads s m root page level (Some word)
      → (IsTrue b ↔ HasMark s m root page ((top_level s) - level)) → (IsTrue (b || has word 5) ↔ HasMark s m root page (suc ((top_level s) - level)))
  marked_on level word b table way reads marked =
      let low = reads.low in
      let back : (top_level s) - ((top_level s) - level) ≡ level = omega arith in (
        (λ set. elim (cases_Bool b) [
          | inl had ↦ let h = marked.0 had in (h.0, h.1, h.2, omega (arith, h.3), h.4, h.5, h.6)
          | inr new ↦ ((top_level s) - level, reads.table, word, omega arith, reads.way, rw back reads.read, rw new at set)
        ]),
        (λ h. elim (cases_eq h.0 ((top_level s) - level)) [
          | inl same ↦
              let tables = same_table ((top_level s) - level) h.1 reads.table (rw same at h.4) reads.way in
              let words : h.2 ≡ word = same_Some _ _ (sym (rw (same, back, tables) at h.5) ∙ reads.read) in
              or_right b (has word 5) (rw words at h.6)
          | inr ne ↦ or_left b (has word 5) (marked.1 (h.0, h.1, h.2, omega (arith, ne, h.3), h.4, h.5, h.6))
        ]),
      )

  pub by_marks : (level : ℕ) {B : Type 0} → (B ↔ HasMark s m root page (suc ((top_level s) - level))) → (B ↔ IsGlobal s m root page level)
  by_marks level marked = (
    (λ set. let h = marked.0 set in (h.0, h.1, h.2, omega (arith, h.3), h.4, h.5, h.6)),
    (λ h. marked.1 (h.0, h.1, h.2, omega (arith, h.3), h.4, h.5, h.6)),
  )
