-- Lemmas, over any memory: a walk finds exactly one thing for an address (a `Found`), and an access is translated to exactly
-- one outcome (a `Walk`).
use Rattle.std.proofs.Common.{◌≡◌, ◌↔◌, ◌||◌, IsTrue, Bool, false, ℕ, zero, suc, ◌-◌, ◌*◌, ◌%◌, ◌^◌, ◌≤◌, true, cond, refl, ap, sym, ◌∙◌, inl, inr, arith, Option, Some, None}
use Rattle.std.proofs.lemmas.Bool.{cases_Bool, cases_eq, false≢true}
use Rattle.sv39_entry.specs.Address.{has, page_of, vpn}
use Rattle.sv39_entry.specs.Causes.{access_fault_cause, page_fault_cause}
use Rattle.sv39_entry.specs.Schemes.{is_canonical, top_level}
use Rattle.sv39_entry.specs.Word.{kind_of, permits, ppn}
use Rattle.sv39_entry.specs.declared.scheme.Scheme.{Scheme}
use Rattle.sv39_entry.specs.declared.access.Access.{Access}
use Rattle.sv39_entry.specs.declared.access.Mode.{Mode}
use Rattle.sv39_entry.specs.declared.entry.Kind.{Kind}
use Rattle.sv39_entry.specs.declared.entry.Kind.TheVariants.{Invalid, Leaf, Pointer}
use Rattle.table_walk.specs.Memory.{Extent, Memory, has_byte, physical_address}
use Rattle.table_walk.specs.Walk.{Finds, FindsLeaf, IsAt, Reads, Translates}
use Rattle.table_walk.specs.declared.walk.Found.{Found}
use Rattle.table_walk.specs.declared.walk.Found.TheVariants as found
use Rattle.table_walk.specs.declared.walk.Walk.{Walk}
use Rattle.table_walk.specs.declared.walk.Walk.TheVariants as walk
use Rattle.table_walk.proofs.Ways.{HasMark, by_marks, down, invalid, leaf_inside, marked_on, misaligned, one_leaf, too_far}

same_Bool : (a b : Bool) → (IsTrue a → IsTrue b) → (IsTrue b → IsTrue a) → a ≡ b
same_Bool true b on back = sym (on refl)
same_Bool false true on back = back refl
same_Bool false false on back = refl

module _ (s : Scheme) (m : Memory) (root address : ℕ) where
  -- a walk that finds no leaf finds nothing else
  none_found : (x : Found) → Finds s m root address found.NoLeaf → Finds s m root address x → x ≡ found.NoLeaf
  none_found found.NoLeaf none x = refl
  none_found (found.Leaf leaf level global) (inl bad) x = absurd (false≢true (sym bad ∙ x.0.0))
  none_found (found.Leaf leaf level global) (inr none) x = absurd (none.0 leaf level x.0.1)
  none_found found.Outside (inl bad) x = absurd (false≢true (sym bad ∙ x.0))
  none_found found.Outside (inr none) x = absurd (none.1 x.1)

  pub one_finding : (x y : Found) → Finds s m root address x → Finds s m root address y → x ≡ y
  one_finding found.NoLeaf y p q = sym (none_found y p q)
  one_finding found.Outside found.NoLeaf p q = none_found found.Outside q p
  one_finding found.Outside found.Outside p q = refl
  one_finding found.Outside (found.Leaf leaf level global) p q = absurd (leaf_inside s m root (page_of address) leaf level q.0.1 p.1)
  one_finding (found.Leaf leaf level global) found.NoLeaf p q = none_found (found.Leaf leaf level global) q p
  one_finding (found.Leaf leaf level global) found.Outside p q = absurd (leaf_inside s m root (page_of address) leaf level p.0.1 q.1)
  one_finding (found.Leaf leaf level global) (found.Leaf other high wide) p q =
      let same = one_leaf s m root (page_of address) leaf level other high p.0.1 q.0.1 in
      let marks : global ≡ wide = same_Bool global wide (λ set. q.1.1 (rw same.1 at (p.1.0 set))) (λ set. p.1.1 (rw (← same.1) at (q.1.0 set))) in
      cc

  Answer : Type 0
  Answer = (x : Found) × Finds s m root address x

  -- whether G was met on so many words of the way
  Met : Bool → ℕ → Type 0
  Met b n = IsTrue b ↔ HasMark s m root (page_of address) n

  module _ (canonical : is_canonical s address ≡ true) where
    -- the walk from a word of a level on, by its kind, if the walk from the table below answers
    by_kind : (level word : ℕ) (kind : Kind) (b : Bool) → Reads s m root (page_of address) level (Some word) → kind_of word ≡ kind → Met b (suc ((top_level s) - level))
        → ((table : ℕ) → IsAt s m root (page_of address) (suc (top_level s) - level) table → Met b (suc (top_level s) - level) → Answer) → Answer
    unfolding Answer Met
    by_kind level word Invalid b reads is met below = (found.NoLeaf, inr (invalid s m root (page_of address) level word reads is))
    by_kind level word Pointer b reads is met below =
        let low = reads.low in
        let more : suc (top_level s) - level ≡ suc ((top_level s) - level) = omega arith in
        below (ppn word) (down s m root (page_of address) level word reads is) (rw more met)
    by_kind level word Leaf b reads is met below = elim (cases_eq (ppn word % 2 ^ (9 * level)) 0) [
      | inl aligned ↦ (found.Leaf word level b, ((canonical, record { reads = reads; kind = is; aligned = aligned }), by_marks s m root (page_of address) level met))
      | inr odd ↦ (found.NoLeaf, inr (misaligned s m root (page_of address) level word reads is odd))
    ]

    by_word : (level : ℕ) (word : Option ℕ) (b : Bool) → Reads s m root (page_of address) level word → Met b ((top_level s) - level)
        → ((table : ℕ) (b : Bool) → IsAt s m root (page_of address) (suc (top_level s) - level) table → Met b (suc (top_level s) - level) → Answer) → Answer
    unfolding Answer Met
    by_word level None b reads met below = (found.Outside, (canonical, (level, reads)))
    by_word level (Some word) b reads met below =
        by_kind level word (kind_of word) (b || has word 5) reads refl (marked_on s m root (page_of address) level word b reads.table reads.way reads met) (λ table way further. below table (b || has word 5) way further)

    -- the walk from a table on, with so many levels left
    from_table : (levels table : ℕ) (b : Bool) → levels ≤ suc (top_level s) → IsAt s m root (page_of address) (suc (top_level s) - levels) table → Met b (suc (top_level s) - levels) → Answer
    unfolding Answer Met
    from_table zero table b low way met =
        let all : suc (top_level s) - 0 ≡ suc (top_level s) = omega arith in
        (found.NoLeaf, inr (too_far s m root (page_of address) table (rw all at way)))
    from_table (suc level) table b low way met =
        let more : suc (top_level s) - suc level ≡ (top_level s) - level = omega arith in
        by_word level (m table (vpn (page_of address) level)) b (record { low = omega arith; table = table; way = rw (← more) way; read = refl }) (rw (← more) met) (λ next c further on. from_table level next c (omega arith) further on)

  none_met : Met false (suc (top_level s) - suc (top_level s))
  unfolding Met
  none_met = ((λ set. absurd (false≢true set)), (λ h. absurd (omega (arith, h.3))))

  pub some_finding : (x : Found) × Finds s m root address x
  unfolding Answer
  some_finding = elim (cases_Bool (is_canonical s address)) [
    | inl canonical ↦ let none : suc (top_level s) - suc (top_level s) ≡ 0 = omega arith in from_table canonical (suc (top_level s)) root false (omega arith) (rw none refl) none_met
    | inr bad ↦ (found.NoLeaf, inl bad)
  ]

  module _ (there : Extent) (access : Access) (mode : Mode) where
    -- what an access is translated to, by what the walk finds
    outcome : Found → Walk
    outcome found.NoLeaf = walk.PageFault (page_fault_cause access)
    outcome found.Outside = walk.AccessFault (access_fault_cause access)
    outcome (found.Leaf leaf level global) =
        cond (permits mode access leaf) (cond (has_byte there (physical_address leaf level address)) (walk.Leaf leaf level (physical_address leaf level address)) (walk.AccessFault (access_fault_cause access))) (walk.PageFault (page_fault_cause access))

    by_finding : (x : Found) → Finds s m root address x → Translates s m there root address access mode (outcome x)
    unfolding outcome
    by_finding found.NoLeaf p = (refl, inl p)
    by_finding found.Outside p = (refl, inl p)
    by_finding (found.Leaf leaf level global) p = elim (cases_Bool (permits mode access leaf)) [
      | inr denied ↦ rw denied (refl, inr (leaf, level, p.0, denied))
      | inl permitted ↦ elim (cases_Bool (has_byte there (physical_address leaf level address))) [
        | inl byte ↦ rw (permitted, byte) (p.0, permitted, refl, byte)
        | inr gone ↦ rw (permitted, gone) (refl, inr (leaf, level, p.0, permitted, gone))
      ]
    ]

    -- a leaf that is found, with its mark
    whole : (leaf level : ℕ) → FindsLeaf s m root address leaf level → (global : Bool) × Finds s m root address (found.Leaf leaf level global)
    whole leaf level is = of_finding some_finding.0 some_finding.1 where
      of_finding : (x : Found) → Finds s m root address x → (global : Bool) × Finds s m root address (found.Leaf leaf level global)
      of_finding found.NoLeaf (inl bad) = absurd (false≢true (sym bad ∙ is.0))
      of_finding found.NoLeaf (inr none) = absurd (none.0 leaf level is.1)
      of_finding found.Outside out = absurd (leaf_inside s m root (page_of address) leaf level is.1 out.1)
      of_finding (found.Leaf other high global) p = let same = one_leaf s m root (page_of address) leaf level other high is.1 p.0.1 in (global, (is, rw same.1 p.1))

    is_outcome : (w : Walk) → Translates s m there root address access mode w → (x : Found) × Finds s m root address x × (w ≡ outcome x)
    unfolding outcome
    is_outcome (walk.Leaf leaf level physical) t = let byte = rw t.2 at t.3 in let x = whole leaf level t.0 in (found.Leaf leaf level x.0, x.1, rw (t.1, byte, t.2) refl)
    is_outcome (walk.PageFault cause) (same, inl none) = (found.NoLeaf, none, ap walk.PageFault same)
    is_outcome (walk.PageFault cause) (same, inr denied) = let x = whole denied.0 denied.1 denied.2 in (found.Leaf denied.0 denied.1 x.0, x.1, rw (denied.3, same) refl)
    is_outcome (walk.AccessFault cause) (same, inl out) = (found.Outside, out, ap walk.AccessFault same)
    is_outcome (walk.AccessFault cause) (same, inr gone) = let x = whole gone.0 gone.1 gone.2 in (found.Leaf gone.0 gone.1 x.0, x.1, rw (gone.3, gone.4, same) refl)

    pub one_translation : (v w : Walk) → Translates s m there root address access mode v → Translates s m there root address access mode w → v ≡ w
    one_translation v w p q =
        let x = is_outcome v p in
        let y = is_outcome w q in
        x.2 ∙ ap outcome (one_finding x.0 y.0 x.1 y.1) ∙ sym y.2

    pub some_translation : (w : Walk) × Translates s m there root address access mode w
    some_translation = (outcome some_finding.0, by_finding some_finding.0 some_finding.1)
