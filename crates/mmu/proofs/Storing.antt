-- A store, and an event that is none, keep the changes true of the events (`AreStores`).
use Rattle.std.proofs.Common.{◌≡◌, inl, inr, ℕ, suc, ◌+◌, ◌-◌, ◌*◌, ◌^◌, ◌<◌, ◌≤◌, Bool, true, false, ◌&&◌, nat_eq, Option, None, Some, List, [], ◌∷◌, ◌++◌, length, get_or, ltb, refl, ap, sym, ◌∙◌, subst, arith}
use Rattle.std.proofs.Math.Path.{fun_ext}
use Rattle.std.proofs.lemmas.Bool.{and_from, and_parts, cases_Bool, cases_eq, cases_lt, true≢false, eq-eqb, eqb-true, ltb-true, ne_eqb, cond-true, cond-false}
use Rattle.std.proofs.lemmas.List.Sorted.{IsNonDecreasingBy-push}
use Rattle.access_history.specs.History.{Memory, memory_at}
use Rattle.access_history.specs.declared.event.Event.{Event}
use Rattle.access_history.specs.declared.event.Event.TheVariants.{Store}
use Rattle.access_judge.specs.Search.{until}
use Rattle.mmu.specs.Changing.{AreInOrder, changes_at, number_of, pushed, since_by, word_before, word_by}
use Rattle.mmu.specs.Recorded.{AreStores, first_of, is_place, last_store, number_at, word_when}
use Rattle.mmu.specs.Sparse.{is_zeroed, word_of}
use Rattle.mmu.specs.Words.{or_zero, written}
use Rattle.mmu.specs.declared.changes.Change.{Change}
use Rattle.mmu.specs.declared.changes.Changes.{Changes}
use Rattle.mmu.specs.declared.memory.SparseMemory.{SparseMemory}
use Rattle.mmu.proofs.Moments.{until_more, until_now}
use Rattle.mmu.proofs.Searching.{AllUntil, after_none, since_earlier, since_later, until_pushed, word_earlier}
use Rattle.mmu.proofs.Versions.{flipped}

-- an event that is no store
pub no_store : (m : SparseMemory) (c : Changes) (e : Event) (h : List Event) → ((f : Memory) (p i : ℕ) → memory_at f (e ∷ h) p i ≡ memory_at f h p i)
    → ((p i : ℕ) → last_store (e ∷ h) p i ≡ last_store h p i) → AreStores m c h → AreStores m c (e ∷ h)
no_store m c e h same none s = record {
  order = s.order;
  bound = λ n k d less. let low = s.bound n k d less in omega (arith, low);
  words = λ p i k. s.words p i k ∙ elim (cases_lt (length h) k) [
    | inl late ↦ ap (λ (g : List Event). memory_at (first_of m c) g p i) (until_now h k (omega (arith, late))) ∙ sym (same (first_of m c) p i)
        ∙ ap (λ (g : List Event). memory_at (first_of m c) g p i) (sym (until_now (e ∷ h) k (omega (arith, late))))
    | inr le ↦ ap (λ (g : List Event). memory_at (first_of m c) g p i) (sym (until_more e h k le))
  ];
  since = λ p i k at. s.since p i k at ∙ elim (cases_lt (length h) k) [
    | inl late ↦ ap (λ (g : List Event). last_store g p i) (until_now h k (omega (arith, late))) ∙ sym (none p i)
        ∙ ap (λ (g : List Event). last_store g p i) (sym (until_now (e ∷ h) k (omega (arith, late))))
    | inr le ↦ ap (λ (g : List Event). last_store g p i) (sym (until_more e h k le))
  ];
}

-- a memory and changes with the same words
module _ (m m' : SparseMemory) (c c' : Changes) (words : (n : ℕ) → word_of m' n ≡ word_of m n) (zeroed : (n : ℕ) → is_zeroed m' n ≡ is_zeroed m n)
    (changes : (n : ℕ) → changes_at c' n ≡ changes_at c n) where
  alike : (k q j : ℕ) → word_when m' c' k q j ≡ word_when m c k q j
  alike k q j = elim (cases_Bool (is_place q j)) [
    | inr outside ↦ cond-false _ _ _ outside ∙ sym (cond-false _ _ _ outside)
    | inl inside ↦ cond-true _ _ _ inside
        ∙ (ap (λ (cs : List Change). word_by cs (word_of m' (number_at q j)) (is_zeroed m' (number_at q j)) k) (changes (number_at q j))
        ∙ ap (λ (o : Option ℕ). word_by (changes_at c (number_at q j)) o (is_zeroed m' (number_at q j)) k) (words (number_at q j))
        ∙ ap (λ (z : Bool). word_by (changes_at c (number_at q j)) (word_of m (number_at q j)) z k) (zeroed (number_at q j)))
        ∙ sym (cond-true _ _ _ inside)
  ]

  pub alike_first : first_of m' c' ≡ first_of m c
  alike_first = fun_ext (λ q. fun_ext (λ j. alike 0 q j))

  pub alike_stores : (h : List Event) → AreStores m c h → AreStores m' c' h
  alike_stores h s = record {
    order = λ n. subst AreInOrder (sym (changes n)) (s.order n);
    bound = λ n. subst (λ (cs : List Change). AllUntil (length h) cs) (sym (changes n)) (s.bound n);
    words = λ q j k. alike k q j ∙ s.words q j k ∙ ap (λ (f : Memory). memory_at f (until h k) q j) (sym alike_first);
    since = λ q j k inside. ap (λ (cs : List Change). since_by 0 cs k) (changes (number_at q j)) ∙ s.since q j k inside;
  }

pub filled_twice : (z : Bool) (o : Option ℕ) → or_zero z (or_zero z o) ≡ or_zero z o
filled_twice z (Some w) = refl
filled_twice true None = refl
filled_twice false None = refl

-- a store
module _ (m m' : SparseMemory) (c c' : Changes) (h : List Event) (p i w : ℕ) (place : is_place p i ≡ true) (s : AreStores m c h)
    (words : (n : ℕ) → word_of m' n ≡ written (word_of m) (number_at p i) w n) (zeroed : (n : ℕ) → is_zeroed m' n ≡ is_zeroed m n)
    (changes : (n : ℕ) → changes_at c' n ≡ pushed (changes_at c) (number_at p i) (record { number = length h + 1; before = word_of m (number_at p i) }) n) where
  abbrev change : Change
  change = record { number = length h + 1; before = word_of m (number_at p i) }

  abbrev here : ℕ
  here = number_at p i

  word_at_here : word_of m' here ≡ Some w
  word_at_here = words here ∙ cond-true _ _ _ (eq-eqb here here refl)

  changes_here : changes_at c' here ≡ changes_at c here ++ change ∷ []
  changes_here = changes here ∙ cond-true _ _ _ (eq-eqb here here refl)

  word_apart : (n : ℕ) → (here ≡ n → ⊥) → word_of m' n ≡ word_of m n
  word_apart n apart = words n ∙ cond-false _ _ _ (ne_eqb n here (λ e. apart (sym e)))

  changes_apart : (n : ℕ) → (here ≡ n → ⊥) → changes_at c' n ≡ changes_at c n
  changes_apart n apart = changes n ∙ cond-false _ _ _ (ne_eqb here n apart)

  -- the word of another number is as it was, and the changed one as it was before
  by_other : (n k : ℕ) → (here ≡ n → ⊥) → word_by (changes_at c' n) (word_of m' n) (is_zeroed m' n) k ≡ word_by (changes_at c n) (word_of m n) (is_zeroed m n) k
  by_other n k apart =
      ap (λ (cs : List Change). word_by cs (word_of m' n) (is_zeroed m' n) k) (changes_apart n apart)
      ∙ ap (λ (o : Option ℕ). word_by (changes_at c n) o (is_zeroed m' n) k) (word_apart n apart)
      ∙ ap (λ (z : Bool). word_by (changes_at c n) (word_of m n) z k) (zeroed n)

  by_earlier : (k : ℕ) → k ≤ length h → word_by (changes_at c' here) (word_of m' here) (is_zeroed m' here) k ≡ word_by (changes_at c here) (word_of m here) (is_zeroed m here) k
  by_earlier k le =
      ap (λ (cs : List Change). word_by cs (word_of m' here) (is_zeroed m' here) k) changes_here
      ∙ ap (λ (z : Bool). word_by (changes_at c here ++ change ∷ []) (word_of m' here) z k) (zeroed here)
      ∙ word_earlier (changes_at c here) change (word_of m' here) (word_of m here) (is_zeroed m here) k (omega (arith, le)) (filled_twice (is_zeroed m here) _)

  by_later : (k : ℕ) → length h < k → word_by (changes_at c' here) (word_of m' here) (is_zeroed m' here) k ≡ Some w
  by_later k less =
      let all : AllUntil k (changes_at c here ++ change ∷ []) =
      until_pushed (changes_at c here) change k (λ j d l. let low = s.bound here j d l in omega (arith, low, less)) (omega (arith, less)) in
      ap (λ (cs : List Change). word_by cs (word_of m' here) (is_zeroed m' here) k) changes_here
      ∙ ap (λ (o : Option Change). word_before o (word_of m' here) (is_zeroed m' here)) (after_none (changes_at c here ++ change ∷ []) k all) ∙ word_at_here

  -- up to the store each word is as it was
  pub word_until : (k q j : ℕ) → k ≤ length h → word_when m' c' k q j ≡ word_when m c k q j
  word_until k q j le = elim (cases_Bool (is_place q j)) [
    | inr outside ↦ cond-false _ _ _ outside ∙ sym (cond-false _ _ _ outside)
    | inl inside ↦ cond-true _ _ _ inside ∙ elim (cases_eq here (number_at q j)) [
      | inl e ↦ subst (λ (n : ℕ). word_by (changes_at c' n) (word_of m' n) (is_zeroed m' n) k ≡ word_by (changes_at c n) (word_of m n) (is_zeroed m n) k) e (by_earlier k le)
      | inr apart ↦ by_other (number_at q j) k apart
    ] ∙ sym (cond-true _ _ _ inside)
  ]

  pub same_first : first_of m' c' ≡ first_of m c
  same_first = fun_ext (λ q. fun_ext (λ j. word_until 0 q j (omega arith)))

  one_place : (q j : ℕ) → is_place q j ≡ true → here ≡ number_at q j → (q ≡ p) × (j ≡ i)
  one_place q j inside e =
      let a = ltb-true i 512 (and_parts (ltb p (2 ^ 52)) (ltb i 512) place).1 in
      let b = ltb-true j 512 (and_parts (ltb q (2 ^ 52)) (ltb j 512) inside).1 in
      (omega (arith, a, b, e), omega (arith, a, b, e))

  stored_here : (q j : ℕ) → here ≡ number_at q j → is_place q j ≡ true → (nat_eq q p && nat_eq j i) ≡ true
  stored_here q j e inside = let both = one_place q j inside e in and_from _ _ (eq-eqb q p both.0) (eq-eqb j i both.1)

  stored_apart : (q j : ℕ) → (here ≡ number_at q j → ⊥) → (nat_eq q p && nat_eq j i) ≡ false
  stored_apart q j apart = elim (cases_Bool (nat_eq q p && nat_eq j i)) [
    | inr none ↦ none
    | inl both ↦
        let parts = and_parts _ _ both in
        let q-p = eqb-true q p parts.0 in
        let j-i = eqb-true j i parts.1 in
        absurd (apart (ap (λ (a : ℕ). a * 512 + i) (sym q-p) ∙ ap (λ (b : ℕ). q * 512 + b) (sym j-i)))
  ]

  outside_apart : (q j : ℕ) → is_place q j ≡ false → (nat_eq q p && nat_eq j i) ≡ false
  outside_apart q j outside = elim (cases_Bool (nat_eq q p && nat_eq j i)) [
    | inr none ↦ none
    | inl both ↦
        let parts = and_parts _ _ both in
        let q-p = eqb-true q p parts.0 in
        let j-i = eqb-true j i parts.1 in
        absurd (true≢false (sym place ∙ ap (λ (a : ℕ). is_place a i) (sym q-p) ∙ ap (λ (b : ℕ). is_place q b) (sym j-i) ∙ outside))
  ]

  abbrev event : Event
  event = Store p i w

  -- after the store
  words_late : (q j k : ℕ) → length h < k → word_when m' c' k q j ≡ memory_at (first_of m c) (event ∷ h) q j
  words_late q j k late = elim (cases_Bool (is_place q j)) [
    | inr outside ↦ cond-false _ _ _ outside ∙ sym (cond-false _ _ _ outside) ∙ was ∙ sym (cond-false _ _ _ (outside_apart q j outside))
    | inl inside ↦ cond-true _ _ _ inside ∙ elim (cases_eq here (number_at q j)) [
      | inl e ↦ subst (λ (n : ℕ). word_by (changes_at c' n) (word_of m' n) (is_zeroed m' n) k ≡ Some w) e (by_later k late)
          ∙ sym (cond-true _ _ _ (stored_here q j e inside))
      | inr apart ↦ by_other (number_at q j) k apart ∙ sym (cond-true _ _ _ inside) ∙ was ∙ sym (cond-false _ _ _ (stored_apart q j apart))
    ]
  ]
    where
      was : word_when m c k q j ≡ memory_at (first_of m c) h q j
      was = s.words q j k ∙ ap (λ (g : List Event). memory_at (first_of m c) g q j) (until_now h k (omega (arith, late)))

  stored_words : (q j k : ℕ) → word_when m' c' k q j ≡ memory_at (first_of m' c') (until (event ∷ h) k) q j
  stored_words q j k = elim (cases_lt (length h) k) [
    | inl late ↦ words_late q j k late ∙ ap (λ (g : List Event). memory_at (first_of m c) g q j) (sym (until_now (event ∷ h) k (omega (arith, late))))
    | inr le ↦ word_until k q j le ∙ s.words q j k ∙ ap (λ (g : List Event). memory_at (first_of m c) g q j) (sym (until_more event h k le))
  ] ∙ ap (λ (f : Memory). memory_at f (until (event ∷ h) k) q j) (sym same_first)

  sides : (q j : ℕ) → (nat_eq p q && nat_eq i j) ≡ (nat_eq q p && nat_eq j i)
  sides q j = ap (λ (b : Bool). b && nat_eq i j) (flipped p q) ∙ ap (λ (b : Bool). nat_eq q p && b) (flipped i j)

  stored_since : (q j k : ℕ) → is_place q j ≡ true → since_by 0 (changes_at c' (number_at q j)) k ≡ last_store (until (event ∷ h) k) q j
  stored_since q j k inside = elim (cases_eq here (number_at q j)) [
    | inr apart ↦ ap (λ (cs : List Change). since_by 0 cs k) (changes_apart (number_at q j) apart) ∙ s.since q j k inside ∙ elim (cases_lt (length h) k) [
      | inl late ↦ ap (λ (g : List Event). last_store g q j) (until_now h k (omega (arith, late)))
          ∙ sym (cond-false _ _ _ (sides q j ∙ stored_apart q j apart)) ∙ ap (λ (g : List Event). last_store g q j) (sym (until_now (event ∷ h) k (omega (arith, late))))
      | inr le ↦ ap (λ (g : List Event). last_store g q j) (sym (until_more event h k le))
    ]
    | inl e ↦ subst (λ (n : ℕ). since_by 0 (changes_at c' n) k ≡ since_by 0 (changes_at c n ++ change ∷ []) k) e (ap (λ (cs : List Change). since_by 0 cs k) changes_here)
        ∙ elim (cases_lt (length h) k) [
          | inl late ↦ since_later (changes_at c (number_at q j)) change 0 k (λ a d l. let low = s.bound (number_at q j) a d l in omega (arith, low, late)) (omega (arith, late))
              ∙ one ∙ sym (cond-true _ _ _ (sides q j ∙ stored_here q j e inside)) ∙ ap (λ (g : List Event). last_store g q j) (sym (until_now (event ∷ h) k (omega (arith, late))))
          | inr le ↦ since_earlier (changes_at c (number_at q j)) change 0 k (omega (arith, le)) ∙ s.since q j k inside
              ∙ ap (λ (g : List Event). last_store g q j) (sym (until_more event h k le))
        ]
  ]
    where
      one : length h + 1 ≡ suc (length h)
      one = omega arith

  stored_order : (n : ℕ) → AreInOrder (changes_at c' n)
  stored_order n = elim (cases_eq here n) [
    | inr apart ↦ subst AreInOrder (sym (changes_apart n apart)) (s.order n)
    | inl e ↦ subst (λ (a : ℕ). AreInOrder (changes_at c' a)) e (subst AreInOrder (sym changes_here)
        (IsNonDecreasingBy-push number_of (changes_at c here) change (s.order here)
        (λ d some. let low = s.bound here (length (changes_at c here) - 1) d (omega (arith, some)) in omega (arith, low))))
  ]

  stored_bound : (n k : ℕ) (d : Change) → k < length (changes_at c' n) → (get_or (changes_at c' n) k d).number ≤ suc (length h)
  stored_bound n = elim (cases_eq here n) [
    | inr apart ↦ subst (λ (cs : List Change). AllUntil (suc (length h)) cs) (sym (changes_apart n apart)) (λ k d less. let low = s.bound n k d less in omega (arith, low))
    | inl e ↦ subst (λ (a : ℕ). AllUntil (suc (length h)) (changes_at c' a)) e (subst (λ (cs : List Change). AllUntil (suc (length h)) cs) (sym changes_here)
        (until_pushed (changes_at c here) change (suc (length h)) (λ k d less. let low = s.bound here k d less in omega (arith, low)) (omega arith)))
  ]

  pub stored : AreStores m' c' (event ∷ h)
  stored = record { order = stored_order; bound = stored_bound; words = stored_words; since = stored_since }
