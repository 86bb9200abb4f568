-- Changes in order, by the place of the first one after a moment; and one change more.
use Rattle.std.proofs.Common.{◌≡◌, inl, inr, ℕ, zero, suc, ◌-◌, ◌<◌, ◌≤◌, Bool, true, false, Option, None, Some, List, [], ◌∷◌, ◌++◌, length, get_or, leb, refl, ap, sym, subst, ◌∙◌, arith}
use Rattle.std.specs.List.{slice_get}
use Rattle.std.specs.List.Sorted.{IsPartitionPoint}
use Rattle.std.proofs.lemmas.Option.{none-some, same_Some}
use Rattle.std.proofs.lemmas.Bool.{cases_Bool, cond-false, cond-true, le-leb, leb-true, leb-false, lt-leb}
use Rattle.mmu.specs.Changing.{AreInOrder, after_by, number_of, since_by, word_before}
use Rattle.mmu.specs.Words.{or_zero}
use Rattle.mmu.specs.declared.changes.Change.{Change}

abbrev pub Splits : ℕ → List Change → ℕ → Type 0
Splits k cs at = IsPartitionPoint (λ (c : Change). leb c.number k ≡ true) (λ (c : Change). leb c.number k ≡ false) cs at

shorter : (k : ℕ) (c : Change) (cs : List Change) (at : ℕ) → Splits k (c ∷ cs) (suc at) → Splits k cs at
shorter k c cs at s = (λ i d low less. s.0 (suc i) d (omega arith) (omega (arith, less)), λ i d low less. s.1 (suc i) d (omega (arith, low)) (omega (arith, less)))

pub after_is : (k : ℕ) (cs : List Change) (at : ℕ) → Splits k cs at → after_by cs k ≡ slice_get cs at
after_is k [] zero s = refl
after_is k [] (suc at) s = refl
after_is k (c ∷ cs) zero s = rw (s.1 0 c (omega arith) (omega arith)) refl
after_is k (c ∷ cs) (suc at) s = rw (s.0 0 c (omega arith) (omega arith)) (after_is k cs at (shorter k c cs at s))

pub since_none : (k : ℕ) (cs : List Change) (n : ℕ) → Splits k cs 0 → since_by n cs k ≡ n
since_none k [] n s = refl
since_none k (c ∷ cs) n s = rw (s.1 0 c (omega arith) (omega arith)) refl

pub since_is : (k : ℕ) (cs : List Change) (at n : ℕ) (d : Change) → at < length cs → Splits k cs (suc at) → since_by n cs k ≡ (get_or cs at d).number
since_is k [] at n d less s = absurd (omega (arith, less))
since_is k (c ∷ cs) zero n d less s = rw (s.0 0 c (omega arith) (omega arith)) (since_none k cs c.number (shorter k c cs 0 s))
since_is k (c ∷ cs) (suc at) n d less s =
    rw (s.0 0 c (omega arith) (omega arith)) (since_is k cs at c.number d (omega (arith, less)) (shorter k c cs (suc at) s))

-- ---- one change more

pub word_earlier : (cs : List Change) (c : Change) (now was : Option ℕ) (z : Bool) (k : ℕ) → k < c.number → or_zero z c.before ≡ was
    → word_before (after_by (cs ++ c ∷ []) k) now z ≡ word_before (after_by cs k) was z
word_earlier [] c now was z k less is = rw (lt-leb c.number k less) is
word_earlier (x ∷ cs) c now was z k less is = elim (cases_Bool (leb x.number k)) [
  | inl old ↦ rw old (word_earlier cs c now was z k less is)
  | inr new ↦ rw new refl
]

abbrev pub AllUntil : ℕ → List Change → Type 0
AllUntil n cs = (i : ℕ) (d : Change) → i < length cs → (get_or cs i d).number ≤ n

pub after_none : (cs : List Change) (k : ℕ) → AllUntil k cs → after_by cs k ≡ None
after_none [] k all = refl
after_none (x ∷ cs) k all =
    rw (le-leb x.number k (all 0 x (omega arith))) (after_none cs k (λ i d less. all (suc i) d (omega (arith, less))))

pub until_pushed : (cs : List Change) (c : Change) (n : ℕ) → AllUntil n cs → c.number ≤ n → AllUntil n (cs ++ c ∷ [])
until_pushed [] c n all le zero d less = le
until_pushed [] c n all le (suc i) d less = absurd (omega (arith, less))
until_pushed (x ∷ cs) c n all le zero d less = all 0 x (omega arith)
until_pushed (x ∷ cs) c n all le (suc i) d less = until_pushed cs c n (λ j e l. all (suc j) e (omega (arith, l))) le i d (omega (arith, less))

pub since_earlier : (cs : List Change) (c : Change) (n k : ℕ) → k < c.number → since_by n (cs ++ c ∷ []) k ≡ since_by n cs k
since_earlier [] c n k less = rw (lt-leb c.number k less) refl
since_earlier (x ∷ cs) c n k less = elim (cases_Bool (leb x.number k)) [
  | inl old ↦ rw old (since_earlier cs c x.number k less)
  | inr new ↦ rw new refl
]

pub since_later : (cs : List Change) (c : Change) (n k : ℕ) → AllUntil k cs → c.number ≤ k → since_by n (cs ++ c ∷ []) k ≡ c.number
since_later [] c n k all le = rw (le-leb c.number k le) refl
since_later (x ∷ cs) c n k all le =
    rw (le-leb x.number k (all 0 x (omega arith))) (since_later cs c x.number k (λ i d less. all (suc i) d (omega (arith, less))) le)

-- ---- the first change after a moment

pub after_bound : (cs : List Change) (k n : ℕ) (c : Change) → AllUntil n cs → after_by cs k ≡ Some c → (k < c.number) × (c.number ≤ n)
after_bound [] k n c all is = absurd (none-some c is)
after_bound (x ∷ cs) k n c all is = elim (cases_Bool (leb x.number k)) [
  | inl old ↦ after_bound cs k n c (λ i d less. all (suc i) d (omega (arith, less))) (sym (cond-true _ _ _ old) ∙ is)
  | inr new ↦
      let same : x ≡ c = same_Some x c (sym (cond-false _ _ _ new) ∙ is) in
      subst (λ (y : Change). (k < y.number) × (y.number ≤ n)) same (leb-false x.number k new, all 0 x (omega arith))
]

pub since_low : (cs : List Change) (s k n : ℕ) → s ≤ k → after_by cs k ≡ None → since_by s cs n ≤ k
since_low [] s k n le is = le
since_low (x ∷ cs) s k n le is = elim (cases_Bool (leb x.number k)) [
  | inr new ↦ absurd (none-some x (sym is ∙ cond-false _ _ _ new))
  | inl old ↦ elim (cases_Bool (leb x.number n)) [
    | inl here ↦ subst (λ (m : ℕ). m ≤ k) (sym (cond-true _ _ _ here)) (since_low cs x.number k n (leb-true x.number k old) (sym (cond-true _ _ _ old) ∙ is))
    | inr late ↦ subst (λ (m : ℕ). m ≤ k) (sym (cond-false _ _ _ late)) le
  ]
]

pub since_before : (cs : List Change) (s k : ℕ) (c : Change) → s ≤ k → after_by cs k ≡ Some c → k < c.number → since_by s cs (c.number - 1) ≤ k
since_before [] s k c le is less = le
since_before (x ∷ cs) s k c le is less = elim (cases_Bool (leb x.number k)) [
  | inr new ↦
      let same : x ≡ c = same_Some x c (sym (cond-false _ _ _ new) ∙ is) in
      let late : leb x.number (c.number - 1) ≡ false = lt-leb x.number (c.number - 1) (omega (arith, ap number_of same, less)) in
      subst (λ (m : ℕ). m ≤ k) (sym (cond-false _ _ _ late)) le
  | inl old ↦
      let low = leb-true x.number k old in
      let here : leb x.number (c.number - 1) ≡ true = le-leb x.number (c.number - 1) (omega (arith, low, less)) in
      subst (λ (m : ℕ). m ≤ k) (sym (cond-true _ _ _ here)) (since_before cs x.number k c low (sym (cond-true _ _ _ old) ∙ is) less)
]

-- changes from one on, none of which comes before a number
since_stays : (cs : List Change) (n : ℕ) → ((i : ℕ) (d : Change) → i < length cs → n ≤ (get_or cs i d).number) → since_by n cs n ≡ n
since_stays [] n all = refl
since_stays (x ∷ cs) n all = elim (cases_Bool (leb x.number n)) [
  | inr late ↦ cond-false _ _ _ late
  | inl here ↦
      let low = leb-true x.number n here in
      let high = all 0 x (omega arith) in
      let same : x.number ≡ n = omega (arith, low, high) in
      cond-true _ _ _ here ∙ ap (λ (m : ℕ). since_by m cs n) same ∙ since_stays cs n (λ i d less. all (suc i) d (omega (arith, less)))
]

pub since_after : (cs : List Change) (s k : ℕ) (c : Change) → AreInOrder cs → after_by cs k ≡ Some c → k < c.number → since_by s cs c.number ≡ c.number
since_after [] s k c order is less = absurd (none-some c is)
since_after (x ∷ cs) s k c order is less = elim (cases_Bool (leb x.number k)) [
  | inr new ↦
      let same : x ≡ c = same_Some x c (sym (cond-false _ _ _ new) ∙ is) in
      let here : leb x.number c.number ≡ true = le-leb x.number c.number (omega (arith, ap number_of same)) in
      let stays = since_stays cs x.number (λ i d l. order 0 (suc i) d (omega arith) (omega (arith, l))) in
      cond-true _ _ _ here ∙ ap (λ (m : ℕ). since_by x.number cs m) (sym (ap number_of same)) ∙ stays ∙ ap number_of same
  | inl old ↦
      let low = leb-true x.number k old in
      let here : leb x.number c.number ≡ true = le-leb x.number c.number (omega (arith, low, less)) in
      cond-true _ _ _ here
      ∙ since_after cs x.number k c (λ i j d le l. order (suc i) (suc j) d (omega (arith, le)) (omega (arith, l))) (sym (cond-true _ _ _ old) ∙ is) less
]
