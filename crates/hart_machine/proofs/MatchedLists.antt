-- Lemmas on lists of numbers that a relation matches one to one (`Matched`): how to make one, to append two, and to add a
-- pair.
use Rattle.std.proofs.Common.{◌≡◌, ℕ, inl, inr, refl, sym, subst, arith, List, [], ◌∷◌, ◌++◌, length}
use Rattle.std.proofs.lemmas.List.{length-append}
use Rattle.hart_machine.proofs.NumberLists.{Among, among_back, among_front, among_parts, Distinct, distinct_append}

-- the second list has the partners of the first, and no number twice
pub record Matched (R : ℕ → ℕ → Type 0) (ks fs : List ℕ) : Type 0 where
  pub long : length fs ≡ length ks
  pub of : (f : ℕ) → Among f fs → (k : ℕ) × Among k ks × R f k
  pub has : (f k : ℕ) → Among k ks → R f k → Among f fs
  pub distinct : Distinct fs

-- each number of a list without repeats has one partner, and no two have the same
pub matched : (R : ℕ → ℕ → Type 0) (ks : List ℕ) → Distinct ks → ((k : ℕ) → Among k ks → (f : ℕ) × R f k)
    → ((f g k : ℕ) → Among k ks → R f k → R g k → f ≡ g) → ((f j k : ℕ) → Among j ks → Among k ks → R f j → R f k → j ≡ k)
    → (fs : List ℕ) × Matched R ks fs
matched R [] d some one apart = ([], record { long = refl; of = λ f i. absurd i; has = λ f k i r. absurd i; distinct = tt })
matched R (k ∷ ks) d some one apart =
    let rest = matched R ks d.1 (λ j i. some j (inr i)) (λ f g j i. one f g j (inr i)) (λ f i j a b. apart f i j (inr a) (inr b)) in
    let here = some k (inl refl) in (
      here.0 ∷ rest.0,
      record {
        long = let others = rest.1.long in omega (arith, others);
        of = λ f i. elim i [
          | inl e ↦ (k, inl refl, subst (λ z. R z k) (sym e) here.1)
          | inr j ↦ let old = rest.1.of f j in (old.0, inr old.1, old.2)
        ];
        has = λ f j i r. elim i [
          | inl e ↦ inl (one f here.0 k (inl refl) (subst (λ z. R f z) e r) here.1)
          | inr later ↦ inr (rest.1.has f j later r)
        ];
        distinct = (
          (λ i.
              let old = rest.1.of here.0 i in
              let same = apart here.0 k old.0 (inl refl) (inr old.1) here.1 old.2 in
              d.0 (subst (λ z. Among z ks) (sym same) old.1)),
          rest.1.distinct,
        );
      },
    )

-- two such lists are one
pub matched_append : (R : ℕ → ℕ → Type 0) (ks js fs gs : List ℕ) → Distinct (ks ++ js) → ((f j k : ℕ) → Among j (ks ++ js) → Among k (ks ++ js) → R f j → R f k → j ≡ k)
    → Matched R ks fs → Matched R js gs → ((k : ℕ) → Among k ks → Among k js → ⊥) → Matched R (ks ++ js) (fs ++ gs)
matched_append R ks js fs gs d apart m n far = record {
  long = let first = m.long in let second = n.long in let partners = length-append fs gs in let both = length-append ks js in omega (arith, first, second, partners, both);
  of = λ f i. elim (among_parts f fs gs i) [
    | inl j ↦ let old = m.of f j in (old.0, among_front old.0 ks js old.1, old.2)
    | inr j ↦ let old = n.of f j in (old.0, among_back old.0 ks js old.1, old.2)
  ];
  has = λ f k i r. elim (among_parts k ks js i) [
    | inl j ↦ among_front f fs gs (m.has f k j r)
    | inr j ↦ among_back f fs gs (n.has f k j r)
  ];
  distinct = distinct_append fs gs m.distinct n.distinct (λ q i j.
      let first = m.of q i in
      let second = n.of q j in
      let same = apart q first.0 second.0 (among_front first.0 ks js first.1) (among_back second.0 ks js second.1) first.2 second.2 in
      far first.0 first.1 (subst (λ z. Among z js) (sym same) second.1));
}

-- one more pair
pub matched_cons : (R : ℕ → ℕ → Type 0) (k f : ℕ) (ks fs : List ℕ) → ((g : ℕ) → R g k → g ≡ f) → ((j : ℕ) → Among j ks → R f j → ⊥) → R f k → Matched R ks fs → Matched R (k ∷ ks) (f ∷ fs)
matched_cons R k f ks fs one apart here m = record {
  long = let others = m.long in omega (arith, others);
  of = λ g i. elim i [
    | inl e ↦ (k, inl refl, subst (λ z. R z k) (sym e) here)
    | inr j ↦ let old = m.of g j in (old.0, inr old.1, old.2)
  ];
  has = λ g j i r. elim i [
    | inl e ↦ inl (one g (subst (λ z. R g z) e r))
    | inr later ↦ inr (m.has g j later r)
  ];
  distinct = ((λ i. let old = m.of f i in apart old.0 old.1 old.2), m.distinct);
}
