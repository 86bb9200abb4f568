-- What the sinks know once all was told.
use Rattle.std.proofs.Common.{◌≡◌, ◌≢◌, ◌≤◌, ◌<◌, ℕ, Bool, true, false, Result, Ok, Err, OnOk, List, [], ◌∷◌, ◌++◌, length, get_or, ap, sym, subst, ◌∙◌, inl, inr, arith}
use Rattle.std.specs.List.{Contains}
use Rattle.std.proofs.lemmas.Bool.{false≢true}
use Rattle.std.proofs.lemmas.List.Elements.{Contains-get_or, Contains-append_left, Contains-append_right, Contains-push, Contains-push_cases}
use Rattle.std.proofs.lemmas.List.Quantifiers.{all_pairs_push}
use Rattle.walk_rules.specs.declared.extensions.Extensions.{Extensions}
use Rattle.access_history.specs.Permits.{Past, Permits}
use Rattle.access_history.specs.declared.outcome.Outcome.{Outcome}
use Rattle.access_history.specs.declared.outcome.Request.{Request}
use Rattle.access_judge.specs.Findings.{Finds, listed}
use Rattle.access_judge.specs.Listing.{EachOnce, Lists, Seeks, no_element, outcome_of, outcomes_of}
use Rattle.access_judge.proofs.SearchLists.{map_from}
use Rattle.access_judge.specs.Search.{ArePermitted}
use Rattle.access_judge.specs.declared.findings.Findings.{Findings}
use Rattle.access_judge.specs.declared.way.Told.{Told}

pub are_listed : (x : Extensions) (p : Past) (q : Request) (os a b : List Outcome) → a ≡ [] → Lists a os b → ArePermitted x p q os → ArePermitted x p q b
are_listed x p q os a b none is exact o = (
  λ has. elim (is.only o has) [
    | inl old ↦ absurd (no_element o (subst (λ (l : List Outcome). Contains l o) none old))
    | inr new ↦ (exact o).0 new
  ],
  λ permitted. is.each o ((exact o).1 permitted),
)

pub is_sought : (x : Extensions) (p : Past) (q : Request) (os : List Outcome) (o : Outcome) (found : Bool) → Seeks o false os found → ArePermitted x p q os
    → (found ≡ true → Permits x p q o) × (Permits x p q o → found ≡ true)
is_sought x p q os o found is exact =
    (λ h. elim (is.only h) [ inl old ↦ absurd (false≢true old) | inr new ↦ (exact o).0 new ], λ permitted. is.each ((exact o).1 permitted))

pub on_ok : {A E : Type 0} (P Q : Type 0) (r : Result A E) → OnOk r P → (P → Q) → OnOk r Q
on_ok P Q (Ok a) h f = f h
on_ok P Q (Err e) h f = tt

one_element : (o w : Outcome) → Contains (o ∷ []) w → o ≡ w
one_element o w has = elim (Contains-push_cases [] o w has) [ inl none ↦ absurd (no_element w none) | inr same ↦ same ]

-- an outcome that was listed already is told once more
pub finds_again : (a : Findings) (o : Outcome) → Contains (listed a) o → Finds a (o ∷ []) a
finds_again a o has = record {
  fits = λ h. h;
  lists = λ h. record {
    only = λ w there. inl there;
    kept = λ w there. there;
    each = λ w there. subst (λ (z : Outcome). Contains (listed a) z) (one_element o w there) has;
  };
  once = λ h each. each;
}

once_more : (os : List Outcome) (o : Outcome) → EachOnce os → (Contains os o → ⊥) → EachOnce (os ++ o ∷ [])
once_more os o each none =
    all_pairs_push (λ (a b : Outcome). a ≢ b) os o each (λ k d low same. none (subst (λ (z : Outcome). Contains os z) same (Contains-get_or os k d low)))

pub finds_one : (a b : Findings) (o : Outcome) → (b.is_full ≡ false → a.is_full ≡ false) → (b.is_full ≡ false → listed b ≡ listed a ++ o ∷ [])
    → (Contains (listed a) o → ⊥) → Finds a (o ∷ []) b
finds_one a b o fits pushed none = record {
  fits = fits;
  lists = λ h. record {
    only = λ w there. elim (Contains-push_cases (listed a) o w (subst (λ (l : List Outcome). Contains l w) (pushed h) there)) [
      | inl old ↦ inl old
      | inr same ↦ inr (subst (λ (z : Outcome). Contains (o ∷ []) z) same (Contains-push [] o))
    ];
    kept = λ w there. subst (λ (l : List Outcome). Contains l w) (sym (pushed h)) (Contains-append_left (listed a) (o ∷ []) w there);
    each = λ w there. subst (λ (l : List Outcome). Contains l w) (sym (pushed h)) (Contains-append_right (listed a) (o ∷ []) w there);
  };
  once = λ h each. subst EachOnce (sym (pushed h)) (once_more (listed a) o each none);
}

pub none_once : (os : List Outcome) → os ≡ [] → EachOnce os
none_once os e i j d low high = absurd (omega (arith, high, ap length e))

pub none_told : (ts : List Told) (n : ℕ) (o : Outcome) → length ts ≤ n → ((k : ℕ) (d : Told) → k < n → (get_or ts k d).outcome ≡ o → ⊥) → Contains (outcomes_of ts) o → ⊥
none_told ts n o all none has =
    let up = map_from outcome_of ts o has in
    let at = up.1 in
    none at.0 up.0 (omega (arith, all, at.1)) (ap outcome_of at.2 ∙ up.2)
