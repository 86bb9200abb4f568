-- What the search for one outcome more finds (`Finds`).
use Rattle.std.specs.Prelude.{◌≡◌, Option, None, Some, List, [], ◌++◌}
use Rattle.std.specs.List.{Contains}
use Rattle.std.proofs.Common.{refl, subst, sym, ◌∙◌, arith, inl, inr}
use Rattle.std.proofs.lemmas.List.Elements.{Contains-append_cases, Contains-append_left, Contains-append_right}
use Rattle.access_history.specs.declared.outcome.Outcome.{Outcome}
use Rattle.lent_history.specs.Numbers.{numbers_of}
use Rattle.lent_history.specs.declared.numbers.LentOutcome.{LentOutcome}

-- the outcomes that are known, and one that is not, if one was found
pub record Finding : Type 0 where
  pub known : List LentOutcome
  pub found : Option Outcome

-- after one more outcome was told
pub record AreNew (known : List LentOutcome) (found : Option Outcome) (told : Outcome) (after : Option Outcome) : Type 0 where
  pub kept : (x : Outcome) → found ≡ Some x → after ≡ Some x
  pub some : (x : Outcome) → found ≡ None → after ≡ Some x → (x ≡ told) × (Contains known (numbers_of told) → ⊥)
  pub none : after ≡ None → Contains known (numbers_of told)

pub record Finds (a : Finding) (os : List Outcome) (b : Finding) : Type 0 where
  pub known : b.known ≡ a.known
  pub kept : (x : Outcome) → a.found ≡ Some x → b.found ≡ Some x
  pub some : (x : Outcome) → a.found ≡ None → b.found ≡ Some x → Contains os x × (Contains a.known (numbers_of x) → ⊥)
  pub none : b.found ≡ None → (x : Outcome) → Contains os x → Contains a.known (numbers_of x)

no_element : {X : Type 0} (x : X) → Contains [] x → ⊥
no_element x has = let low = has.1 in omega (arith, low)

apart : {X : Type 0} (o : Option X) (x : X) → o ≡ None → o ≡ Some x → ⊥
apart o x none some = absurd (cc)

pub finds_nothing : (a : Finding) → Finds a [] a
finds_nothing a = record {
  known = refl;
  kept = λ x h. h;
  some = λ x none some. absurd (apart a.found x none some);
  none = λ none x has. absurd (no_element x has);
}

pub finds_on : (a b c : Finding) (xs ys : List Outcome) → Finds a xs b → Finds b ys c → Finds a (xs ++ ys) c
finds_on a b c xs ys p q = record {
  known = q.known ∙ p.known;
  kept = λ x h. q.kept x (p.kept x h);
  some = λ x none some. go b.found refl x none some;
  none = λ none x has. elim (Contains-append_cases xs ys x has) [
    | inl first ↦ p.none (before b.found refl none) x first
    | inr second ↦ subst (λ (known : List LentOutcome). Contains known (numbers_of x)) p.known (q.none none x second)
  ];
}
  where
    before : (o : Option Outcome) → b.found ≡ o → c.found ≡ None → b.found ≡ None
    before None is none = is
    before (Some y) is none = absurd (apart c.found y none (q.kept y is))

    go : (o : Option Outcome) → b.found ≡ o → (x : Outcome) → a.found ≡ None → c.found ≡ Some x
        → Contains (xs ++ ys) x × (Contains a.known (numbers_of x) → ⊥)
    go None is x none some =
        let new = q.some x is some in
        (Contains-append_right xs ys x new.0, λ has. new.1 (subst (λ (known : List LentOutcome). Contains known (numbers_of x)) (sym p.known) has))
    go (Some y) is x none some =
        let new = p.some y none is in
        let same : y ≡ x = cc (q.kept y is, some) in
        (Contains-append_left xs ys x (subst (Contains xs) same new.0), λ has. new.1 (subst (λ (x : Outcome). Contains a.known (numbers_of x)) (sym same) has))

-- if none was found that is new, each of these is known
abbrev pub Has : Finding → List Outcome → Type 0
Has a os = a.found ≡ None → (o : Outcome) → Contains os o → Contains a.known (numbers_of o)

pub has_told : (a b : Finding) (os : List Outcome) → Finds a os b → Has b os
has_told a b os p none o has = subst (λ (known : List LentOutcome). Contains known (numbers_of o)) (sym p.known) (p.none none o has)

pub has_still : (a b : Finding) (xs ys : List Outcome) → Has a xs → Finds a ys b → Has b xs
has_still a b xs ys all p none o has =
    subst (λ (known : List LentOutcome). Contains known (numbers_of o)) (sym p.known) (all (before a.found refl) o has)
  where
    before : (f : Option Outcome) → a.found ≡ f → a.found ≡ None
    before None is = is
    before (Some x) is = absurd (apart b.found x none (p.kept x is))

pub finds_again : (a : Finding) (os : List Outcome) → Has a os → Finds a os a
finds_again a os all = record {
  known = refl;
  kept = λ x h. h;
  some = λ x none some. absurd (apart a.found x none some);
  none = all;
}
