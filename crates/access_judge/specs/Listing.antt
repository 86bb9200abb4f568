-- What the two sinks know: the outcomes that findings list, and whether one was told.
use Rattle.std.specs.Prelude.{◌≡◌, ◌≢◌, ◌⊎◌, Bool, true, List, [], ◌++◌, map}
use Rattle.std.specs.List.{AllPairs, Contains}
use Rattle.std.proofs.Common.{arith, inl, inr}
use Rattle.std.proofs.lemmas.List.Elements.{Contains-append_cases, Contains-append_left, Contains-append_right}
use Rattle.access_history.specs.declared.outcome.Outcome.{Outcome}
use Rattle.access_judge.specs.declared.way.Told.{Told}

abbrev pub outcome_of : Told → Outcome
outcome_of t = t.outcome

abbrev pub outcomes_of : List Told → List Outcome
outcomes_of ts = map outcome_of ts

-- no outcome stands in a list twice
abbrev pub EachOnce : List Outcome → Type 0
EachOnce os = AllPairs (λ a b. a ≢ b) os

pub no_element : {X : Type 0} (x : X) → Contains [] x → ⊥
no_element x has = let low = has.1 in omega (arith, low)

-- the list before and the one after some outcomes were told, if memory was found for each
pub record Lists (a : List Outcome) (xs : List Outcome) (b : List Outcome) : Type 0 where
  pub only : (o : Outcome) → Contains b o → Contains a o ⊎ Contains xs o
  pub kept : (o : Outcome) → Contains a o → Contains b o
  pub each : (o : Outcome) → Contains xs o → Contains b o

pub lists_nothing : (a : List Outcome) → Lists a [] a
lists_nothing a = record { only = λ o h. inl h; kept = λ o h. h; each = λ o h. absurd (no_element o h) }

pub lists_on : (a b c xs ys : List Outcome) → Lists a xs b → Lists b ys c → Lists a (xs ++ ys) c
lists_on a b c xs ys p q = record {
  only = λ o h. elim (q.only o h) [
    | inl old ↦ elim (p.only o old) [ inl older ↦ inl older | inr new ↦ inr (Contains-append_left xs ys o new) ]
    | inr new ↦ inr (Contains-append_right xs ys o new)
  ];
  kept = λ o h. q.kept o (p.kept o h);
  each = λ o h. elim (Contains-append_cases xs ys o h) [ inl x ↦ q.kept o (p.each o x) | inr y ↦ q.each o y ];
}

-- one outcome is wanted: it was told, before or now
pub record Seeks (wanted : Outcome) (a : Bool) (xs : List Outcome) (b : Bool) : Type 0 where
  pub only : b ≡ true → (a ≡ true) ⊎ Contains xs wanted
  pub kept : a ≡ true → b ≡ true
  pub each : Contains xs wanted → b ≡ true

pub seeks_nothing : (w : Outcome) (a : Bool) → Seeks w a [] a
seeks_nothing w a = record { only = λ h. inl h; kept = λ h. h; each = λ h. absurd (no_element w h) }

pub seeks_on : (w : Outcome) (a b c : Bool) (xs ys : List Outcome) → Seeks w a xs b → Seeks w b ys c → Seeks w a (xs ++ ys) c
seeks_on w a b c xs ys p q = record {
  only = λ h. elim (q.only h) [
    | inl old ↦ elim (p.only old) [ inl older ↦ inl older | inr new ↦ inr (Contains-append_left xs ys w new) ]
    | inr new ↦ inr (Contains-append_right xs ys w new)
  ];
  kept = λ h. q.kept (p.kept h);
  each = λ h. elim (Contains-append_cases xs ys w h) [ inl x ↦ q.kept (p.each x) | inr y ↦ q.each y ];
}
