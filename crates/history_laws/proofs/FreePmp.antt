-- A hart without PMP entries permits everything, at each moment.
use Rattle.std.specs.Prelude.{slice_set}
use Rattle.std.proofs.Common.{◌≡◌, ℕ, true, false, refl, sym, subst, ◌∙◌, inl, inr, arith, None, Some, List, [], ◌∷◌, ◌||◌}
use Rattle.std.proofs.lemmas.Bool.{false≢true}
use Rattle.std.specs.List.{Contains}
use Rattle.std.proofs.lemmas.List.Elements.{Contains-append_cases, Contains-push, Contains-push_cases}
use Rattle.sv39_entry.specs.declared.access.Access.{Access}
use Rattle.walk_rules.specs.Pmp.{is_machine, pmp_permits}
use Rattle.walk_rules.specs.declared.pmp.PmpEntry.{PmpEntry}
use Rattle.walk_rules.specs.declared.status.Privilege.{Privilege}
use Rattle.walk_rules.specs.declared.status.Privilege.TheVariants.{User, Supervisor, Machine}
use Rattle.access_history.specs.History.{pmp_at, pmps_at}
use Rattle.access_history.specs.declared.event.Event.{Event}
use Rattle.access_history.specs.declared.event.Event.TheVariants.{Store, WriteSatp, WritePmp, Fence}

set_none : {X : Type 0} (xs : List X) (n : ℕ) (y : X) → xs ≡ [] → slice_set xs n y ≡ []
set_none xs n y is = subst (λ (zs : List _). slice_set zs n y ≡ []) (sym is) refl

none_at : (h : List Event) → pmp_at [] h ≡ []
none_at [] = refl
none_at (Store p i w ∷ h) = none_at h
none_at (WriteSatp w ∷ h) = none_at h
none_at (WritePmp n e ∷ h) = set_none (pmp_at [] h) n e (none_at h)
none_at (Fence a s ∷ h) = none_at h

has_first : {X : Type 0} (x y : X) (xs : List X) → x ≡ y → Contains (x ∷ xs) y
has_first x y xs is = (0, omega arith, is)

-- of the lists of PMP entries that a check may go by there is one, and it is empty
pub has_none : (h : List Event) → Contains (pmps_at [] h) []
has_none [] = Contains-push [] []
has_none (Store p i w ∷ h) = has_none h
has_none (WriteSatp w ∷ h) = has_none h
has_none (WritePmp n e ∷ h) = has_first (slice_set (pmp_at [] h) n e) [] (pmps_at [] h) (set_none (pmp_at [] h) n e (none_at h))
has_none (Fence None None ∷ h) = has_first (pmp_at [] h) [] [] (none_at h)
has_none (Fence None (Some s) ∷ h) = has_none h
has_none (Fence (Some a) s ∷ h) = has_none h

one_of : {X : Type 0} (x y z : X) (xs : List X) → (Contains xs y → y ≡ z) → x ≡ z → Contains (x ∷ xs) y → y ≡ z
one_of x y z xs rest is has = elim (Contains-append_cases (x ∷ []) xs y has) [
  | inr later ↦ rest later
  | inl first ↦ elim (Contains-push_cases [] x y first) [
    | inl none ↦ absurd (let low = none.1 in omega (arith, low))
    | inr same ↦ sym same ∙ is
  ]
]

only_none : (h : List Event) (es : List PmpEntry) → Contains (pmps_at [] h) es → es ≡ []
only_none [] es has = one_of [] es [] [] (λ none. absurd (let low = none.1 in omega (arith, low))) refl has
only_none (Store p i w ∷ h) es has = only_none h es has
only_none (WriteSatp w ∷ h) es has = only_none h es has
only_none (WritePmp n e ∷ h) es has =
    one_of (slice_set (pmp_at [] h) n e) es [] (pmps_at [] h) (only_none h es) (set_none (pmp_at [] h) n e (none_at h)) has
only_none (Fence None None ∷ h) es has = one_of (pmp_at [] h) es [] [] (λ none. absurd (let low = none.1 in omega (arith, low))) (none_at h) has
only_none (Fence None (Some s) ∷ h) es has = only_none h es has
only_none (Fence (Some a) s ∷ h) es has = only_none h es has

permits_by : (p : Privilege) → (is_machine p || true) ≡ true
permits_by User = refl
permits_by Supervisor = refl
permits_by Machine = refl

module _ (first : List PmpEntry) (none : first ≡ []) (h : List Event) where
  pub passes : (p : Privilege) (a : Access) (pa width : ℕ) → (es : List PmpEntry) × Contains (pmps_at first h) es × (pmp_permits es p a pa width ≡ true)
  passes p a pa width = ([], subst (λ (zs : List PmpEntry). Contains (pmps_at zs h) []) (sym none) (has_none h), permits_by p)

  pub never_fails : (p : Privilege) (a : Access) (pa width : ℕ) (es : List PmpEntry) → Contains (pmps_at first h) es → pmp_permits es p a pa width ≡ false → ⊥
  never_fails p a pa width es has fails =
      let empty = only_none h es (subst (λ (zs : List PmpEntry). Contains (pmps_at zs h) es) none has) in
      let bad : pmp_permits [] p a pa width ≡ false = subst (λ (zs : List PmpEntry). pmp_permits zs p a pa width ≡ false) empty fails in
      false≢true (sym bad ∙ permits_by p)
