-- Laws of `with_values`, a function applied to every value of a page map (a map from page numbers): a lookup finds a value
-- exactly when it found one before, and it is the function of that one.
use Rattle.std.proofs.Common.{◌≡◌, ℕ, refl, ap, sym, ◌∙◌, inl, inr, List, [], ◌∷◌, Option, None, Some}
use Rattle.std.specs.Cmp.{unsigned_tied}
use Rattle.std.specs.FinMap.Entries.{find}
use Rattle.std.specs.Ordering.{nat_cmp}
use Rattle.std.specs.Prelude.{option_map}
use Rattle.std.proofs.lemmas.Bool.{cases_eq, eq-eqb, ne_eqb}
use Rattle.std.proofs.lemmas.Option.{same_Some}
use Rattle.process_model.specs.PageMap.{each_value, get, PageMap, with_values}

module _ {X : Type 0} (f : ℕ → X → X) where
  each_entry : (es : List (ℕ × X)) (n : ℕ) → find nat_cmp n (each_value f es) ≡ option_map (f n) (find nat_cmp n es)
  each_entry [] n = refl
  each_entry (e ∷ es) n = elim (cases_eq n e.0) [
    | inl same ↦ rw (unsigned_tied n e.0, eq-eqb n e.0 same) (ap (λ k. Some (f k e.1)) (sym same))
    | inr apart ↦ rw (unsigned_tied n e.0, ne_eqb n e.0 apart) (each_entry es n)
  ]

  pub each_answer : (m : PageMap X) (n : ℕ) → get (with_values f m) n ≡ option_map (f n) (get m n)
  each_answer m n = each_entry m.entries n

  pub each_there : (m : PageMap X) (n : ℕ) (y : X) → get m n ≡ Some y → get (with_values f m) n ≡ Some (f n y)
  each_there m n y there = each_answer m n ∙ ap (option_map (f n)) there

  was_there : (n : ℕ) (x : X) (o : Option X) → option_map (f n) o ≡ Some x → (y : X) × (o ≡ Some y) × (f n y ≡ x)
  was_there n x None is = absurd (cc)
  was_there n x (Some y) is = (y, refl, same_Some (f n y) x is)

  pub found_each : (m : PageMap X) (n : ℕ) (x : X) → get (with_values f m) n ≡ Some x → (y : X) × (get m n ≡ Some y) × (f n y ≡ x)
  found_each m n x there = was_there n x (get m n) (sym (each_answer m n) ∙ there)
