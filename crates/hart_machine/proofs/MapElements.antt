-- A lemma on lists (`from_map`): entry k of `map f xs` is f's value at entry k of `xs`.
use Rattle.std.proofs.Common.{◌≡◌, ℕ, map, None, Option, option_map, Some, List, refl, sym, ◌∙◌}
use Rattle.std.specs.Prelude.{slice_get}
use Rattle.std.proofs.lemmas.Option.{same_Some, slice_get-map}

-- entry k comes from entry k of the first list
pub from_map : {A B : Type 0} (f : A → B) (xs : List A) (k : ℕ) (b : B) → slice_get (map f xs) k ≡ Some b → (a : A) × (slice_get xs k ≡ Some a) × (f a ≡ b)
from_map {A} {B} f xs k b at = go (slice_get xs k) refl (sym (slice_get-map f xs k) ∙ at) where
  go : (o : Option A) → slice_get xs k ≡ o → option_map f o ≡ Some b → (a : A) × (slice_get xs k ≡ Some a) × (f a ≡ b)
  go None there is = absurd (cc)
  go (Some a) there is = (a, there, same_Some (f a) b is)
