-- Lemmas on names of children (the parent's name with a number after it): never empty, never the name of a start, and they
-- determine the parent's name and the number.
use Rattle.std.proofs.Common.{◌≡◌, ℕ, List, [], ◌∷◌, ◌++◌, refl, sym, ap, ◌∙◌}

abbrev pub first_of : List ℕ → ℕ
first_of [] = 0
first_of (x ∷ xs) = x

abbrev tail_of : List ℕ → List ℕ
tail_of [] = []
tail_of (x ∷ xs) = xs

pub some_name : (m : List ℕ) (j : ℕ) → m ++ j ∷ [] ≡ [] → ⊥
some_name [] j e = cc
some_name (x ∷ xs) j e = cc

-- a child's name is no number of a start
pub no_start : (m : List ℕ) (j i : ℕ) → (m ≡ [] → ⊥) → m ++ j ∷ [] ≡ i ∷ [] → ⊥
no_start [] j i some is = some refl
no_start (x ∷ xs) j i some is = some_name xs j (ap tail_of is)

-- a child's name tells the parent's, and the number
pub name_parts : (m n : List ℕ) (j k : ℕ) → m ++ j ∷ [] ≡ n ++ k ∷ [] → (m ≡ n) × (j ≡ k)
name_parts [] [] j k is = (refl, ap first_of is)
name_parts [] (y ∷ ys) j k is = absurd (some_name ys k (sym (ap tail_of is)))
name_parts (x ∷ xs) [] j k is = absurd (some_name xs j (ap tail_of is))
name_parts (x ∷ xs) (y ∷ ys) j k is =
    let rest = name_parts xs ys j k (ap tail_of is) in
    (ap (λ (z : ℕ). z ∷ xs) (ap first_of is) ∙ ap (λ (zs : List ℕ). y ∷ zs) rest.0, rest.1)
