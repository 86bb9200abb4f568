-- Lemmas for the parser of HEX fields: bytes read so far and then the next one or the next two, against the model's reading
-- of pairs of digits; and the first four digits are read as two bytes.
use Rattle.std.proofs.Common.{◌≡◌, ℕ, ◌+◌, ◌*◌, List, [], ◌∷◌, ◌++◌, Option, Some, None, refl, ap, ◌∙◌, append_assoc}
use Rattle.script_language.specs.Numbers.{byte_of, digit_of, pairs_of, then_bytes}

-- bytes, and then those
abbrev pub onto : List ℕ → Option (List ℕ) → Option (List ℕ)
onto bytes None = None
onto bytes (Some more) = Some (bytes ++ more)

pub onto-then : (bytes : List ℕ) (b : ℕ) (more : Option (List ℕ)) → onto bytes (then_bytes (Some b) more) ≡ onto (bytes ++ b ∷ []) more
onto-then bytes b None = refl
onto-then bytes b (Some more) = ap (λ (xs : List ℕ). Some xs) (simp append_assoc)

pub onto-two : (bytes : List ℕ) (a b : ℕ) (more : Option (List ℕ)) → onto bytes (then_bytes (Some a) (then_bytes (Some b) more)) ≡ onto ((bytes ++ a ∷ []) ++ b ∷ []) more
onto-two bytes a b more = onto-then bytes a (then_bytes (Some b) more) ∙ onto-then (bytes ++ a ∷ []) b more

-- the byte of two digits
joined : (o p : Option ℕ) (v w : ℕ) → o ≡ Some v → p ≡ Some w → byte_of o p ≡ Some (v * 16 + w)
joined o p v w high low = rw (high, low) refl

pair_first : (a b v w : ℕ) (rest : List ℕ) → digit_of 16 a ≡ Some v → digit_of 16 b ≡ Some w → pairs_of (a ∷ b ∷ rest) ≡ then_bytes (Some (v * 16 + w)) (pairs_of rest)
pair_first a b v w rest high low = ap (λ (o : Option ℕ). then_bytes o (pairs_of rest)) (joined (digit_of 16 a) (digit_of 16 b) v w high low)

-- two bytes of four digits, and then others
pub two_first : (a b c d v w x y : ℕ) (rest : List ℕ) → digit_of 16 a ≡ Some v → digit_of 16 b ≡ Some w → digit_of 16 c ≡ Some x → digit_of 16 d ≡ Some y
    → pairs_of (a ∷ b ∷ c ∷ d ∷ rest) ≡ then_bytes (Some (v * 16 + w)) (then_bytes (Some (x * 16 + y)) (pairs_of rest))
two_first a b c d v w x y rest first second third fourth =
    pair_first a b v w (c ∷ d ∷ rest) first second ∙ ap (then_bytes (Some (v * 16 + w))) (pair_first c d x y rest third fourth)
