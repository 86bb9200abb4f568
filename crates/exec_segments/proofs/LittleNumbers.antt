-- A lemma (`field_is`): the little-endian number of n bytes that the byte reader finds at an offset is the model's.
use Rattle.std.proofs.Common.{◌≡◌, ℕ, zero, suc, ◌+◌, ◌*◌, ◌-◌, List, [], ◌∷◌, drop, length, take, slice_index, refl, ap, ◌∙◌, arith}
use Rattle.std.proofs.lemmas.List.{length-drop, take_all}
use Rattle.process_model.specs.Bytes.{number}
use Rattle.byteorder.specs.Endian.{little_from, little_number}

nothing : (n : ℕ) → number [] n ≡ 0
unfolding number
nothing zero = refl
nothing (suc n) = refl

one_byte : (n i : ℕ) (xs : List ℕ) → slice_index xs i + 256 * number (drop (suc i) xs) n ≡ number (drop i xs) (suc n)
unfolding number
one_byte n zero [] = rw (nothing n) refl
one_byte n zero (x ∷ xs) = refl
one_byte n (suc i) [] = rw (nothing n) refl
one_byte n (suc i) (x ∷ xs) = one_byte n i xs

number_from : (n i : ℕ) (xs : List ℕ) → little_from i n xs ≡ number (drop i xs) n
unfolding number
number_from zero i xs = refl
number_from (suc n) i xs = ap (λ m. slice_index xs i + 256 * m) (number_from n (suc i) xs) ∙ one_byte n i xs

number_is : (n : ℕ) (xs : List ℕ) → little_number n xs ≡ number xs n
number_is n xs = number_from n 0 xs

-- the field that is read at a place
pub field_is : (bytes : List ℕ) (at n : ℕ) → little_number n (take (length bytes - at) (drop at bytes)) ≡ number (drop at bytes) n
field_is bytes at n = number_is n _ ∙ ap (λ xs. number xs n) (take_all (length bytes - at) (drop at bytes) (omega (arith, length-drop at bytes)))
