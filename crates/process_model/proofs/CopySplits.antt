-- Laws that split a kernel copy in two: copyin of m + n bytes, or copyout of two lists of bytes, is the copy of the first
-- part, continued with the second; and laws that split the list of its addresses.
use Rattle.std.proofs.Common.{◌≡◌, ℕ, zero, suc, ◌+◌, refl, ap, ◌∙◌, arith, List, [], ◌∷◌, ◌++◌, length}
use Rattle.std.specs.Prelude.{zip}
use Rattle.std.proofs.lemmas.List.Sums.{fold-append}
use Rattle.process_model.specs.Environment.{Environment, Progress}
use Rattle.process_model.specs.Bytes.{numbers_from}
use Rattle.process_model.proofs.CopyRuns.{more_in, more_out}
use Rattle.process_model.specs.Copies.{copied_in, copied_out, copy_begun, next_in, next_out}

-- consecutive numbers: the first m, then the n after them
pub numbers_split : (x m n : ℕ) → numbers_from x (m + n) ≡ numbers_from x m ++ numbers_from (x + m) n
numbers_split x zero n = let none : 0 + n ≡ n = omega arith in let here : x + 0 ≡ x = omega arith in rw (none, here) refl
numbers_split x (suc m) n =
    let more : suc m + n ≡ suc (m + n) = omega arith in
    let there : x + suc m ≡ x + 1 + m = omega arith in
    rw (more, there) (ap (λ xs. x ∷ xs) (numbers_split (x + 1) m n))

-- bytes with their addresses: those of the first list, then those of the second
pub places_split : (x : ℕ) (front back : List ℕ) → zip (numbers_from x (length (front ++ back))) (front ++ back)
    ≡ zip (numbers_from x (length front)) front ++ zip (numbers_from (x + length front) (length back)) back
places_split x [] back = let here : x + 0 ≡ x = omega arith in rw here refl
places_split x (b ∷ front) back =
    let there : x + suc (length front) ≡ x + 1 + length front = omega arith in
    rw there (ap (λ xs. (x, b) ∷ xs) (places_split (x + 1) front back))

module _ (a : Environment) (g : Progress) (address : ℕ) where
  -- copyin of m + n bytes: the first m, continued with the n after them
  pub copied_in_split : (m n : ℕ) → copied_in a g address (m + n)
      ≡ more_in a (more_in a (copy_begun g) (numbers_from address m)) (numbers_from (address + m) n)
  unfolding copied_in
  copied_in_split m n =
      ap (more_in a (copy_begun g)) (numbers_split address m n)
      ∙ fold-append (λ d at. next_in a d at d.stop) (copy_begun g) (numbers_from address m) (numbers_from (address + m) n)

  -- copyout of two lists of bytes: the first, continued with the second
  pub copied_out_split : (front back : List ℕ) → copied_out a g address (front ++ back)
      ≡ more_out a (more_out a (copy_begun g) (zip (numbers_from address (length front)) front))
      (zip (numbers_from (address + length front) (length back)) back)
  unfolding copied_out
  copied_out_split front back =
      let places = zip (numbers_from address (length front)) front in
      let others = zip (numbers_from (address + length front) (length back)) back in
      ap (more_out a (copy_begun g)) (places_split address front back) ∙ fold-append (λ d x. next_out a d x d.stop) (copy_begun g) places others
