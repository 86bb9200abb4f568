-- Lemma: the place of the first of a byte, as the code looks for it, or the length of the text if it has none.
use Rattle.std.proofs.Common.{◌≡◌, ℕ, not, eqb, Option, None, Some, length, List, get_or, sym, arith}
use Rattle.std.specs.List.{position_or_len}
use Rattle.std.specs.Option.{unwrap_or}
use Rattle.std.proofs.lemmas.List.Sums.{prefix_len_is}
use Rattle.std.proofs.lemmas.Bool.{not_from_false, not_from_true, false_from_ne_true}
use Rattle.memchr.specs.Find.{IsFirstByte, is_byte}

pub first_is : (b : ℕ) (text : List ℕ) (r : Option ℕ) → IsFirstByte (is_byte b) text r → unwrap_or r (length text) ≡ position_or_len (λ a. eqb a b) text
first_is b text None h =
    sym (prefix_len_is (λ a. not (eqb a b)) text (length text) 0 (omega arith) (λ k lt. not_from_false (eqb (get_or text k 0) b) (false_from_ne_true _ (h k (omega arith) lt))) (λ lt. absurd (omega arith)))
first_is b text (Some n) h =
    sym (prefix_len_is (λ a. not (eqb a b)) text n 0 (omega (arith, h.0.high)) (λ k lt. not_from_false (eqb (get_or text k 0) b) (false_from_ne_true _ (h.0.before k (omega arith) lt))) (λ lt. not_from_true (eqb (get_or text n 0) b) h.1))
