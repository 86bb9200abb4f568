use Rattle.std.proofs.Common.{◌≡◌, ℕ, not, Option, None, Some, length, List, get_or, sym, ◌∙◌, arith}
use Rattle.std.specs.List.{position_or_len}
use Rattle.std.specs.Option.{unwrap_or}
use Rattle.std.proofs.lemmas.List.Sums.{prefix_len_is}
use Rattle.std.proofs.lemmas.Bool.{not_from_false, not_from_true, false_from_ne_true}
use Rattle.memchr.specs.Find.{IsFirstByte, is_byte2}
use Rattle.script_language.specs.Lines.{is_blank}
use Rattle.script_reader.proofs.lines.field_len.Goals as goal

first_is : (text : List ℕ) (r : Option ℕ) → IsFirstByte (is_byte2 32 9) text r → unwrap_or r (length text) ≡ position_or_len is_blank text
first_is text None h = sym (prefix_len_is (λ b. not (is_blank b)) text (length text) 0 (omega arith) (λ k lt. not_from_false (is_blank (get_or text k 0)) (false_from_ne_true _ (h k (omega arith) lt))) (λ lt. absurd (omega arith)))
first_is text (Some n) h =
    sym (prefix_len_is (λ b. not (is_blank b)) text n 0 (omega (arith, h.0.high)) (λ k lt. not_from_false (is_blank (get_or text k 0)) (false_from_ne_true _ (h.0.before k (omega arith) lt))) (λ lt. not_from_true (is_blank (get_or text n 0)) h.1))

pub returns : goal.returns
returns c = c.unwrap_or.ensures ∙ first_is c.args.line.now c.memchr2.result c.memchr2.ensures
