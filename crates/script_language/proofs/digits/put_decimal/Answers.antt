use Rattle.std.proofs.Common.{ℕ, ◌+◌, ◌/◌, ◌%◌, List, [], ◌∷◌, ◌++◌, append_assoc, sym, ap, ◌∙◌, arith}
use Rattle.std.proofs.lemmas.Fmt.{decimal_digit}
use Rattle.script_language.proofs.Decimal.{decimal_two_digits}
use Rattle.script_language.proofs.digits.put_decimal.Goals as goal

pub returns-then-number-lt10-clause-text : goal.returns-then-number-lt10-clause-text
returns-then-number-lt10-clause-text c =
    c.push_reserved.ensures.items ∙ ap (λ (l : List ℕ). c.args.text.now.items ++ l) (sym (decimal_digit c.args.number (omega arith)))

pub returns-then-number-lt100-clause-text : goal.returns-then-number-lt100-clause-text
returns-then-number-lt100-clause-text c =
    let n = c.args.number in
    let is = decimal_two_digits n (omega (arith, c.if-number-lt10.false)) (omega (arith, c.if-number-lt100.true)) in
    c.push_reserved-then-number-lt100-2.ensures.items ∙ ap (λ (l : List ℕ). l ++ (48 + n % 10) ∷ []) c.push_reserved-then-number-lt100.ensures.items
    ∙ append_assoc c.args.text.now.items ((48 + n / 10) ∷ []) ((48 + n % 10) ∷ []) ∙ ap (λ (l : List ℕ). c.args.text.now.items ++ l) (sym is)
