use Rattle.std.proofs.Common.{◌≡◌, ℕ, List, ◌∷◌, ◌+◌, ◌*◌, ◌≤◌, ap, length, subst, sym, ◌∙◌, arith}
use Rattle.script_reader.specs.NumberPrefixes.{IsNumberPrefix}
use Rattle.script_reader.proofs.Digits.{said_digit}
use Rattle.script_reader.proofs.PrefixNumbers.{front_begins, front_goes_on}
use Rattle.script_reader.proofs.number_prefixes.one_digit.Goals as goal

pub returns : goal.returns
returns c =
    let text = c.args.text.now in
    let rest = c.in_ok-byte.rest.now in
    let b = c.in_ok-byte.byte.now in
    let d = c.decimal_value-digit.result in
    let small : d ≤ 9 = omega (arith, c.if-digit-gt9.false) in
    let whole : text ≡ b ∷ rest = c.in_ok-byte.ensures.cases.0 in
    let here : IsNumberPrefix 10 text (b ∷ rest) 0 = subst (λ (r : List ℕ). IsNumberPrefix 10 text r 0) whole (front_begins 10 text) in
    let front = front_goes_on 10 b d 0 text rest (said_digit 10 b d c.decimal_value-digit.ensures (omega (arith, small))) here in
    let is : 0 * 10 + d ≡ c.from.result = omega (arith, c.from.ensures) in
    record {
      front = subst (IsNumberPrefix 10 text rest) is front;
      some = omega (arith, ap length whole);
      ends = sym c.is_end.ensures ∙ c.if-not-is_end.false;
      small = omega (arith, c.from.ensures, small);
    }
