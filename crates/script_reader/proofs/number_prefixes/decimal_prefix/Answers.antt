use Rattle.std.proofs.Common.{ℕ, List, ◌+◌, ◌*◌, ◌∷◌, ◌≤◌, subst, sym, arith}
use Rattle.script_reader.specs.NumberPrefixes.{IsNumberPrefix}
use Rattle.script_reader.proofs.Digits.{said_digit}
use Rattle.script_reader.proofs.PrefixNumbers.{front_goes_on}
use Rattle.script_reader.proofs.number_prefixes.decimal_prefix.Goals as goal

pub digits-preserved : goal.digits-preserved
digits-preserved c =
    let text = c.args.text.now in
    let after = c.in-Some.after.now in
    let n = c.digits.value in
    let b = c.in-Some.byte.now in
    let d = c.decimal_value-digit.result in
    let small : d ≤ 9 = omega (arith, c.if-digit-gt9.false) in
    let here : IsNumberPrefix 10 text (b ∷ after) n = subst (λ (r : List ℕ). IsNumberPrefix 10 text r n) c.in-Some.ensures.cases.0 c.digits.invariant.front in
    record {
      front = subst (λ (k : ℕ). IsNumberPrefix 10 text after (n * 10 + k)) (sym c.from.ensures) (front_goes_on 10 b d n text after (said_digit 10 b d c.decimal_value-digit.ensures (omega (arith, small))) here);
      small = omega (arith, c.if-value.false, c.from.ensures, small);
    }
