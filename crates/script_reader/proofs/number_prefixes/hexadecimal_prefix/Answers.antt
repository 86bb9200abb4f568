use Rattle.std.proofs.Common.{ℕ, List, ◌+◌, ◌*◌, ◌∷◌, ◌≤◌, subst, sym, arith}
use Rattle.script_reader.specs.NumberPrefixes.{IsNumberPrefix}
use Rattle.script_reader.proofs.Digits.{said_digit}
use Rattle.script_reader.proofs.PrefixNumbers.{front_goes_on}
use Rattle.script_reader.proofs.number_prefixes.hexadecimal_prefix.Goals as goal

pub digits-preserved : goal.digits-preserved
digits-preserved c =
    let text = c.args.text.now in
    let after = c.in-Some-split_first.after.now in
    let n = c.digits.value in
    let b = c.in-Some-split_first.byte.now in
    let d = c.hexadecimal_value-digit.result in
    let small : d ≤ 15 = omega (arith, c.if-digit-gt15.false) in
    let here : IsNumberPrefix 16 text (b ∷ after) n = subst (λ (r : List ℕ). IsNumberPrefix 16 text r n) c.in-Some-split_first.ensures.cases.0 c.digits.invariant.front in
    record {
      front = subst (λ (k : ℕ). IsNumberPrefix 16 text after (n * 16 + k)) (sym c.from.ensures) (front_goes_on 16 b d n text after (said_digit 16 b d c.hexadecimal_value-digit.ensures (omega (arith, small))) here);
      small = omega (arith, c.if-value.false, c.from.ensures, small);
    }
