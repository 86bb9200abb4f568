use Rattle.std.proofs.Common.{ℕ, List, ◌∷◌, refl, subst, arith}
use Rattle.script_reader.specs.NumberPrefixes.{IsNumberPrefix}
use Rattle.script_reader.proofs.Digits.{said_digit}
use Rattle.script_reader.proofs.PrefixNumbers.{four_go_on}
use Rattle.script_reader.proofs.number_prefixes.four_digits.Goals as goal

pub returns-clause-more : goal.returns-clause-more
returns-clause-more c whole n front =
    let low = c.if-not-are_digits.ensures refl in
    let first = low.0 in
    let second = low.1 in
    let third = low.2 in
    let fourth = low.3 in
    let here : IsNumberPrefix 16 whole (c.in_ok-a.a ∷ c.in_ok-a.b ∷ c.in_ok-a.c ∷ c.in_ok-a.d ∷ c.in_ok-a.rest.now) n = subst (λ (r : List ℕ). IsNumberPrefix 16 whole r n) c.in_ok-a.ensures front in
    rw (c.from.ensures, c.from-2.ensures, c.from-3.ensures, c.from-4.ensures) (four_go_on c.in_ok-a.a c.in_ok-a.b c.in_ok-a.c c.in_ok-a.d
    c.hexadecimal_value-a.result c.hexadecimal_value-b.result c.hexadecimal_value-c.result c.hexadecimal_value-d.result n whole c.in_ok-a.rest.now
    (said_digit 16 c.in_ok-a.a c.hexadecimal_value-a.result c.hexadecimal_value-a.ensures (omega (arith, first)))
    (said_digit 16 c.in_ok-a.b c.hexadecimal_value-b.result c.hexadecimal_value-b.ensures (omega (arith, second)))
    (said_digit 16 c.in_ok-a.c c.hexadecimal_value-c.result c.hexadecimal_value-c.ensures (omega (arith, third)))
    (said_digit 16 c.in_ok-a.d c.hexadecimal_value-d.result c.hexadecimal_value-d.ensures (omega (arith, fourth)))
    here)
