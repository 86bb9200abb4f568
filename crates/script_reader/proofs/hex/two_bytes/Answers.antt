use Rattle.std.proofs.Common.{ap, ◌∙◌, refl, arith}
use Rattle.script_language.specs.Numbers.{pairs_of}
use Rattle.script_reader.proofs.Digits.{said_digit}
use Rattle.script_reader.proofs.Pairs.{two_first}
use Rattle.script_reader.proofs.hex.two_bytes.Goals as goal

pub returns-clause-bytes : goal.returns-clause-bytes
returns-clause-bytes c =
    let low = c.if-not-are_digits.ensures refl in
    let first = low.0 in
    let second = low.1 in
    let third = low.2 in
    let fourth = low.3 in
    ap pairs_of c.in_ok-a.ensures ∙ two_first c.in_ok-a.a c.in_ok-a.b c.in_ok-a.c c.in_ok-a.d
    c.hexadecimal_value-a.result c.hexadecimal_value-b.result c.hexadecimal_value-c.result c.hexadecimal_value-d.result c.in_ok-a.rest.now
    (said_digit 16 c.in_ok-a.a c.hexadecimal_value-a.result c.hexadecimal_value-a.ensures (omega (arith, first)))
    (said_digit 16 c.in_ok-a.b c.hexadecimal_value-b.result c.hexadecimal_value-b.ensures (omega (arith, second)))
    (said_digit 16 c.in_ok-a.c c.hexadecimal_value-c.result c.hexadecimal_value-c.ensures (omega (arith, third)))
    (said_digit 16 c.in_ok-a.d c.hexadecimal_value-d.result c.hexadecimal_value-d.ensures (omega (arith, fourth)))
