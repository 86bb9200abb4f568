use Rattle.std.proofs.Common.{ℕ, ◌≤◌, ◌*◌, ◌^◌, sym, ◌∙◌, get_or, arith}
use Rattle.script_language.specs.Numbers.{digit_of}
use Rattle.script_reader.proofs.Digits.{stops, over_product, over_digit}
use Rattle.script_reader.proofs.numbers.hexadecimal.Goals as goal

pub returns-in_err-digit : goal.returns-in_err-digit
returns-in_err-digit c =
    let b : ℕ = 16 in
    let ds = c.args.digits.now in
    let i = c.loop-byte.byte-index in
    let v = c.loop-byte.value in
    c.from_residual.ensures ∙ stops b v i ds _ c.loop-byte-test.true (omega arith) (over_digit b v (digit_of b (get_or ds i 0)) (sym c.in_err-digit.ensures)) c.loop-byte.invariant.says

pub returns-then-value : goal.returns-then-value
returns-then-value c =
    let b : ℕ = 16 in
    let ds = c.args.digits.now in
    let i = c.loop-byte.byte-index in
    let v = c.loop-byte.value in
    let over : 2 ^ 64 ≤ v * b = omega (arith, c.if-value.true) in
    stops b v i ds _ c.loop-byte-test.true (omega arith) (over_product b v (digit_of b (get_or ds i 0)) over) c.loop-byte.invariant.says
