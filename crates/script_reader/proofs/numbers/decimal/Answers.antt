use Rattle.std.proofs.Common.{ℕ, ◌≤◌, ◌*◌, ◌+◌, ◌^◌, sym, ◌∙◌, get_or, arith}
use Rattle.script_language.specs.Numbers.{digit_of}
use Rattle.script_reader.proofs.Digits.{stops, whole, over_product, over_sum, over_digit}
use Rattle.script_reader.proofs.numbers.decimal.Goals as goal

pub returns-in_err-checked_mul : goal.returns-in_err-checked_mul
returns-in_err-checked_mul c =
    let b : ℕ = 10 in
    let ds = c.args.digits.now in
    let i = c.loop-byte.byte-index in
    let v = c.loop-byte.value in
    let over : 2 ^ 64 ≤ v * b = omega (arith, c.in_err-checked_mul.ensures) in
    c.from_residual.ensures ∙ stops b v i ds _ c.loop-byte-test.true (omega arith) (over_product b v (digit_of b (get_or ds i 0)) over) c.loop-byte.invariant.says

pub returns-in_err-decimal_digit : goal.returns-in_err-decimal_digit
returns-in_err-decimal_digit c =
    let b : ℕ = 10 in
    let ds = c.args.digits.now in
    let i = c.loop-byte.byte-index in
    let v = c.loop-byte.value in
    c.from_residual-in_err-decimal_digit.ensures ∙ stops b v i ds _ c.loop-byte-test.true (omega arith) (over_digit b v (digit_of b (get_or ds i 0)) (sym c.in_err-decimal_digit.ensures)) c.loop-byte.invariant.says

pub returns-in_err-value : goal.returns-in_err-value
returns-in_err-value c =
    let b : ℕ = 10 in
    let ds = c.args.digits.now in
    let i = c.loop-byte.byte-index in
    let v = c.loop-byte.value in
    let d = c.in_ok-decimal_digit.field-0 in
    let over : 2 ^ 64 ≤ v * b + d = omega (arith, c.in_err-value.ensures, c.in_ok-checked_mul.ensures) in
    c.from_residual-in_err-value.ensures ∙ stops b v i ds _ c.loop-byte-test.true (omega arith) (over_sum b v d (digit_of b (get_or ds i 0)) (sym c.in_ok-decimal_digit.ensures) over) c.loop-byte.invariant.says

pub returns : goal.returns
returns c = whole 10 c.loop-byte.value c.loop-byte.byte-index c.args.digits.now _ (omega arith) c.loop-byte.invariant.small c.loop-byte.invariant.says
