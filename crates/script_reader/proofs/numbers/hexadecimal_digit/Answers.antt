use Rattle.std.proofs.Common.{ℕ, ◌≡◌, ◌<◌, ◌≤◌, refl, ap, ◌∙◌, Some, None, Option, arith}
use Rattle.script_language.specs.Numbers.{digit_of}
use Rattle.script_reader.specs.Digits.{value_or_255}
use Rattle.script_reader.proofs.Digits.{is_small}
use Rattle.script_reader.proofs.numbers.hexadecimal_digit.Goals as goal

some : (o : Option ℕ) (v : ℕ) → v ≡ value_or_255 o → v < 16 → Some v ≡ o
some None v is lt = absurd (omega (arith, is, lt))
some (Some d) v is lt = ap (λ (n : ℕ). Some n) is

none : (o : Option ℕ) (v : ℕ) → ((d : ℕ) → o ≡ Some d → d < 16) → v ≡ value_or_255 o → 16 ≤ v → None ≡ o
none None v small is ge = refl
none (Some d) v small is ge = let lt = small d refl in absurd (omega (arith, is, lt, ge))

pub returns-then-value-lt16 : goal.returns-then-value-lt16
returns-then-value-lt16 c = some (digit_of 16 c.args.byte) c.from.result (c.from.ensures ∙ c.hexadecimal_value-value.ensures) (omega (arith, c.from.ensures, c.if-value-lt16.true))

pub returns-else-value-lt16 : goal.returns-else-value-lt16
returns-else-value-lt16 c = none (digit_of 16 c.args.byte) c.hexadecimal_value-value.result (is_small 16 c.args.byte) c.hexadecimal_value-value.ensures (omega (arith, c.if-value-lt16.false))
