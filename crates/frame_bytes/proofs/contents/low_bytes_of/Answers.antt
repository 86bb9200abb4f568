use Rattle.std.proofs.Common.{◌≡◌, ◌*◌, ◌%◌, ◌^◌, ◌<◌, refl, arith}
use Rattle.frame_bytes.proofs.Widths.{by_width, width_most}
use Rattle.frame_bytes.proofs.contents.low_bytes_of.Goals as goal

pub overflow_mul-result : goal.overflow_mul-result
overflow_mul-result c = omega (arith, width_most c.args.width c.requires)

pub overflow_shl-result : goal.overflow_shl-result
overflow_shl-result c = omega (arith, width_most c.args.width c.requires)

pub nonzero_rem-result : goal.nonzero_rem-result
nonzero_rem-result c =
    by_width (λ w. (w ≡ 8 → ⊥) → 0 < 1 * 2 ^ (8 * w) % 18446744073709551616)
    (λ _. omega arith) (λ _. omega arith) (λ _. omega arith) (λ not. absurd (not refl)) c.args.width c.requires c.if-width-eq8.false
