use Rattle.std.proofs.Common.{◌+◌, ◌≤◌, refl, arith}
use Rattle.walk_rules.proofs.NapotRegions.{napot_is, napot_made}
use Rattle.walk_rules.proofs.Shifts.{few_ones}
use Rattle.walk_rules.proofs.pmp.napot_region.Goals as goal

pub overflow_shr-first : goal.overflow_shr-first
overflow_shr-first c = rw c.trailing_ones-bits.ensures (omega (arith, few_ones c.args.number c.requires))

pub overflow_shl-first : goal.overflow_shl-first
overflow_shl-first c = rw c.trailing_ones-bits.ensures (omega (arith, few_ones c.args.number c.requires))

pub overflow_shl-result : goal.overflow_shl-result
overflow_shl-result c = rw c.trailing_ones-bits.ensures (omega (arith, few_ones c.args.number c.requires))

pub overflow_mul-result-2 : goal.overflow_mul-result-2
overflow_mul-result-2 c =
    let few : c.trailing_ones-bits.result ≤ 54 = rw c.trailing_ones-bits.ensures (few_ones c.args.number c.requires) in
    let made = napot_made c.args.number c.requires (c.trailing_ones-bits.result + 1) (omega arith) in
    rw (made.0, made.1) (omega (arith, made.2, made.3))

pub returns-clause-value : goal.returns-clause-value
returns-clause-value c =
    let few : c.trailing_ones-bits.result ≤ 54 = rw c.trailing_ones-bits.ensures (few_ones c.args.number c.requires) in
    let made = napot_made c.args.number c.requires (c.trailing_ones-bits.result + 1) (omega arith) in
    rw (made.0, made.1, c.trailing_ones-bits.ensures) refl

pub returns-clause-napot : goal.returns-clause-napot
returns-clause-napot c =
    let few : c.trailing_ones-bits.result ≤ 54 = rw c.trailing_ones-bits.ensures (few_ones c.args.number c.requires) in
    let made = napot_made c.args.number c.requires (c.trailing_ones-bits.result + 1) (omega arith) in
    let is = napot_is c.args.number c.requires in
    rw (made.0, made.1, c.trailing_ones-bits.ensures) is
