use Rattle.std.proofs.Common.{◌≡◌, ◌+◌, ◌-◌, ◌*◌, ◌/◌, ◌^◌, arith}
use Rattle.std.proofs.lemmas.Nat.Bits.{ones_shr}
use Rattle.walk_rules.proofs.addresses.has_equal_upper_bits.Goals as goal

pub returns-else-upper-eq0 : goal.returns-else-upper-eq0
returns-else-upper-eq0 c =
    let ones : 18446744073709551615 / 2 ^ (20 + 9 * c.args.top) ≡ 2 ^ (64 - (20 + 9 * c.args.top)) - 1 =
    ones_shr 64 (20 + 9 * c.args.top) (omega (arith, c.requires)) in
    grind (arith, ones)
