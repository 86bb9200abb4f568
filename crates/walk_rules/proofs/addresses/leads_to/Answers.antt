use Rattle.std.proofs.Common.{◌≡◌, ◌*◌, ◌/◌, ◌%◌, ◌^◌, ◌<◌, ◌≤◌, arith}
use Rattle.std.proofs.Math.Nat.{div-mul-le_self, mod-lt, pow-le-pow_right}
use Rattle.std.proofs.lemmas.Nat.{pow_pos}
use Rattle.walk_rules.proofs.Shifts.{joined_lt}
use Rattle.walk_rules.proofs.addresses.leads_to.Goals as goal

pub returns-clause-small : goal.returns-clause-small
returns-clause-small c =
    let r = c.reach-bits.result in
    let n = c.ppn.result * 4096 % 18446744073709551616 in
    let low : n < 2 ^ 56 = omega (arith, c.ppn.ensures.small) in
    let le : r ≤ 48 = c.reach-bits.ensures.few.1 in
    let power : 2 ^ r ≤ 2 ^ 48 = pow-le-pow_right {n = 2} (omega arith) {i = r} {j = 48} le in
    let size : 1 * 2 ^ r % 18446744073709551616 ≡ 2 ^ r = omega arith in
    let upper : n / 2 ^ r * 2 ^ r ≤ n = div-mul-le_self n (2 ^ r) in
    let whole : n / 2 ^ r * 2 ^ r % 18446744073709551616 ≡ n / 2 ^ r * 2 ^ r = omega arith in
    rw (size, whole) (joined_lt 56 r n (c.args.va.0 % 2 ^ r) (omega arith) low (mod-lt c.args.va.0 (pow_pos r)))
