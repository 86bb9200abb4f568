use Rattle.std.proofs.Common.{◌≡◌, ℕ, ◌*◌, ◌/◌, ◌%◌, ◌^◌, ◌<◌, ◌≤◌, sym, ap, arith}
use Rattle.std.proofs.Math.Nat.{pow-le-pow_right, div-eq_of_lt}
use Rattle.sv39_entry.proofs.address.Vpn.index.Goals as goal

-- a page number has no bits from 54 on
none_above : (n level : ℕ) → n < 2 ^ 52 → 5 < level → n / 2 ^ (9 * level) ≡ 0
none_above n level small high =
    let above : 2 ^ 54 ≤ 2 ^ (9 * level) = pow-le-pow_right {n = 2} (omega arith) {i = 54} {j = 9 * level} (omega arith) in
    let below : n < 2 ^ (9 * level) = omega arith in
    div-eq_of_lt below

pub returns-then-level-gt5-clause-value : goal.returns-then-level-gt5-clause-value
returns-then-level-gt5-clause-value c = sym (ap (λ (n : ℕ). n % 2 ^ 9) (none_above c.args.self c.args.level (omega (arith, c.self.invariant, c.self.view_is)) c.if-level-gt5.true))
