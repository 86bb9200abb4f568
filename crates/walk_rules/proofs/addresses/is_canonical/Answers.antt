use Rattle.std.proofs.Common.{arith}
use Rattle.walk_rules.proofs.Canonical.{canonical}
use Rattle.walk_rules.proofs.addresses.is_canonical.Goals as goal

pub returns-clause-bits : goal.returns-clause-bits
returns-clause-bits c = rw c.has_equal_upper_bits.ensures (canonical c.args.top c.args.va.0 (omega (arith, c.requires)) (omega arith))
