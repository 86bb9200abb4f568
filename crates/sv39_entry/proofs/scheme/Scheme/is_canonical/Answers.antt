use Rattle.std.proofs.Common.{arith}
use Rattle.sv39_entry.proofs.Canonical.{canonical}
use Rattle.sv39_entry.proofs.scheme.Scheme.is_canonical.Goals as goal

pub returns-clause-bits : goal.returns-clause-bits
returns-clause-bits c = rw c.has_equal_upper_bits.ensures (canonical c.args.self c.args.va.0 (omega arith))
