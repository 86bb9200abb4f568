use Rattle.std.proofs.Common.{arith}
use Rattle.std.proofs.Math.Seq.{take-set-lt}
use Rattle.mmu.proofs.protection.PmpEntries.set.Goals as goal

pub returns-then-number-min : goal.returns-then-number-min
returns-then-number-min c = take-set-lt c.args.self.now.count c.args.self.now.entries c.args.number c.args.entry (omega (arith, c.if-number-min.true, c.min.ensures))
