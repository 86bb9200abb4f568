use Rattle.std.proofs.Math.Seq.{take-set-lt}
use Rattle.std.proofs.Common.{arith, min, sym, ◌<◌, ◌≤◌}
use Rattle.lent_history.proofs.Protected.{set_past}
use Rattle.lent_history.proofs.pmp.PmpEntries.set.Goals as goal

pub returns-then-number-min-clause-entries : goal.returns-then-number-min-clause-entries
returns-then-number-min-clause-entries c =
    let less : c.args.number < min c.args.self.now.count 64 = omega (arith, c.min.ensures, c.if-number-min.true) in
    take-set-lt (min c.args.self.now.count 64) c.args.self.now.entries c.args.number c.args.entry less

pub returns-else-number-min-clause-entries : goal.returns-else-number-min-clause-entries
returns-else-number-min-clause-entries c =
    let more : min c.args.self.now.count 64 ≤ c.args.number = omega (arith, c.min.ensures, c.if-number-min.false) in
    sym (set_past (min c.args.self.now.count 64) c.args.self.now.entries c.args.number c.args.entry more)
