use Rattle.std.proofs.Common.{◌≤◌, length, arith}
use Rattle.access_judge.specs.Findings.{told_in}
use Rattle.access_judge.proofs.ListedOutcomes.{none_told}
use Rattle.access_judge.proofs.findings.Findings.has.Goals as goal

pub returns-clause-not_found : goal.returns-clause-not_found
returns-clause-not_found c is =
    let all : length (told_in c.args.self.now) ≤ c.told.told-index = omega (arith, c.told-test.false, c.deref-told-items.ensures.len) in
    none_told (told_in c.args.self.now) c.told.told-index c.args.outcome all c.told.invariant
