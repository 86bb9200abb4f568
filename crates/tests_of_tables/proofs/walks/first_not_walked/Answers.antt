use Rattle.std.proofs.Common.{[]}
use Rattle.tests_of_tables.proofs.TableSteps.{same_view}
use Rattle.tests_of_tables.proofs.walks.first_not_walked.Goals as goal

pub walked-preserved : goal.walked-preserved
walked-preserved c =
    let i = c.walked.invariant in
    let stays = c.lookup.ensures.stays in
    record { rule = stays.4 [] i.rule; tables = (i.tables.0, same_view _ _ _ _ stays.3 i.tables.1) }
