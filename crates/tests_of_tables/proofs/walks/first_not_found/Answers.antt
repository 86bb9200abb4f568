use Rattle.std.proofs.Common.{[]}
use Rattle.tests_of_tables.proofs.TableSteps.{same_view}
use Rattle.tests_of_tables.proofs.walks.first_not_found.Goals as goal

pub found-preserved : goal.found-preserved
found-preserved c =
    let i = c.found.invariant in
    record { rule = c.next_leaf_before-found.ensures.keeps [] i.rule; tables = (i.tables.0, same_view _ _ _ _ c.next_leaf_before-found.ensures.view i.tables.1) }
