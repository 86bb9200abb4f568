use Rattle.tests_of_processes.proofs.Opening.{opens}
use Rattle.tests_of_processes.proofs.kernel_table.over_plain.Goals as goal

pub first_wrong-requires-clause-opening : goal.first_wrong-requires-clause-opening
first_wrong-requires-clause-opening c = opens _ c.in_ok-store.ensures.seat
