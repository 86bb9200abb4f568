use Rattle.tests_of_processes.proofs.Opening.{opens}
use Rattle.tests_of_processes.proofs.stores.over_plain.Goals as goal

pub lived-requires-clause-opening : goal.lived-requires-clause-opening
lived-requires-clause-opening g c = opens _ c.in_ok-store.ensures.seat
