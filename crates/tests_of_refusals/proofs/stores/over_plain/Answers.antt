use Rattle.frame_store.specs.Holds.{opening_holds}
use Rattle.tests_of_refusals.proofs.stores.over_plain.Goals as goal

pub played_over-requires-clause-anchored : goal.played_over-requires-clause-anchored
played_over-requires-clause-anchored c = opening_holds _ c.in_ok-store.ensures.seat
