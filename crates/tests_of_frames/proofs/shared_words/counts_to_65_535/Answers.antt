use Rattle.frame_store.specs.Holds.{opening_holds}
use Rattle.shared_frames.specs.SeatsOfTable.{may_step}
use Rattle.tests_of_frames.proofs.shared_words.counts_to_65_535.Goals as goal

pub shared_to_the_most-requires-clause-fits : goal.shared_to_the_most-requires-clause-fits
shared_to_the_most-requires-clause-fits g c = may_step _ _ c.in_ok-frames.seat c.supply.ensures c.in_ok-frames.ensures.fits

pub shared_to_the_most-requires-clause-anchored : goal.shared_to_the_most-requires-clause-anchored
shared_to_the_most-requires-clause-anchored g c = opening_holds _ c.in_ok-frames.ensures.view
