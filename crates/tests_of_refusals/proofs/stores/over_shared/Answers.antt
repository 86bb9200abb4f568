use Rattle.frame_store.specs.Holds.{opening_holds}
use Rattle.shared_frames.specs.SeatsOfTable.{fits_still, may_step}
use Rattle.tests_of_refusals.proofs.stores.over_shared.Goals as goal

pub played_over-requires-clause-fits : goal.played_over-requires-clause-fits
played_over-requires-clause-fits g c = may_step _ _ c.in_ok-frames.seat c.supply-supply.ensures c.in_ok-frames.ensures.fits

pub played_over-requires-clause-anchored : goal.played_over-requires-clause-anchored
played_over-requires-clause-anchored g c = opening_holds _ c.in_ok-frames.ensures.view

pub close-requires : goal.close-requires
close-requires g c = (fits_still _ _ _ c.in_ok-frames.seat c.in_ok-played.seat c.supply-supply.ensures c.in_ok-played.ensures.keeps c.in_ok-frames.ensures.fits).1
