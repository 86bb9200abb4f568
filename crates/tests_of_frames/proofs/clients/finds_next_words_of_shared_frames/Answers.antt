use Rattle.frame_store.specs.Holds.{opening_holds}
use Rattle.shared_frames.specs.SeatsOfTable.{fits_still, may_step}
use Rattle.tests_of_frames.proofs.clients.finds_next_words_of_shared_frames.Goals as goal

pub first_not_found-wrong-requires-clause-fits : goal.first_not_found-wrong-requires-clause-fits
first_not_found-wrong-requires-clause-fits g c = may_step _ _ c.in_ok-frames.seat c.supply.ensures c.in_ok-frames.ensures.fits

pub first_not_found-wrong-requires-clause-anchored : goal.first_not_found-wrong-requires-clause-anchored
first_not_found-wrong-requires-clause-anchored g c = opening_holds _ c.in_ok-frames.ensures.view

pub close-totals-requires : goal.close-totals-requires
close-totals-requires g c =
    (fits_still _ _ _ c.in_ok-frames.seat c.first_not_found-wrong.new.seat c.supply.ensures c.first_not_found-wrong.ensures.keeps c.in_ok-frames.ensures.fits).1
