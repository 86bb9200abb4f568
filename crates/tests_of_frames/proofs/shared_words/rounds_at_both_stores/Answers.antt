use Rattle.shared_frames.specs.SeatsOfTable.{fits_still, may_step}
use Rattle.tests_of_frames.proofs.shared_words.rounds_at_both_stores.Goals as goal

pub round-requires-2-clause-fits : goal.round-requires-2-clause-fits
round-requires-2-clause-fits g c = may_step _ _ c.in_ok-frames.seat c.supply.ensures c.in_ok-frames.ensures.fits

pub close-requires : goal.close-requires
close-requires g c = (fits_still _ _ _ c.in_ok-frames.seat c.round-2.new.seat c.supply.ensures c.round-2.ensures.keeps c.in_ok-frames.ensures.fits).1
