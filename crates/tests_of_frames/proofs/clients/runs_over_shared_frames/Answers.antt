use Rattle.frame_store.specs.Holds.{opening_holds}
use Rattle.shared_frames.specs.SeatsOfTable.{fits_still, may_step}
use Rattle.tests_of_frames.proofs.clients.runs_over_shared_frames.Goals as goal

pub word_through_a_new_seat-requires-clause-fits : goal.word_through_a_new_seat-requires-clause-fits
word_through_a_new_seat-requires-clause-fits g c = may_step _ _ c.in_ok-frames.seat c.supply-supply.ensures c.in_ok-frames.ensures.fits

pub word_through_a_new_seat-requires-clause-anchored : goal.word_through_a_new_seat-requires-clause-anchored
word_through_a_new_seat-requires-clause-anchored g c = opening_holds _ c.in_ok-frames.ensures.view

pub word_through_a_new_seat-refused-requires-clause-fits : goal.word_through_a_new_seat-refused-requires-clause-fits
word_through_a_new_seat-refused-requires-clause-fits g c =
    let s = fits_still _ _ _ c.in_ok-frames.seat c.word_through_a_new_seat.new.seat c.supply-supply.ensures c.word_through_a_new_seat.ensures.keeps c.in_ok-frames.ensures.fits in
    may_step _ _ c.word_through_a_new_seat.new.seat s.0 s.1

pub close-totals-requires : goal.close-totals-requires
close-totals-requires g c =
    let s = fits_still _ _ _ c.in_ok-frames.seat c.word_through_a_new_seat.new.seat c.supply-supply.ensures c.word_through_a_new_seat.ensures.keeps c.in_ok-frames.ensures.fits in
    (fits_still _ _ _ c.word_through_a_new_seat.new.seat c.word_through_a_new_seat-refused.new.seat s.0 c.word_through_a_new_seat-refused.ensures.keeps s.1).1
