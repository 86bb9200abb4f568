use Rattle.frame_store.specs.Holds.{opening_holds}
use Rattle.shared_frames.specs.SeatsOfTable.{may_step}
use Rattle.tests_of_refusals.proofs.Seats.{fits_both}
use Rattle.tests_of_refusals.proofs.threads.totals_after.Goals as goal

pub begun-requires-clause-fits : goal.begun-requires-clause-fits
begun-requires-clause-fits g c = may_step _ _ c.in_ok-frames.seat c.supply.ensures c.in_ok-frames.ensures.fits

pub begun-requires-clause-anchored : goal.begun-requires-clause-anchored
begun-requires-clause-anchored g c = opening_holds _ c.in_ok-frames.ensures.view

pub jobs-requires : goal.jobs-requires
jobs-requires g c = record {
  ready = (
    (fits_both _ _ _ c.in_ok-frames.seat c.in_ok-parent.parent.seat c.begun.new.keeper c.supply.ensures c.in_ok-parent.ensures.keeps c.in_ok-frames.ensures.fits).0,
    c.in_ok-parent.ensures.alive,
  );
}

pub join_all-requires-clause-fits : goal.join_all-requires-clause-fits
join_all-requires-clause-fits g c κs within =
    (fits_both _ _ _ c.in_ok-frames.seat c.in_ok-parent.parent.seat c.begun.new.keeper c.supply.ensures c.in_ok-parent.ensures.keeps c.in_ok-frames.ensures.fits).1
