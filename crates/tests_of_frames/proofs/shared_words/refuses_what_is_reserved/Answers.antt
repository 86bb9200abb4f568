use Rattle.std.proofs.Common.{◌∙◌}
use Rattle.frame_store.specs.Holds.{opening_holds}
use Rattle.shared_frames.specs.SeatsOfTable.{fits_still, fits_parted, may_step}
use Rattle.tests_of_frames.proofs.SeatSteps.{empty-anchored}
use Rattle.tests_of_frames.proofs.shared_words.refuses_what_is_reserved.Goals as goal

pub split-second-requires-clause-fits : goal.split-second-requires-clause-fits
split-second-requires-clause-fits g c = may_step _ _ c.in_ok-frames.first c.supply-supply.ensures c.in_ok-frames.ensures.fits

pub split-second-requires-clause-left_anchored : goal.split-second-requires-clause-left_anchored
split-second-requires-clause-left_anchored g c = λ _ _. opening_holds _ c.in_ok-frames.ensures.view

pub split-second-requires-clause-right_anchored : goal.split-second-requires-clause-right_anchored
split-second-requires-clause-right_anchored g c = empty-anchored _

pub reserve-requires : goal.reserve-requires
reserve-requires g c =
    let e = c.supply-supply.ensures in
    let p = fits_parted _ _ _ c.in_ok-frames.first c.split-second.new.seat c.split-second.result e c.split-second.ensures.same c.split-second.ensures.keeps c.in_ok-frames.ensures.fits in
    let is = c.split-second.ensures.same ∙ e in
    record { fits = may_step _ _ c.split-second.new.seat is p.0 }

pub reserve-requires-2 : goal.reserve-requires-2
reserve-requires-2 g c =
    let e = c.supply-supply.ensures in
    let p = fits_parted _ _ _ c.in_ok-frames.first c.split-second.new.seat c.split-second.result e c.split-second.ensures.same c.split-second.ensures.keeps c.in_ok-frames.ensures.fits in
    let is = c.split-second.ensures.same ∙ e in
    let q = fits_still _ _ _ c.split-second.new.seat c.reserve.new.seat is c.reserve.ensures.keeps p.0 in
    record { fits = may_step _ _ c.split-second.result q.0 p.1 }

pub give_back-requires-clause-fits : goal.give_back-requires-clause-fits
give_back-requires-clause-fits g c =
    let e = c.supply-supply.ensures in
    let p = fits_parted _ _ _ c.in_ok-frames.first c.split-second.new.seat c.split-second.result e c.split-second.ensures.same c.split-second.ensures.keeps c.in_ok-frames.ensures.fits in
    let is = c.split-second.ensures.same ∙ e in
    let q = fits_still _ _ _ c.split-second.new.seat c.reserve.new.seat is c.reserve.ensures.keeps p.0 in
    let r = fits_still _ _ _ c.split-second.result c.reserve-2.new.seat q.0 c.reserve-2.ensures.keeps p.1 in
    may_step _ _ c.reserve.new.seat r.0 q.1

pub reserve-requires-3 : goal.reserve-requires-3
reserve-requires-3 g c =
    let e = c.supply-supply.ensures in
    let p = fits_parted _ _ _ c.in_ok-frames.first c.split-second.new.seat c.split-second.result e c.split-second.ensures.same c.split-second.ensures.keeps c.in_ok-frames.ensures.fits in
    let is = c.split-second.ensures.same ∙ e in
    let q = fits_still _ _ _ c.split-second.new.seat c.reserve.new.seat is c.reserve.ensures.keeps p.0 in
    let r = fits_still _ _ _ c.split-second.result c.reserve-2.new.seat q.0 c.reserve-2.ensures.keeps p.1 in
    let u = fits_still _ _ _ c.reserve.new.seat c.give_back.new.seat r.0 c.give_back.ensures.keeps q.1 in
    record { fits = may_step _ _ c.reserve-2.new.seat u.0 r.1 }
