use Rattle.std.proofs.Common.{◌≤◌, [], ap, arith, lit<}
use Rattle.frame_store.specs.Laws.{fits_after}
use Rattle.frame_store.specs.Plain.{PlainState, PlainStateInvariant}
use Rattle.frame_store.specs.Holds.{opening_holds}
use Rattle.tests_of_frames.proofs.SeatSteps.{reserve-wider, reserve-credits, claim-apart, claim-sole, claim-wider, share-wider, store-wider, release-anchored}
use Rattle.tests_of_frames.proofs.plain_frames.reports_its_counts.Goals as goal

pub share-requires-clause-held : goal.share-requires-clause-held
share-requires-clause-held g c = opening_holds _ c.in_ok-frames.ensures.seat

pub reserve-requires : goal.reserve-requires
reserve-requires g c = record { fits = fits_after PlainStateInvariant c.share.ensures.keeps ([], c.in_ok-frames.ensures.invariant) }

pub claim-frame-requires-clause-fits : goal.claim-frame-requires-clause-fits
claim-frame-requires-clause-fits g c = fits_after PlainStateInvariant c.reserve.ensures.keeps (fits_after PlainStateInvariant c.share.ensures.keeps ([], c.in_ok-frames.ensures.invariant))

-- 15 frames are free
pub claim-frame-requires-clause-credit : goal.claim-frame-requires-clause-credit
claim-frame-requires-clause-credit g c =
    let enough : 2 ≤ c.share.new.self.free = omega (arith, c.share.ensures.free tt, ap (λ (b : PlainState). b.free) c.in_ok-frames.ensures.store) in
    reserve-credits 2 _ _ _ (lit< tt) ((c.reserve.ensures.exact tt).1 enough) c.reserve.ensures.ok

pub claim-frame-requires-clause-anchored : goal.claim-frame-requires-clause-anchored
claim-frame-requires-clause-anchored g c =
    reserve-wider _ _ _ _ c.reserve.ensures.ok c.reserve.ensures.err 0 (share-wider _ _ _ _ c.share.ensures.ok c.share.ensures.err 0 (opening_holds _ c.in_ok-frames.ensures.seat))

pub store-requires-clause-fits : goal.store-requires-clause-fits
store-requires-clause-fits g c = fits_after PlainStateInvariant c.claim-frame.ensures.keeps (fits_after PlainStateInvariant c.reserve.ensures.keeps (fits_after PlainStateInvariant c.share.ensures.keeps ([], c.in_ok-frames.ensures.invariant)))

pub store-requires-clause-sole : goal.store-requires-clause-sole
store-requires-clause-sole g c = (claim-sole _ _ _ c.claim-frame.ensures.view).1

pub load-requires-clause-fits : goal.load-requires-clause-fits
load-requires-clause-fits g c =
    let f = fits_after PlainStateInvariant c.reserve.ensures.keeps (fits_after PlainStateInvariant c.share.ensures.keeps ([], c.in_ok-frames.ensures.invariant)) in
    fits_after PlainStateInvariant c.store.ensures.keeps (fits_after PlainStateInvariant c.claim-frame.ensures.keeps f)

pub load-requires-clause-held : goal.load-requires-clause-held
load-requires-clause-held g c = store-wider _ _ _ _ _ c.store.ensures.view _ (claim-sole _ _ _ c.claim-frame.ensures.view).0

pub release-requires-clause-fits : goal.release-requires-clause-fits
release-requires-clause-fits g c =
    let f = fits_after PlainStateInvariant c.reserve.ensures.keeps (fits_after PlainStateInvariant c.share.ensures.keeps ([], c.in_ok-frames.ensures.invariant)) in
    fits_after PlainStateInvariant c.load.ensures.keeps (fits_after PlainStateInvariant c.store.ensures.keeps (fits_after PlainStateInvariant c.claim-frame.ensures.keeps f))

pub release-requires-clause-held : goal.release-requires-clause-held
release-requires-clause-held g c =
    rw c.load.ensures.view (store-wider _ _ _ _ _ c.store.ensures.view _ (claim-sole _ _ _ c.claim-frame.ensures.view).0)

pub release-requires-clause-anchored : goal.release-requires-clause-anchored
release-requires-clause-anchored g c =
    let zero = reserve-wider _ _ _ _ c.reserve.ensures.ok c.reserve.ensures.err 0 (share-wider _ _ _ _ c.share.ensures.ok c.share.ensures.err 0 (opening_holds _ c.in_ok-frames.ensures.seat)) in
    let stays = store-wider _ _ _ _ _ c.store.ensures.view 0 (claim-wider _ _ _ c.claim-frame.ensures.view 0 zero) in
    rw c.load.ensures.view (release-anchored _ _ (claim-apart _ _ c.claim-frame.ensures.fresh zero) stays)
