use Rattle.frame_store.specs.Laws.{fits_after}
use Rattle.tests_of_frames.proofs.SeatSteps.{reserve-wider, claim-sole, look-wider, share-wider}
use Rattle.tests_of_frames.proofs.clients.shared_to_the_most.Goals as goal

pub claim-frame-requires-clause-anchored : goal.claim-frame-requires-clause-anchored
claim-frame-requires-clause-anchored g c = reserve-wider _ _ _ _ c.reserve.ensures.ok c.reserve.ensures.err 0 c.requires.anchored

pub look-first-requires-clause-held : goal.look-first-requires-clause-held
look-first-requires-clause-held g c = (claim-sole _ _ _ c.claim-frame.ensures.view).0

pub times-init : goal.times-init
times-init g c =
    let invariant = g.F.FrameAccess.invariant in
    record {
      fits = fits_after invariant c.look-first.ensures.keeps (fits_after invariant c.claim-frame.ensures.keeps (fits_after invariant c.reserve.ensures.keeps c.requires.fits));
      held = look-wider _ _ _ _ c.look-first.ensures.view _ (claim-sole _ _ _ c.claim-frame.ensures.view).0;
    }

pub times-preserved : goal.times-preserved
times-preserved g c = record {
  fits = fits_after g.F.FrameAccess.invariant c.share.ensures.keeps c.times.invariant.fits;
  held = share-wider _ _ _ _ c.share.ensures.ok c.share.ensures.err _ c.times.invariant.held;
}

pub look-requires-clause-held : goal.look-requires-clause-held
look-requires-clause-held g c = share-wider _ _ _ _ c.share.ensures.ok c.share.ensures.err _ c.times.invariant.held
