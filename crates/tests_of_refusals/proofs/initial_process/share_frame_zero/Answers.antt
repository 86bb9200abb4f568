use Rattle.frame_store.specs.Laws.{fits_after}
use Rattle.tests_of_refusals.proofs.Seats.{held_when_shared}
use Rattle.tests_of_refusals.proofs.initial_process.share_frame_zero.Goals as goal

pub share-requires-clause-fits : goal.share-requires-clause-fits
share-requires-clause-fits g c = fits_after g.F.FrameAccess.invariant c.times.invariant.keeps c.requires.fits

pub returns-in_err-share-clause-anchored : goal.returns-in_err-share-clause-anchored
returns-in_err-share-clause-anchored g c = held_when_shared _ _ _ c.share.ensures.ok c.share.ensures.err c.times.invariant.anchored

pub returns-in_err-share-clause-keeps : goal.returns-in_err-share-clause-keeps
returns-in_err-share-clause-keeps g c others r = c.share.ensures.keeps others (c.times.invariant.keeps others r)

pub times-preserved : goal.times-preserved
times-preserved g c = record {
  anchored = held_when_shared _ _ _ c.share.ensures.ok c.share.ensures.err c.times.invariant.anchored;
  keeps = λ others r. c.share.ensures.keeps others (c.times.invariant.keeps others r);
}
