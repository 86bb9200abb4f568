use Rattle.shared_frames.specs.SeatsOfTable.{fits_still, may_step}
use Rattle.tests_of_frames.proofs.shared_words.work.Goals as goal

pub round-requires-clause-fits : goal.round-requires-clause-fits
round-requires-clause-fits g c = may_step _ _ c.loop.seat c.loop.invariant.same c.loop.invariant.fits

pub loop-preserved : goal.loop-preserved
loop-preserved g c =
    let s = fits_still _ _ _ c.loop.seat c.round.new.seat c.loop.invariant.same c.round.ensures.keeps c.loop.invariant.fits in
    record { same = s.0; fits = s.1; base = c.round.ensures.base }
