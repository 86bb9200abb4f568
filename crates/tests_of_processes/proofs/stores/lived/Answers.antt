use Rattle.frame_store.specs.Laws.{fits_after}
use Rattle.tests_of_processes.proofs.stores.lived.Goals as goal

pub first_wrong-wrong-requires-clause-alive : goal.first_wrong-wrong-requires-clause-alive
first_wrong-wrong-requires-clause-alive g c = let built = c.in_ok-space.ensures.built in (built.0, _, built.1 0)

pub first_wrong-wrong-requires-clause-fits : goal.first_wrong-wrong-requires-clause-fits
first_wrong-wrong-requires-clause-fits g c = fits_after g.F.FrameAccess.invariant c.in_ok-space.ensures.keeps c.requires.fits

pub destroy-requires-clause-fits : goal.destroy-requires-clause-fits
destroy-requires-clause-fits g c = fits_after g.F.FrameAccess.invariant c.first_wrong-wrong.ensures.keeps (fits_after g.F.FrameAccess.invariant c.in_ok-space.ensures.keeps c.requires.fits)

pub returns-clause-keeps : goal.returns-clause-keeps
returns-clause-keeps g c others r = c.destroy.ensures.keeps others (c.first_wrong-wrong.ensures.keeps others (c.in_ok-space.ensures.keeps others r))
