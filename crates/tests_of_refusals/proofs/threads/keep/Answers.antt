use Rattle.frame_store.specs.Laws.{fits_after}
use Rattle.tests_of_refusals.proofs.threads.keep.Goals as goal

pub store_served-second-requires-clause-fits : goal.store_served-second-requires-clause-fits
store_served-second-requires-clause-fits g c = fits_after g.F.FrameAccess.invariant c.store_served-first.ensures.keeps c.requires.fits

pub access-there-requires-clause-fits : goal.access-there-requires-clause-fits
access-there-requires-clause-fits g c =
    fits_after g.F.FrameAccess.invariant c.store_served-second.ensures.keeps (fits_after g.F.FrameAccess.invariant c.store_served-first.ensures.keeps c.requires.fits)

pub access-there_too-requires-clause-fits : goal.access-there_too-requires-clause-fits
access-there_too-requires-clause-fits g c =
    fits_after g.F.FrameAccess.invariant c.access-there.ensures.keeps
    (fits_after g.F.FrameAccess.invariant c.store_served-second.ensures.keeps (fits_after g.F.FrameAccess.invariant c.store_served-first.ensures.keeps c.requires.fits))

pub returns-then-eq-clause-keeps : goal.returns-then-eq-clause-keeps
returns-then-eq-clause-keeps g c others r =
    c.access-there_too.ensures.keeps others (c.access-there.ensures.keeps others (c.store_served-second.ensures.keeps others (c.store_served-first.ensures.keeps others r)))

pub returns-else-eq-clause-keeps : goal.returns-else-eq-clause-keeps
returns-else-eq-clause-keeps g c others r =
    c.access-there_too.ensures.keeps others (c.access-there.ensures.keeps others (c.store_served-second.ensures.keeps others (c.store_served-first.ensures.keeps others r)))
