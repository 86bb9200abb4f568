use Rattle.frame_store.specs.Laws.{fits_after}
use Rattle.tests_of_refusals.proofs.Living.{alive_served}
use Rattle.tests_of_refusals.proofs.threads.store_served.Goals as goal

pub serve-requires-clause-fits : goal.serve-requires-clause-fits
serve-requires-clause-fits g c = fits_after g.F.FrameAccess.invariant c.access.ensures.keeps c.requires.fits

pub returns-then-ne-clause-alive : goal.returns-then-ne-clause-alive
returns-then-ne-clause-alive g c =
    let asked = c.serve.ensures.served in
    alive_served _ _ _ _ _ _ _ _ _ _ _ _ _ c.serve.result asked.ended asked.ready asked.whole (λ nothing. (asked.stays nothing).view) asked.place.root asked.place.trapframe asked.place.layout c.access.ensures.alive

pub returns-then-ne-clause-keeps : goal.returns-then-ne-clause-keeps
returns-then-ne-clause-keeps g c others r = c.serve.ensures.served.keeps others (c.access.ensures.keeps others r)

pub access-requires-2-clause-fits : goal.access-requires-2-clause-fits
access-requires-2-clause-fits g c = fits_after g.F.FrameAccess.invariant c.serve.ensures.served.keeps (fits_after g.F.FrameAccess.invariant c.access.ensures.keeps c.requires.fits)

pub access-requires-2-clause-alive : goal.access-requires-2-clause-alive
access-requires-2-clause-alive g c =
    let asked = c.serve.ensures.served in
    alive_served _ _ _ _ _ _ _ _ _ _ _ _ _ c.serve.result asked.ended asked.ready asked.whole (λ nothing. (asked.stays nothing).view) asked.place.root asked.place.trapframe asked.place.layout c.access.ensures.alive

pub returns-clause-keeps : goal.returns-clause-keeps
returns-clause-keeps g c others r = c.access-2.ensures.keeps others (c.serve.ensures.served.keeps others (c.access.ensures.keeps others r))
