use Rattle.frame_store.specs.Laws.{fits_after}
use Rattle.tests_of_processes.proofs.Living.{space_still}
use Rattle.tests_of_processes.proofs.perform.touch.Goals as goal

pub user_access-requires-clause-fits : goal.user_access-requires-clause-fits
user_access-requires-clause-fits g c = fits_after g.F.FrameAccess.invariant c.translate-walk.ensures.keeps c.requires.fits

pub user_access-requires-clause-ready : goal.user_access-requires-clause-ready
user_access-requires-clause-ready g c =
    let alive = c.requires.alive in
    let read = c.translate-walk.ensures in
    let still = space_still _ _ _ _ _ _ _ _ read.reads.view read.reads.root read.reads.trapframe read.reads.layout alive.0 alive.1 alive.2 in
    (alive.0, alive.1, still, read.walk alive.0 alive.1 alive.2)

pub returns-clause-alive : goal.returns-clause-alive
returns-clause-alive g c =
    let alive = c.requires.alive in
    let read = c.translate-walk.ensures in
    let still = space_still _ _ _ _ _ _ _ _ read.reads.view read.reads.root read.reads.trapframe read.reads.layout alive.0 alive.1 alive.2 in
    (alive.0, _, c.user_access.ensures.after alive.0 alive.1 still (read.walk alive.0 alive.1 alive.2))

pub returns-clause-keeps : goal.returns-clause-keeps
returns-clause-keeps g c others r = c.user_access.ensures.keeps others (c.translate-walk.ensures.keeps others r)
