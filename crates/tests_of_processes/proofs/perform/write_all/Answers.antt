use Rattle.address_space.specs.SpacesInCalls.{space_in_call}
use Rattle.frame_store.specs.Laws.{fits_after}
use Rattle.tests_of_processes.proofs.Living.{alive_still, space_still}
use Rattle.tests_of_processes.proofs.perform.write_all.Goals as goal

pub returns-in-Err-clause-alive : goal.returns-in-Err-clause-alive
returns-in-Err-clause-alive g c =
    let asked = c.promise_write_back.ensures in alive_still _ _ _ _ _ _ _ _ asked.reads.view asked.reads.root asked.reads.trapframe asked.reads.layout c.requires.alive

pub write_back-requires-clause-fits : goal.write_back-requires-clause-fits
write_back-requires-clause-fits g c = fits_after g.F.FrameAccess.invariant c.promise_write_back.ensures.keeps c.requires.fits

pub write_back-requires-clause-ready : goal.write_back-requires-clause-ready
write_back-requires-clause-ready g c =
    let alive = c.requires.alive in
    let asked = c.promise_write_back.ensures in
    let still = space_still _ _ _ _ _ _ _ _ asked.reads.view asked.reads.root asked.reads.trapframe asked.reads.layout alive.0 alive.1 alive.2 in
    (alive.0, alive.1, space_in_call still, c.in-Ok.ensures.promised alive.0 alive.1 alive.2)

pub returns-in-Ok-clause-alive : goal.returns-in-Ok-clause-alive
returns-in-Ok-clause-alive g c =
    let asked = c.promise_write_back.ensures in
    let written = c.write_back.ensures in
    alive_still _ _ _ _ _ _ _ _ written.reads.view written.reads.root written.reads.trapframe written.reads.layout
    (alive_still _ _ _ _ _ _ _ _ asked.reads.view asked.reads.root asked.reads.trapframe asked.reads.layout c.requires.alive)

pub returns-in-Ok-clause-keeps : goal.returns-in-Ok-clause-keeps
returns-in-Ok-clause-keeps g c others r = c.write_back.ensures.keeps others (c.promise_write_back.ensures.keeps others r)
