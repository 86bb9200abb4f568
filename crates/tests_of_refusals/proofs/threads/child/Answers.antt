use Rattle.shared_frames.specs.SeatsOfTable.{fits_still, may_step}
use Rattle.tests_of_refusals.proofs.Living.{alive_forked}
use Rattle.tests_of_refusals.proofs.Seats.{fits_both}
use Rattle.tests_of_refusals.proofs.threads.child.Goals as goal

pub fork-requires-clause-fits : goal.fork-requires-clause-fits
fork-requires-clause-fits g c = may_step _ _ c.args.parent.now.seat c.supply.ensures c.requires.ready.0

pub returns-in_err-space-clause-ready : goal.returns-in_err-space-clause-ready
returns-in_err-space-clause-ready g c =
    let alive = c.requires.ready.1 in
    let failed = c.in_err-space.ensures in
    ((fits_still _ _ _ c.args.parent.now.seat c.fork.new.space.seat c.supply.ensures failed.keeps_refused c.requires.ready.0).1, (alive.0, alive.1, failed.whole alive.0 alive.1 alive.2))

pub returns-clause-ready : goal.returns-clause-ready
returns-clause-ready g c =
    let forked = c.in_ok-space.ensures in
    ((fits_both _ _ _ c.args.parent.now.seat c.fork.new.space.seat c.in_ok-space.space.seat c.supply.ensures forked.keeps c.requires.ready.0).0, (alive_forked _ _ _ forked.forked c.requires.ready.1).0)

pub returns-clause-job : goal.returns-clause-job
returns-clause-job g c =
    let forked = c.in_ok-space.ensures in
    ((fits_both _ _ _ c.args.parent.now.seat c.fork.new.space.seat c.in_ok-space.space.seat c.supply.ensures forked.keeps c.requires.ready.0).1, (alive_forked _ _ _ forked.forked c.requires.ready.1).1)
