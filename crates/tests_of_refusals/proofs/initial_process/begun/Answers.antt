use Rattle.tests_of_refusals.proofs.Seats.{held_when_reserved, opened_fits, opened_keeps, opened_ready}
use Rattle.frame_store.specs.Laws.{fits_after}
use Rattle.tests_of_refusals.proofs.initial_process.begun.Goals as goal

pub share_frame_zero-requires-clause-anchored : goal.share_frame_zero-requires-clause-anchored
share_frame_zero-requires-clause-anchored g c = held_when_reserved _ _ _ c.reserve.result c.reserve.ensures.ok c.reserve.ensures.err c.requires.anchored

pub start-requires-clause-fits : goal.start-requires-clause-fits
start-requires-clause-fits g c =
    let rule = g.F.FrameAccess.invariant in
    opened_fits rule (g.met.F.FrameAccess.comes_front _) c.in_ok-seat.ensures.keeps
    (fits_after rule c.share_frame_zero.ensures.keeps (fits_after rule c.reserve.ensures.keeps c.requires.fits))

pub start-requires-clause-seat : goal.start-requires-clause-seat
start-requires-clause-seat g c = opened_ready _ _ c.in_ok-seat.ensures.opened

pub returns-in-Ok-clause-alive : goal.returns-in-Ok-clause-alive
returns-in-Ok-clause-alive g c = let started = c.in-Ok.ensures.started in (started.0, _, started.1 0)

pub returns-in-Ok-clause-keeps : goal.returns-in-Ok-clause-keeps
returns-in-Ok-clause-keeps g c others r =
    opened_keeps g.F.FrameAccess.invariant (g.met.F.FrameAccess.comes_front _) c.in_ok-seat.ensures.keeps c.in-Ok.ensures.keeps others
    (c.share_frame_zero.ensures.keeps others (c.reserve.ensures.keeps others r))
