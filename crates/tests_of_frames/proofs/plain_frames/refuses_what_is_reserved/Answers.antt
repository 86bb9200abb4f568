use Rattle.std.proofs.Common.{[]}
use Rattle.tests_of_frames.proofs.SeatSteps.{empty-anchored, turn}
use Rattle.tests_of_frames.proofs.plain_frames.refuses_what_is_reserved.Goals as goal

pub split-second-requires-clause-right_anchored : goal.split-second-requires-clause-right_anchored
split-second-requires-clause-right_anchored g c = empty-anchored _

pub reserve-requires-2 : goal.reserve-requires-2
reserve-requires-2 g c =
    let r = c.reserve.ensures.keeps _ (c.split-second.ensures.keeps [] c.in_ok-frames.ensures.invariant) in
    record { fits = (_, turn _ _ _ r) }

pub give_back-requires-clause-fits : goal.give_back-requires-clause-fits
give_back-requires-clause-fits g c =
    let r = c.reserve.ensures.keeps _ (c.split-second.ensures.keeps [] c.in_ok-frames.ensures.invariant) in
    (_, turn _ _ _ (c.reserve-2.ensures.keeps _ (turn _ _ _ r)))

pub reserve-requires-3 : goal.reserve-requires-3
reserve-requires-3 g c =
    let r = c.reserve.ensures.keeps _ (c.split-second.ensures.keeps [] c.in_ok-frames.ensures.invariant) in
    let q = c.reserve-2.ensures.keeps _ (turn _ _ _ r) in
    record { fits = (_, turn _ _ _ (c.give_back.ensures.keeps _ (turn _ _ _ q))) }
