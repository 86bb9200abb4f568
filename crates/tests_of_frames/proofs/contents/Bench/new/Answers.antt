use Rattle.std.proofs.Common.{[]}
use Rattle.frame_store.specs.Laws.{fits_after}
use Rattle.frame_store.specs.Plain.{PlainStateInvariant}
use Rattle.tests_of_frames.proofs.OwnedSteps.{reserved_held, not_fresh, still_held, one_sole, other_sole, both_filled}
use Rattle.tests_of_frames.proofs.contents.Bench.new.Goals as goal

pub claim-first-requires-clause-fits : goal.claim-first-requires-clause-fits
claim-first-requires-clause-fits c = fits_after PlainStateInvariant c.reserve.ensures.keeps ([], c.in_ok-store.ensures.invariant)

pub claim-first-requires-clause-anchored : goal.claim-first-requires-clause-anchored
claim-first-requires-clause-anchored c = reserved_held _ _ _ c.in_ok-store.ensures.seat c.in_ok-reserve.ensures.ok

pub claim-second-requires-clause-fits : goal.claim-second-requires-clause-fits
claim-second-requires-clause-fits c =
    fits_after PlainStateInvariant c.claim-first.ensures.keeps (fits_after PlainStateInvariant c.reserve.ensures.keeps ([], c.in_ok-store.ensures.invariant))

pub claim-second-requires-clause-anchored : goal.claim-second-requires-clause-anchored
claim-second-requires-clause-anchored c =
    let zero = reserved_held _ _ _ c.in_ok-store.ensures.seat c.in_ok-reserve.ensures.ok in
    still_held _ _ _ c.claim-first.ensures.view 0 (not_fresh _ 0 _ c.claim-first.ensures.fresh zero) zero

pub fill_frame-requires-clause-fits : goal.fill_frame-requires-clause-fits
fill_frame-requires-clause-fits c =
    let reserved = fits_after PlainStateInvariant c.reserve.ensures.keeps ([], c.in_ok-store.ensures.invariant) in
    fits_after PlainStateInvariant c.claim-second.ensures.keeps (fits_after PlainStateInvariant c.claim-first.ensures.keeps reserved)

pub fill_frame-requires-clause-sole : goal.fill_frame-requires-clause-sole
fill_frame-requires-clause-sole c = one_sole _ _ _ _ _ c.claim-first.ensures.view c.claim-second.ensures.fresh c.claim-second.ensures.view

pub fill_frame-requires-2-clause-fits : goal.fill_frame-requires-2-clause-fits
fill_frame-requires-2-clause-fits c =
    let reserved = fits_after PlainStateInvariant c.reserve.ensures.keeps ([], c.in_ok-store.ensures.invariant) in
    let claims = fits_after PlainStateInvariant c.claim-second.ensures.keeps (fits_after PlainStateInvariant c.claim-first.ensures.keeps reserved) in
    fits_after PlainStateInvariant c.fill_frame.ensures.keeps claims

pub fill_frame-requires-2-clause-sole : goal.fill_frame-requires-2-clause-sole
fill_frame-requires-2-clause-sole c =
    other_sole _ _ _ _ _ c.claim-first.ensures.view c.claim-second.ensures.fresh c.claim-second.ensures.view _ c.fill_frame.ensures.others

pub invariant_of-result : goal.invariant_of-result
invariant_of-result c =
    let claims = c.claim-second.ensures.keeps [] (c.claim-first.ensures.keeps [] (c.reserve.ensures.keeps [] c.in_ok-store.ensures.invariant)) in
    both_filled _ _ _ _ _ c.claim-first.ensures.view c.claim-second.ensures.fresh c.claim-second.ensures.view _ _ _ _
    c.fill_frame.ensures.others c.fill_frame.ensures.bytes c.fill_frame-2.ensures.others c.fill_frame-2.ensures.bytes
    _ (c.fill_frame-2.ensures.keeps [] (c.fill_frame.ensures.keeps [] claims))
