use Rattle.shared_frames.specs.SeatsOfTable.{fits_still, may_step}
use Rattle.tests_of_frames.proofs.SeatSteps.{reserve-wider, claim-sole, store-wider}
use Rattle.tests_of_frames.proofs.shared_words.fill.Goals as goal

pub returns-then-is_err-clause-fits : goal.returns-then-is_err-clause-fits
returns-then-is_err-clause-fits g c = (fits_still _ _ _ c.args.seat c.reserve.new.seat c.supply-supply.ensures c.reserve.ensures.keeps c.requires.fits).1

pub claim-frame-requires-clause-fits : goal.claim-frame-requires-clause-fits
claim-frame-requires-clause-fits g c = let s = fits_still _ _ _ c.args.seat c.reserve.new.seat c.supply-supply.ensures c.reserve.ensures.keeps c.requires.fits in may_step _ _ c.reserve.new.seat s.0 s.1

pub claim-frame-requires-clause-anchored : goal.claim-frame-requires-clause-anchored
claim-frame-requires-clause-anchored g c = reserve-wider _ _ _ _ c.reserve.ensures.ok c.reserve.ensures.err 0 c.requires.base

pub store-requires-clause-fits : goal.store-requires-clause-fits
store-requires-clause-fits g c =
    let s = fits_still _ _ _ c.args.seat c.reserve.new.seat c.supply-supply.ensures c.reserve.ensures.keeps c.requires.fits in
    let t = fits_still _ _ _ c.reserve.new.seat c.claim-frame.new.seat s.0 c.claim-frame.ensures.keeps s.1 in may_step _ _ c.claim-frame.new.seat t.0 t.1

pub store-requires-clause-sole : goal.store-requires-clause-sole
store-requires-clause-sole g c = (claim-sole _ _ _ c.claim-frame.ensures.view).1

pub returns-clause-fits : goal.returns-clause-fits
returns-clause-fits g c =
    let s = fits_still _ _ _ c.args.seat c.reserve.new.seat c.supply-supply.ensures c.reserve.ensures.keeps c.requires.fits in
    let t = fits_still _ _ _ c.reserve.new.seat c.claim-frame.new.seat s.0 c.claim-frame.ensures.keeps s.1 in
    (fits_still _ _ _ c.claim-frame.new.seat c.store.new.seat t.0 c.store.ensures.keeps t.1).1

pub returns-clause-held : goal.returns-clause-held
returns-clause-held g c = store-wider _ _ _ _ _ c.store.ensures.view _ (claim-sole _ _ _ c.claim-frame.ensures.view).0
