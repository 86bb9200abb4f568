use Rattle.std.proofs.Common.{rules, refl}
use Rattle.shared_frames.specs.SeatsOfTable.{fits_still, may_step, fits_parted}
use Rattle.tests_of_frames.proofs.SeatSteps.{share-wider, share-two, left-base, right-base}
use Rattle.tests_of_frames.proofs.shared_words.another.Goals as goal

pub returns-in_err-share-clause-fits : goal.returns-in_err-share-clause-fits
returns-in_err-share-clause-fits g c = ((fits_still _ _ _ c.args.seat.now c.share.new.seat c.supply-supply.ensures c.share.ensures.keeps c.requires.fits).1, search rules)

pub returns-in_err-share-clause-base : goal.returns-in_err-share-clause-base
returns-in_err-share-clause-base g c = (share-wider _ _ _ _ c.share.ensures.ok c.share.ensures.err 0 c.requires.base, search rules)

pub split-requires-clause-fits : goal.split-requires-clause-fits
split-requires-clause-fits g c = let s = fits_still _ _ _ c.args.seat.now c.share.new.seat c.supply-supply.ensures c.share.ensures.keeps c.requires.fits in may_step _ _ c.share.new.seat s.0 s.1

pub split-requires-clause-held : goal.split-requires-clause-held
split-requires-clause-held g c = (share-wider _ _ _ _ c.share.ensures.ok c.share.ensures.err 0 c.requires.base, tt)

pub split-requires-clause-left_anchored : goal.split-requires-clause-left_anchored
split-requires-clause-left_anchored g c = λ _ _. left-base _ _ (share-two _ _ c.requires.base c.in_ok-share.ensures.ok) refl

pub split-requires-clause-right_anchored : goal.split-requires-clause-right_anchored
split-requires-clause-right_anchored g c = λ _ _. right-base c.share.new.seat.seat.me.0 _ refl

pub returns-clause-fits : goal.returns-clause-fits
returns-clause-fits g c = let s = fits_still _ _ _ c.args.seat.now c.share.new.seat c.supply-supply.ensures c.share.ensures.keeps c.requires.fits in fits_parted _ _ _ c.share.new.seat c.split.new.seat c.split.result s.0 c.split.ensures.same c.split.ensures.keeps s.1

pub returns-clause-base : goal.returns-clause-base
returns-clause-base g c = (left-base _ _ (share-two _ _ c.requires.base c.in_ok-share.ensures.ok) c.split.ensures.left, right-base c.share.new.seat.seat.me.0 _ c.split.ensures.right)
