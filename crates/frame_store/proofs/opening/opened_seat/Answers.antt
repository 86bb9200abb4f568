use Rattle.std.proofs.Common.{◌∙◌, sym, subst}
use Rattle.frame_store.specs.View.{IsHeld}
use Rattle.frame_store.specs.SeatOpening.{opener_held}
use Rattle.frame_store.proofs.SeatSteps.{can_split, full_held, left_anchored, right_anchored, split_left, split_right}
use Rattle.frame_store.proofs.opening.opened_seat.Goals as goal

pub split-requires-clause-held : goal.split-requires-clause-held
split-requires-clause-held g c = can_split _ _ c.requires.anchored c.in_ok-share.ensures.ok

pub split-requires-clause-left_anchored : goal.split-requires-clause-left_anchored
split-requires-clause-left_anchored g c = left_anchored _ _ c.requires.anchored c.in_ok-share.ensures.ok

pub split-requires-clause-right_anchored : goal.split-requires-clause-right_anchored
split-requires-clause-right_anchored g c = right_anchored _ _ c.requires.anchored c.in_ok-share.ensures.ok

pub returns-clause-opener : goal.returns-clause-opener
returns-clause-opener g c = c.split.ensures.left ∙ split_left _ _ c.requires.anchored c.in_ok-share.ensures.ok

pub returns-clause-opened : goal.returns-clause-opened
returns-clause-opened g c = c.split.ensures.right ∙ split_right _ _ c.requires.anchored c.in_ok-share.ensures.ok

pub returns-in_err-share-clause-anchored : goal.returns-in_err-share-clause-anchored
returns-in_err-share-clause-anchored g c = full_held _ _ c.in_err-share.ensures.err c.requires.anchored

pub returns-clause-anchored : goal.returns-clause-anchored
returns-clause-anchored g c =
    subst (λ v. IsHeld v 0) (sym (c.split.ensures.left ∙ split_left _ _ c.requires.anchored c.in_ok-share.ensures.ok)) (opener_held _ c.requires.anchored)
