use Rattle.frame_store.specs.View.{empty_view}
use Rattle.frame_store.specs.Plain.{invariant-empty}
use Rattle.frame_store.proofs.Seating.{invariant-split}
use Rattle.frame_store.proofs.plain.PlainFramesFrameSupply.split.Goals as goal

pub returns-clause-keeps : goal.returns-clause-keeps
returns-clause-keeps c = λ others r.
    let before = rw (← c.seat.view_is) at r in
    rw (c.knowing-seat-inside.ensures, c.knowing.ensures) (invariant-split _ _ _ _ _ (empty_view _) _ (rw (← c.seat.view_is) at c.requires.held) (invariant-empty _ _ _ _ _ before))
