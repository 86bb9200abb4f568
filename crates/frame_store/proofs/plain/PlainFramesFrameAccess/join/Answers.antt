use Rattle.frame_store.proofs.Seating.{invariant-join}
use Rattle.frame_store.proofs.plain.PlainFramesFrameAccess.join.Goals as goal

pub returns-clause-keeps : goal.returns-clause-keeps
returns-clause-keeps c = λ others r. rw c.knowing-seat-inside.ensures (invariant-join _ _ _ _ _ _ (rw (← c.seat.view_is, ← c.other.view_is) at r))
