use Rattle.std.proofs.Common.{arith, refl}
use Rattle.frame_store.proofs.PlainSteps.{tallied}
use Rattle.frame_store.proofs.plain.PlainFramesFrameAccess.give_back.Goals as goal

pub returns-clause-keeps : goal.returns-clause-keeps
returns-clause-keeps c = λ others r.
    let before = rw (← c.self.view_is, ← c.seat.view_is) at r in
    let enough = rw (← c.seat.view_is) at c.requires.credits in
    rw c.knowing-seat-inside.ensures (tallied _ _ _ _ _ _ _ refl refl (omega (arith, enough)) before)
