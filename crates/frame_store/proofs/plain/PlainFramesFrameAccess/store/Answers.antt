use Rattle.frame_store.proofs.PlainSteps.{invariant-store}
use Rattle.frame_store.proofs.plain.PlainFramesFrameAccess.store.Goals as goal

pub returns-clause-keeps : goal.returns-clause-keeps
returns-clause-keeps c = λ others r.
    let before = rw (← c.self.view_is, ← c.seat.view_is) at r in
    rw (c.knowing-seat-inside.ensures, c.put.ensures) (invariant-store _ _ _ _ _ c.args.frame.0 before c.args.index c.args.value c.requires.in_page (rw (← c.seat.view_is) at c.requires.sole))
