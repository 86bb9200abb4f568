use Rattle.std.proofs.Common.{◌-◌, arith}
use Rattle.frame_store.proofs.PlainSteps.{invariant-many, sole_room}
use Rattle.frame_store.proofs.plain.PlainFramesFrameAccess.clear.Goals as goal

pub clear-requires : goal.clear-requires
clear-requires c =
    let before = rw (← c.self.view_is) at c.requires.fits.1 in
    record { room = sole_room _ _ _ _ _ c.args.frame.0 before c.requires.sole; in_page = c.requires.in_page }

pub returns-clause-keeps : goal.returns-clause-keeps
returns-clause-keeps c = λ others r.
    let before = rw (← c.self.view_is, ← c.seat.view_is) at r in
    let sole = rw (← c.seat.view_is) at c.requires.sole in
    let p = c.clear.ensures in
    rw c.knowing-seat-inside.ensures (invariant-many _ _ _ _ _ c.args.frame.0 before c.args.first (512 - c.args.first) (λ _. 0) _
    (omega (arith, c.requires.in_page)) sole p.long p.inside p.outside)
