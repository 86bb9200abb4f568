use Rattle.std.proofs.Common.{◌*◌, ◌/◌, arith, length, take, drop}
use Rattle.std.specs.Int.{from_le_bytes, w64}
use Rattle.frame_store.proofs.PlainSteps.{invariant-many}
use Rattle.frame_store.proofs.plain.PlainFramesFrameAccess.fill.Goals as goal

pub returns-clause-keeps : goal.returns-clause-keeps
returns-clause-keeps c = λ others r.
    let before = rw (← c.self.view_is, ← c.seat.view_is) at r in
    let sole = rw (← c.seat.view_is) at c.requires.sole in
    let p = c.fill.ensures in
    rw c.knowing-seat-inside.ensures (invariant-many _ _ _ _ _ c.args.frame.0 before 0 (length c.args.bytes.now / 8) (λ i. from_le_bytes w64 (take 8 (drop (8 * i) c.args.bytes.now))) _
    (omega (arith, c.requires.in_page)) sole p.long p.inside p.outside)
