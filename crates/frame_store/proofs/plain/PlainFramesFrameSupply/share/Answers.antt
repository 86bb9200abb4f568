use Rattle.std.proofs.Common.{◌≡◌, arith, refl, slice_index}
use Rattle.std.proofs.lemmas.Grind.{common_steps}
use Rattle.frame_store.specs.View.{shared, read_full}
use Rattle.frame_store.proofs.PlainSteps.{invariant-share, tallied}
use Rattle.frame_store.proofs.plain.PlainFramesFrameSupply.share.Goals as goal

pub returns-then-not-room-clause-keeps : goal.returns-then-not-room-clause-keeps
returns-then-not-room-clause-keeps c = λ others r.
    let before = rw (← c.seat.view_is) at r in
    let is : c.knowing-seat-inside.result.view ≡ read_full c.seat.inside.known.view = grind (arith, c.knowing-seat-inside.ensures) in
    rw is (tallied _ _ _ _ _ _ _ refl refl refl before)

pub returns-clause-keeps : goal.returns-clause-keeps
returns-clause-keeps c = λ others r.
    let was : c.index-count.result.now ≡ slice_index c.self.inside.counts.items c.args.frame.0 = grind (arith, common_steps, c.index-count.ensures) in
    let before = rw (← c.self.view_is, ← c.seat.view_is) at r in
    let is : c.knowing-seat-inside.result.view ≡ shared c.args.frame.0 c.seat.inside.known.view = grind (arith, c.knowing-seat-inside.ensures) in
    rw (is, was) (invariant-share _ _ _ _ _ c.args.frame.0 before (rw (← c.seat.view_is) at c.requires.held))
