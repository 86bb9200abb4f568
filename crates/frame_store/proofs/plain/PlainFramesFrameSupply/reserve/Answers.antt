use Rattle.std.proofs.Common.{◌≡◌, ◌+◌, arith, refl}
use Rattle.frame_store.specs.View.{with_credits, saw_none}
use Rattle.frame_store.proofs.PlainSteps.{tallied}
use Rattle.frame_store.proofs.plain.PlainFramesFrameSupply.reserve.Goals as goal

pub returns-then-not-enough-clause-keeps : goal.returns-then-not-enough-clause-keeps
returns-then-not-enough-clause-keeps c = λ others r.
    let before = rw (← c.seat.view_is) at r in
    let is : c.knowing-seat-inside.result.view ≡ saw_none (c.seat.inside.known.view.credits + c.self.inside.free) c.seat.inside.known.view = grind (arith, c.knowing-seat-inside.ensures) in
    rw is (tallied _ _ _ _ _ _ _ refl refl refl before)

pub returns-clause-keeps : goal.returns-clause-keeps
returns-clause-keeps c = λ others r.
    let before = rw (← c.self.view_is, ← c.seat.view_is) at r in
    let is : c.knowing-seat-inside.result.view ≡ with_credits c.args.n c.seat.inside.known.view = grind (arith, c.knowing-seat-inside.ensures) in
    rw is (tallied _ _ _ _ _ _ _ refl refl (omega arith) before)
