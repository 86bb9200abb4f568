use Rattle.std.proofs.Common.{◌∙◌, arith}
use Rattle.frame_store.specs.View.{words_known}
use Rattle.frame_store.proofs.PlainSteps.{known_there, invariant-many}
use Rattle.frame_store.proofs.plain.PlainFramesFrameAccess.copy.Goals as goal

pub returns-clause-keeps : goal.returns-clause-keeps
returns-clause-keeps c = λ others r.
    let before = rw (← c.self.view_is, ← c.seat.view_is) at r in
    let sole = rw (← c.seat.view_is) at c.requires.sole in
    let known = rw (← c.seat.view_is) at c.requires.known in
    let p = c.copy.ensures in
    rw c.knowing-seat-inside.ensures (invariant-many _ _ _ _ _ c.args.to.0 before 0 512 (words_known c.seat.inside.known.view c.args.from.0) _
    (omega arith) sole p.long
    (λ q from below. p.inside q from below ∙ known_there _ _ _ _ _ c.args.from.0 before q _ (known q (omega (arith, below))))
    p.outside)
