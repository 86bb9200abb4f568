use Rattle.std.proofs.Common.{◌≡◌, arith, ap, ◌∙◌, slice_index}
use Rattle.std.proofs.lemmas.Grind.{common_steps}
use Rattle.frame_store.specs.Plain.{PlainState}
use Rattle.frame_store.proofs.PlainSteps.{invariant-look}
use Rattle.frame_store.proofs.plain.PlainFramesFrameAccess.look.Goals as goal

pub returns-clause-some : goal.returns-clause-some
returns-clause-some c =
    let here : c.index.result.now ≡ slice_index c.self.inside.counts.items c.args.frame.0 = grind (arith, common_steps, c.index.ensures) in
    let same : slice_index c.self.inside.counts.items c.args.frame.0 ≡ slice_index c.args.self.now.counts c.args.frame.0 = ap (λ (b : PlainState). slice_index b.counts c.args.frame.0) c.self.view_is in
    let invariant = c.requires.fits.1 in
    let total = invariant.counted c.args.frame.0 in
    let held = c.requires.held in
    omega (arith, here, same, total, held)

pub returns-clause-keeps : goal.returns-clause-keeps
returns-clause-keeps c = λ others r.
    let here : c.index.result.now ≡ slice_index c.self.inside.counts.items c.args.frame.0 = grind (arith, common_steps, c.index.ensures) in
    let before = rw (← c.seat.view_is) at r in
    rw c.knowing-seat-inside.ensures (invariant-look _ _ _ _ _ c.args.frame.0 before _ (here ∙ ap (λ (b : PlainState). slice_index b.counts c.args.frame.0) c.self.view_is) (rw (← c.seat.view_is) at c.requires.held))
