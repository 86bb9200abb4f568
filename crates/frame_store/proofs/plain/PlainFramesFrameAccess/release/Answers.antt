use Rattle.std.proofs.Common.{◌≡◌, ◌≢◌, lit<, ◌+◌, ◌-◌, ◌<◌, arith, refl, ap, sym, slice_index}
use Rattle.std.proofs.lemmas.Bool.{ne_eqb, eq-eqb}
use Rattle.std.proofs.lemmas.Grind.{common_steps}
use Rattle.frame_store.specs.Plain.{PlainState}
use Rattle.frame_store.proofs.PlainSteps.{invariant-release, in_counts}
use Rattle.frame_store.proofs.Unused.{one_back, room_left}
use Rattle.frame_store.proofs.plain.PlainFramesFrameAccess.release.Goals as goal

pub returns-then-count-gt1-clause-keeps : goal.returns-then-count-gt1-clause-keeps
returns-then-count-gt1-clause-keeps c = λ others r.
    let was : c.index-count.result.now ≡ slice_index c.self.inside.counts.items c.args.frame.0 = grind (arith, common_steps, c.index-count.ensures) in
    let before = rw (← c.self.view_is, ← c.seat.view_is) at r in
    let more : slice_index c.self.inside.counts.items c.args.frame.0 ≢ 1 = λ e. omega (arith, was, e, c.if-count-gt1.true) in
    rw (c.knowing-seat-inside.ensures, was) (invariant-release _ _ _ _ _ c.args.frame.0 before (rw (← c.seat.view_is) at c.requires.held) c.self.inside.free (rw (ne_eqb _ 1 more) (omega arith)))

pub push-requires : goal.push-requires
push-requires c =
    let was : c.index-count.result.now ≡ slice_index c.self.inside.counts.items c.args.frame.0 = grind (arith, common_steps, c.index-count.ensures) in
    let total = c.requires.fits.1.counted c.args.frame.0 in
    let same : slice_index c.args.self.now.counts c.args.frame.0 ≡ slice_index c.self.inside.counts.items c.args.frame.0 = ap (λ (b : PlainState). slice_index b.counts c.args.frame.0) (sym c.self.view_is) in
    let some : 0 < slice_index c.self.inside.counts.items c.args.frame.0 = omega (arith, total, same, c.requires.held) in
    (lit< tt, room_left _ _ c.args.frame.0 (λ e. omega (arith, some, e)) (in_counts _ _ some) c.self.invariant)

pub invariant_of-self-2 : goal.invariant_of-self-2
invariant_of-self-2 c =
    let was : c.index-count.result.now ≡ slice_index c.self.inside.counts.items c.args.frame.0 = grind (arith, common_steps, c.index-count.ensures) in
    let total = c.requires.fits.1.counted c.args.frame.0 in
    let same : slice_index c.args.self.now.counts c.args.frame.0 ≡ slice_index c.self.inside.counts.items c.args.frame.0 = ap (λ (b : PlainState). slice_index b.counts c.args.frame.0) (sym c.self.view_is) in
    let some : 0 < slice_index c.self.inside.counts.items c.args.frame.0 = omega (arith, total, same, c.requires.held) in
    let none : c.index-count.result.now - 1 ≡ 0 = omega (arith, c.if-count-gt1.false) in
    rw (c.push.ensures.items, none) (one_back _ _ c.args.frame.0 (λ e. omega (arith, some, e)) (in_counts _ _ some) c.self.invariant)

pub returns-clause-keeps : goal.returns-clause-keeps
returns-clause-keeps c = λ others r.
    let was : c.index-count.result.now ≡ slice_index c.self.inside.counts.items c.args.frame.0 = grind (arith, common_steps, c.index-count.ensures) in
    let before = rw (← c.self.view_is, ← c.seat.view_is) at r in
    let total = c.requires.fits.1.counted c.args.frame.0 in
    let same : slice_index c.args.self.now.counts c.args.frame.0 ≡ slice_index c.self.inside.counts.items c.args.frame.0 = ap (λ (b : PlainState). slice_index b.counts c.args.frame.0) (sym c.self.view_is) in
    let one : slice_index c.self.inside.counts.items c.args.frame.0 ≡ 1 = omega (arith, total, same, c.requires.held, was, c.if-count-gt1.false) in
    rw (c.knowing-seat-inside.ensures, was) (invariant-release _ _ _ _ _ c.args.frame.0 before (rw (← c.seat.view_is) at c.requires.held) (c.self.inside.free + 1) (rw (eq-eqb _ 1 one) refl))
