use Rattle.std.proofs.Common.{◌≡◌, arith, ap, sym, subst, ◌∙◌, slice_index}
use Rattle.std.proofs.lemmas.List.{get_or-set_same, get_or-set_other}
use Rattle.frame_store.specs.Plain.{PlainState, ListsUnused}
use Rattle.frame_store.proofs.PlainSteps.{invariant-claim}
use Rattle.frame_store.proofs.Unused.{one_taken, last_unused}
use Rattle.frame_store.proofs.plain.PlainFramesFrameSupply.claim.Goals as goal

pub invariant_of-self : goal.invariant_of-self
invariant_of-self c = one_taken _ _ c.in-Some.number 1 (λ e. omega arith) (subst (λ us. ListsUnused us c.self.inside.counts.items) c.in-Some.ensures.items c.self.invariant)

pub returns-clause-fresh : goal.returns-clause-fresh
returns-clause-fresh c =
    let last = last_unused _ _ c.in-Some.number (subst (λ us. ListsUnused us c.self.inside.counts.items) c.in-Some.ensures.items c.self.invariant) in
    let total = c.requires.fits.1.counted c.in-Some.number in
    let same : slice_index c.args.self.now.counts c.in-Some.number ≡ slice_index c.self.inside.counts.items c.in-Some.number = ap (λ (b : PlainState). slice_index b.counts c.in-Some.number) (sym c.self.view_is) in
    omega (arith, total, same, last.1)

pub returns-clause-keeps : goal.returns-clause-keeps
returns-clause-keeps c = λ others r.
    let last = last_unused _ _ c.in-Some.number (subst (λ us. ListsUnused us c.self.inside.counts.items) c.in-Some.ensures.items c.self.invariant) in
    let before = rw (← c.self.view_is, ← c.seat.view_is) at r in
    rw c.knowing-seat-inside.ensures (invariant-claim _ _ _ _ _ c.in-Some.number before last.0 last.1 (rw (← c.seat.view_is) at c.requires.credit))

pub returns-clause-was_free : goal.returns-clause-was_free
returns-clause-was_free c = λ a.
    let last = last_unused _ _ c.in-Some.number (subst (λ us. ListsUnused us c.self.inside.counts.items) c.in-Some.ensures.items c.self.invariant) in
    ap (λ (b : PlainState). slice_index b.counts c.in-Some.number) (sym c.self.view_is) ∙ last.1

pub returns-clause-counts : goal.returns-clause-counts
returns-clause-counts c = λ a.
    let last = last_unused _ _ c.in-Some.number (subst (λ us. ListsUnused us c.self.inside.counts.items) c.in-Some.ensures.items c.self.invariant) in
    record {
      here = get_or-set_same c.self.inside.counts.items c.in-Some.number 1 0 last.0;
      apart = λ g ne. get_or-set_other c.self.inside.counts.items c.in-Some.number g 1 0 ne ∙ ap (λ (b : PlainState). slice_index b.counts g) c.self.view_is;
    }
